-- When a glob pattern matches a text, over the characters of both (Client-Server API v1.11,
-- "Conditions for push rules", event_match).
use Rattle.std.specs.Prelude.{◌≡◌, ℕ, ◌≤◌, ◌==◌, List, [], ◌∷◌, drop, length, MatchBool}

-- The character `*`.
abbrev pub star : ℕ
star = 42

-- The character `?`.
abbrev pub question : ℕ
question = 63

-- Some suffix of the text is such.
abbrev pub SomeSuffix : (List ℕ → Type 0) → List ℕ → Type 0
SomeSuffix Rest text = (k : ℕ) × (k ≤ length text) × Rest (drop k text)

-- The text isn't empty, and its tail is such.
abbrev pub AfterAny : (List ℕ → Type 0) → List ℕ → Type 0
AfterAny Rest [] = ⊥
AfterAny Rest (first ∷ tail) = Rest tail

-- The text begins with c, and its tail is such.
abbrev pub After : ℕ → (List ℕ → Type 0) → List ℕ → Type 0
After c Rest [] = ⊥
After c Rest (first ∷ tail) = (first ≡ c) × Rest tail

-- The pattern matches the text, by cases on the pattern: the empty one, '*', '?', another character.
abbrev pub Matches : List ℕ → List ℕ → Type 0
Matches [] text = text ≡ []
Matches (c ∷ rest) text =
    MatchBool (c == star)
    (SomeSuffix (Matches rest) text)
    (MatchBool (c == question) (AfterAny (Matches rest) text) (After c (Matches rest) text))
