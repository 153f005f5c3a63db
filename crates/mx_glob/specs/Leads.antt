-- How the search goes through a text: ours. A segment is a part of a pattern between stars.
use Rattle.std.specs.Prelude.{◌≡◌, ℕ, ◌+◌, ◌-◌, ◌<◌, ◌≤◌, ◌==◌, Bool, false, ◌||◌, List, [], ◌∷◌, length, Option, Some}
use Rattle.std.specs.Prelude.{None, slice_get, slice_range, IsTrue, MatchBool, MatchOption}
use Rattle.mx_glob.specs.Glob.{star, question}
use Rattle.mx_glob.specs.Words.{is_outside, character_before, IsWordAt}
use Rattle.mx_glob.specs.declared.rest.End.{End}
use Rattle.mx_glob.specs.declared.rest.End.TheVariants.{Text, Word}

-- A character of a segment takes a character of the text.
abbrev pub takes : ℕ → ℕ → Bool
takes wanted here = (wanted == question) || (wanted == here)

-- It takes the one that stands at a place.
abbrev pub TakesAt : List ℕ → ℕ → ℕ → Type 0
TakesAt text wanted k = MatchOption (slice_get text k) ⊥ (λ here. IsTrue (takes wanted here))

-- The segment's first character, if any, takes this one.
abbrev pub TakesFirst : List ℕ → Option ℕ → Type 0
TakesFirst [] here = Unit {0}
TakesFirst (wanted ∷ segment) here = MatchOption here ⊥ (λ c. IsTrue (takes wanted c))

-- The segment takes the characters from a place on.
abbrev pub FitsAt : List ℕ → List ℕ → ℕ → Type 0
FitsAt text [] k = Unit {0}
FitsAt text (wanted ∷ segment) k = TakesAt text wanted k × FitsAt text segment (k + 1)

-- No character is a star.
abbrev pub IsPlain : List ℕ → Type 0
IsPlain [] = Unit {0}
IsPlain (c ∷ segment) = (c == star ≡ false) × IsPlain segment

-- The pattern leads from a place of the text to one where it may end.
abbrev pub Leads : (ℕ → Bool) → List ℕ → List ℕ → ℕ → Type 0
Leads ends text [] k = IsTrue (ends k)
Leads ends text (c ∷ rest) k =
    MatchBool (c == star)
    ((j : ℕ) × (k ≤ j) × (j ≤ length text) × Leads ends text rest j)
    (TakesAt text c k × Leads ends text rest (k + 1))

-- The same from some place not before this one: a star stands before the pattern.
abbrev pub LeadsOn : (ℕ → Bool) → List ℕ → List ℕ → ℕ → Type 0
LeadsOn ends text rest k = (j : ℕ) × (k ≤ j) × (j ≤ length text) × Leads ends text rest j

-- Where a match may end: at the end of the text, or of a word.
abbrev pub ends_at : End → List ℕ → ℕ → Bool
ends_at Text text k = k == length text
ends_at Word text k = is_outside (slice_get text k)

-- The segment agrees with the text at a place.
pub record IsPlace (text segment : List ℕ) (k : ℕ) : Type 0 where
  pub in_text : k + length segment ≤ length text
  pub agrees : FitsAt text segment k

-- It does so, and a word ends behind it.
pub record IsEndPlace (text segment : List ℕ) (k : ℕ) : Type 0 where
  pub place : IsPlace text segment k
  pub ends : IsTrue (is_outside (slice_get text (k + length segment)))

-- It agrees at the start of a word, and where that is asked for its end is one of a word.
pub record IsWordPlace (text segment : List ℕ) (whole : Bool) (k : ℕ) : Type 0 where
  pub place : IsPlace text segment k
  pub begins : IsTrue (is_outside (character_before text k))
  pub ends : IsTrue whole → IsTrue (is_outside (slice_get text (k + length segment)))

-- The name is a word of the text at a place.
pub record IsNameAt (text name : List ℕ) (k : ℕ) : Type 0 where
  pub word : IsWordAt text k (k + length name)
  pub same : slice_range text k (k + length name) ≡ name

-- The answer is the first such place from a place on, if any.
abbrev pub IsFirstFrom : (ℕ → Type 0) → ℕ → Option ℕ → Type 0
IsFirstFrom P from answer =
    MatchOption answer
    ((j : ℕ) → from ≤ j → P j → ⊥)
    (λ k. (from ≤ k) × P k × ((j : ℕ) → from ≤ j → j < k → P j → ⊥))

-- How many places were tried, from one on and before another, where the search ends at the first that serves.
abbrev pub tried : ℕ → ℕ → Option ℕ → ℕ
tried from past None = past - from
tried from past (Some k) = k + 1 - from
