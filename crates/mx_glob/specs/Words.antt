-- When a glob pattern or a text is a word of a text (Client-Server API v1.11, "Conditions for push rules",
-- event_match on content.body, contains_display_name).
use Rattle.std.specs.Prelude.{◌≡◌, ℕ, zero, suc, ◌≤◌, ◌==◌, Bool, true, not, ◌||◌, List, length, Option, Some, None}
use Rattle.std.specs.Prelude.{slice_get, slice_range, IsTrue}
use Rattle.std.specs.Char.{is_ascii_alphanumeric}
use Rattle.mx_glob.specs.Glob.{Matches}

-- The character `_`.
abbrev pub underscore : ℕ
underscore = 95

-- The character is one of `A-Z a-z 0-9 _`, of which words are made.
abbrev pub is_word_character : ℕ → Bool
is_word_character c = is_ascii_alphanumeric c || (c == underscore)

-- There is no character, or it is none of a word.
abbrev pub is_outside : Option ℕ → Bool
is_outside None = true
is_outside (Some c) = not (is_word_character c)

-- The character before a place, if any.
abbrev pub character_before : List ℕ → ℕ → Option ℕ
character_before text zero = None
character_before text (suc k) = slice_get text k

-- The part of the text from a to b stands in it as a word.
pub record IsWordAt (text : List ℕ) (a b : ℕ) : Type 0 where
  pub in_order : a ≤ b
  pub in_text : b ≤ length text
  pub begins : IsTrue (is_outside (character_before text a))
  pub ends : IsTrue (is_outside (slice_get text b))

-- The pattern matches some word of the text, which may be empty.
abbrev pub WordMatches : List ℕ → List ℕ → Type 0
WordMatches pattern text = (a : ℕ) × (b : ℕ) × IsWordAt text a b × Matches pattern (slice_range text a b)

-- The name is some word of the text, which may be empty.
abbrev pub HasWord : List ℕ → List ℕ → Type 0
HasWord name text = (a : ℕ) × (b : ℕ) × IsWordAt text a b × (slice_range text a b ≡ name)
