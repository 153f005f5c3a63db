-- How a segment without `?` is looked for without going back in the text: ours, after Knuth, Morris and Pratt.
use Rattle.std.specs.Prelude.{◌≡◌, ℕ, ◌+◌, ◌-◌, ◌<◌, ◌≤◌, Bool, List, length, Option, Some, None, slice_get}
use Rattle.std.specs.Prelude.{slice_index, IsTrue}
use Rattle.mx_glob.specs.Glob.{question}
use Rattle.mx_glob.specs.Words.{is_outside, character_before}

-- The segment has no '?': each character takes itself alone.
abbrev pub IsExact : List ℕ → Type 0
IsExact segment = (i : ℕ) → slice_get segment i ≡ Some question → ⊥

-- The segment's first characters, so many of them, stand in the text from a place on.
abbrev pub StandsAt : List ℕ → List ℕ → ℕ → ℕ → Type 0
StandsAt text segment size k = (i : ℕ) → i < size → slice_get text (k + i) ≡ slice_get segment i

-- Of the beginnings of a segment that are shorter than one of them, this is the longest with which that one ends.
pub record IsFall (segment : List ℕ) (size shorter : ℕ) : Type 0 where
  pub below : shorter < size
  pub ends : StandsAt segment segment shorter (size - shorter)
  pub longest : (t : ℕ) → t < size → StandsAt segment segment t (size - t) → t ≤ shorter

-- The table has the fall of each beginning of at most so many characters, from one on.
abbrev pub AreFalls : List ℕ → List ℕ → ℕ → Type 0
AreFalls segment falls most = (size : ℕ) → 1 ≤ size → size ≤ most → IsFall segment size (slice_index falls (size - 1))

-- After so many characters of the segment and one more, the text ends with so many of them, and with no more.
pub record IsNext (segment : List ℕ) (size here next : ℕ) : Type 0 where
  pub most : next ≤ size + 1
  pub last : (i : ℕ) → i + 1 ≡ next → slice_get segment i ≡ Some here
  pub others : (i : ℕ) → i + 1 < next → slice_get segment (size + 1 - next + i) ≡ slice_get segment i
  pub longest : (t : ℕ) → next ≤ t → t ≤ size → StandsAt segment segment t (size - t)
      → slice_get segment t ≡ Some here → ⊥

-- The segment stands in the text at a place, each character as itself, and where that is asked for a word begins there,
-- and one ends behind it.
pub record IsEdged (text segment : List ℕ) (begins ends : Bool) (k : ℕ) : Type 0 where
  pub in_text : k + length segment ≤ length text
  pub stands : StandsAt text segment (length segment) k
  pub begins_word : IsTrue begins → IsTrue (is_outside (character_before text k))
  pub ends_word : IsTrue ends → IsTrue (is_outside (slice_get text (k + length segment)))

-- How far a search has come that goes through the text once: so many characters of the segment stand before this place,
-- no earlier place serves, and where words count, the character before is known.
pub record IsReached (text segment : List ℕ) (begins ends : Bool) (from place size : ℕ)
    (before : Option ℕ) : Type 0 where
  pub low : from + size ≤ place
  pub high : place ≤ length text
  pub most : size ≤ length segment
  pub stands : StandsAt text segment size (place - size)
  pub none : (j : ℕ) → from ≤ j → j + size < place → IsEdged text segment begins ends j → ⊥
  pub known : IsTrue begins → before ≡ character_before text (place - size)

-- From a place on there is none that serves.
abbrev pub IsNowhere : List ℕ → List ℕ → Bool → Bool → ℕ → Type 0
IsNowhere text segment begins ends from = (j : ℕ) → from ≤ j → IsEdged text segment begins ends j → ⊥

-- How many characters a search has passed that began at a place:
-- up to the end of the segment that it found, or of the text.
abbrev pub passed : ℕ → ℕ → ℕ → Option ℕ → ℕ
passed size past from None = past - from
passed size past from (Some k) = k + size - from
