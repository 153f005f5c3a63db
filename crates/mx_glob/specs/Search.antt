-- How a search for a name skips places: ours, after Horspool.
use Rattle.std.specs.Prelude.{◌≡◌, ℕ, ◌+◌, ◌-◌, ◌*◌, ◌<◌, ◌≤◌, ◌%◌, ◌==◌, false, List, [], ◌∷◌, length, Some, slice_get}
use Rattle.std.specs.Prelude.{slice_index}
use Rattle.mx_glob.specs.Glob.{star, question}
use Rattle.mx_glob.specs.Leads.{IsNameAt}
use Rattle.mx_glob.specs.declared.search.Tried.{Tried}
use Rattle.mx_glob.specs.declared.search.Tried.TheVariants.{Word, Ahead, Behind}

-- For each of 64 classes of characters, how many places a search may go on where a character of the
-- class stands at the end of the name's place: the name has no such character that near its end.
pub record AreSkips (name skips : List ℕ) : Type 0 where
  pub long : length skips ≡ 64
  pub onward : (i : ℕ) → i < 64 → 1 ≤ slice_index skips i
  pub within : (i : ℕ) → i < 64 → slice_index skips i ≤ length name
  pub safe : (j c : ℕ) → j + 1 < length name → slice_get name j ≡ Some c
      → slice_index skips (c % 64) + j + 1 ≤ length name

-- A name that isn't empty is ready to be searched for: its ends, and the skips.
pub record IsReady (name : List ℕ) (first last : ℕ) (skips : List ℕ) : Type 0 where
  pub some : 0 < length name
  pub first_known : slice_get name 0 ≡ Some first
  pub last_known : slice_get name (length name - 1) ≡ Some last
  pub skips_known : AreSkips name skips

-- The name's last character stands at a place.
abbrev pub EndsAt : List ℕ → List ℕ → ℕ → Type 0
EndsAt text name end = slice_get text end ≡ slice_get name (length name - 1)

-- Nowhere from one place on and before another does the name end that is a word there.
abbrev pub NoneEnds : List ℕ → List ℕ → ℕ → ℕ → Type 0
NoneEnds text name from past =
    (j : ℕ) → from ≤ j + (length name - 1) → j + (length name - 1) < past → IsNameAt text name j → ⊥

-- A pattern that is itself: it has no '*' and no '?'.
abbrev pub IsLiteral : List ℕ → Type 0
IsLiteral [] = Unit {0}
IsLiteral (c ∷ rest) = (c == star ≡ false) × (c == question ≡ false) × IsLiteral rest

-- A pattern that is itself, and isn't empty.
pub record IsName (pattern : List ℕ) : Type 0 where
  pub some : 0 < length pattern
  pub literal : IsLiteral pattern

-- What the try of a place told of it, and how much was read since a search began:
-- up to two characters for each place that is ruled out, or at most the name's length and one more.
abbrev pub IsTried : List ℕ → List ℕ → ℕ → ℕ → ℕ → ℕ → Tried → Type 0
IsTried text name place start old new Word = (old ≤ new) × IsNameAt text name place × (new ≤ old + length name + 1)
IsTried text name place start old new Ahead =
    (old ≤ new) × (IsNameAt text name place → ⊥) × (new ≤ start + 2 * (place + 1))
IsTried text name place start old new Behind =
    (old ≤ new) × (IsNameAt text name place → ⊥) × (new ≤ old + length name + 1)
    × (slice_get text place ≡ slice_get name 0)
