-- What the bytes of a block mean: whole numbers in groups of seven bits, the lowest group first. Ours.
use Rattle.std.specs.Prelude.{ℕ, ◌+◌, ◌-◌, ◌*◌, ◌<◌, ◌≤◌, nat_lt, if◌then◌else◌, List, [], ◌∷◌}

-- seven lower bits come in front of the first number
abbrev pub with_low : ℕ → List ℕ → List ℕ
with_low low [] = []
with_low low (high ∷ more) = (low + 128 * high) ∷ more

-- the numbers that bytes give: a byte below 128 is the last of its number, any other has its top bit
-- beside its seven
unfoldable pub differences : List ℕ → List ℕ
differences [] = []
differences (byte ∷ bytes) =
    if nat_lt byte 128 then byte ∷ differences bytes else with_low (byte - 128) (differences bytes)

-- the bytes are whole numbers, each in the fewest bytes
unfoldable pub IsPacked : List ℕ → Type 0
IsPacked [] = Unit {0}
IsPacked (byte ∷ []) = byte < 128
IsPacked (byte ∷ next ∷ bytes) = (128 ≤ byte → 0 < next) × IsPacked (next ∷ bytes)

-- the positions that begin at one and go on by these differences
abbrev pub positions : ℕ → List ℕ → List ℕ
positions position [] = position ∷ []
positions position (difference ∷ more) = position ∷ positions (position + difference) more

-- the sum of differences
abbrev pub total : List ℕ → ℕ
total [] = 0
total (difference ∷ more) = difference + total more

-- the first number is below a bound, where there is one
abbrev pub IsFirstBelow : ℕ → List ℕ → Type 0
IsFirstBelow bound [] = Unit {0}
IsFirstBelow bound (difference ∷ more) = difference < bound
