-- What one call of a source or a sink does: ours.
use Rattle.std.specs.Prelude.{◌≡◌, ℕ, ◌<◌, ◌≤◌, List, [], ◌++◌, take}
use Rattle.mx_outside.specs.declared.source.Got.{Got}
use Rattle.mx_outside.specs.declared.source.Got.TheVariants as got
use Rattle.mx_outside.specs.declared.sink.Put.{Put}
use Rattle.mx_outside.specs.declared.sink.Put.TheVariants as put

-- Bytes that a source gives are at least one, and fit the buffer.
abbrev pub IsGiven : Got → ℕ → Type 0
IsGiven (got.Bytes count) length = (0 < count) × (count ≤ length)
IsGiven got.End length = Unit {0}
IsGiven got.Failed length = Unit {0}

-- The next of the bytes that are left stand at the front of the buffer, and the rest is left.
abbrev pub GivesBytes : Got → List ℕ → List ℕ → List ℕ → Type 0
GivesBytes (got.Bytes count) into old new = old ≡ take count into ++ new
GivesBytes got.End into old new = (old ≡ []) × (new ≡ [])
GivesBytes got.Failed into old new = new ≡ old

-- Bytes that a sink takes are at least one, and no more than the piece has.
abbrev pub IsMoved : Put → ℕ → Type 0
IsMoved (put.Moved count) length = (0 < count) × (count ≤ length)
IsMoved put.Failed length = Unit {0}

-- How many bytes a sink took.
abbrev pub moved_count : Put → ℕ
moved_count (put.Moved count) = count
moved_count put.Failed = 0

-- The first bytes of the piece were added to those that were taken.
abbrev pub Takes : Put → List ℕ → List ℕ → List ℕ → Type 0
Takes (put.Moved count) piece old new = new ≡ old ++ take count piece
Takes put.Failed piece old new = new ≡ old
