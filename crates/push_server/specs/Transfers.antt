-- How a text is written whole, and a piece of the input read: ours.
use Rattle.std.specs.Prelude.{◌≡◌, ℕ, ◌<◌, ◌≤◌, List, ◌++◌, length, take, Result, Ok, Err}
use Rattle.mx_outside.specs.declared.source.Got.{Got}
use Rattle.mx_outside.specs.declared.source.Got.TheVariants.{Bytes, End, Failed}

-- the sink took the whole text, or with an error a beginning that isn't the whole
abbrev pub WritesText : {T E : Type 0} → Result T E → List ℕ → List ℕ → List ℕ → Type 0
WritesText (Ok value) text old new = new ≡ old ++ text
WritesText (Err error) text old new = (count : ℕ) × (count < length text) × (new ≡ old ++ take count text)

-- as many bytes as are read in one piece
abbrev pub largest_piece : ℕ
largest_piece = 65536

-- at most so many bytes came
abbrev pub IsPieceWithin : Got → ℕ → Type 0
IsPieceWithin (Bytes count) most = count ≤ most
IsPieceWithin End most = Unit {0}
IsPieceWithin Failed most = Unit {0}
