-- What the buffer of a line keeps of it: ours.
use Rattle.std.specs.Prelude.{◌≡◌, ℕ, List, [], Option, None, Some}
use Rattle.mx_lines.specs.declared.buffer.Content.{Content}
use Rattle.mx_lines.specs.declared.buffer.Content.TheVariants.{Part, TooMuch, Given}
use Rattle.mx_lines.specs.declared.cut.Cut.{Cut}
use Rattle.mx_lines.specs.declared.cut.Cut.TheVariants.{Line, TooLong, More}

-- a line that was given isn't kept any more, though its bytes still stand in the buffer
abbrev pub kept_in : Content → List ℕ → Option (List ℕ)
kept_in Part bytes = Some bytes
kept_in TooMuch bytes = None
kept_in Given bytes = Some []

-- the cut shows a line of which this is kept
abbrev pub Shows : Cut → Option (List ℕ) → Type 0
Shows (Line bytes) kept = kept ≡ Some bytes.now
Shows TooLong kept = kept ≡ None
Shows More kept = ⊥
