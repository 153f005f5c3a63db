-- What is held once a cut that was given is let go: ours.
use Rattle.std.specs.Prelude.{◌≡◌, ℕ, ◌+◌, List, [], Option, Some}
use Rattle.std.specs.Borrow.{Fml, MutBor}
use Rattle.std.specs.Io.BufRead.{Rests}
use Rattle.mx_lines.specs.Cutting.{Held, HasGiven, after_next, nothing_held, shown_count}
use Rattle.mx_lines.specs.Lines.{Lines}
use Rattle.mx_lines.specs.declared.cut.Cut.{Cut}
use Rattle.mx_lines.specs.contracts.buffer.LineBuffer as buffer
use Rattle.mx_lines.specs.contracts.cutter.LineCutter as cutter

-- the buffer keeps no byte
abbrev pub KeepsNothing : MutBor (Option (List ℕ)) → Fml
KeepsNothing line = Rests buffer.the_row line (λ new. new ≡ Some [])

-- the ended line, if there is one, was given by this cut: it is counted among the given lines,
-- and what follows it is held
pub record GivesNext (cut : Cut) (old new : Held) : Type 0 where
  pub held : new ≡ after_next old
  pub lines : (lines : Lines) (count : ℕ) → HasGiven old lines count → HasGiven new lines (count + shown_count cut)

-- the cutter holds what follows the line that this cut shows
abbrev pub HoldsTheRest : MutBor Held → Cut → Fml
HoldsTheRest held cut = Rests cutter.the_row held (GivesNext cut held.now)

-- the cutter holds nothing
abbrev pub HoldsNothing : MutBor Held → Fml
HoldsNothing held = Rests cutter.the_row held (λ new. new ≡ nothing_held)
