use Rattle.std.proofs.Common.{◌≡◌, false}
use Rattle.mx_lines.proofs.tests.cut_all.Given as goal

abbrev pub invariant-loop-piece : goal.invariant-loop-piece
invariant-loop-piece l = l.cutter.ended ≡ false
