use Rattle.mx_blocks.proofs.PackLemmas.{MarksOn}
use Rattle.mx_blocks.proofs.marks.highlights_of.Given as goal

abbrev pub invariant-loop-k : goal.invariant-loop-k
invariant-loop-k l = MarksOn l.rows l.marks l.k
