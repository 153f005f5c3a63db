use Rattle.mx_blocks.proofs.MarkLemmas.{mark_at-zeros}
use Rattle.mx_blocks.proofs.marks.no_marks.Goals as goal

pub returns : goal.returns
returns c = mark_at-zeros 32
