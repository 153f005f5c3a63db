use Rattle.std.proofs.Common.{arith}
use Rattle.mx_blocks.proofs.MarkLemmas.{mark_here, mark_other}
use Rattle.mx_blocks.proofs.marks.mark.Goals as goal

pub returns-clause-here : goal.returns-clause-here
returns-clause-here c = mark_here c.args.marks.now c.args.row (omega arith)

pub returns-clause-others : goal.returns-clause-others
returns-clause-others c = λ k other. mark_other c.args.marks.now c.args.row k (omega arith) other
