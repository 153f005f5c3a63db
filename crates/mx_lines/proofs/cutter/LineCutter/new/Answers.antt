use Rattle.mx_lines.proofs.CuttingLemmas.{HasGiven-start}
use Rattle.mx_lines.proofs.cutter.LineCutter.new.Goals as goal

pub returns-clause-lines : goal.returns-clause-lines
returns-clause-lines c = rw c.in_ok-new.ensures HasGiven-start
