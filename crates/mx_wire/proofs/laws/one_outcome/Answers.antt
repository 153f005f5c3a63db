-- Two outcomes of the same bytes are the same.
use Rattle.mx_wire.proofs.Unique.{one-outcome}
use Rattle.mx_wire.proofs.laws.one_outcome.Goals as goal

pub returns : goal.returns
returns c = one-outcome
