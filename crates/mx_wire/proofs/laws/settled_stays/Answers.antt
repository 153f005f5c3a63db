-- A settled outcome stays.
use Rattle.mx_wire.proofs.Stays.{settled-stays}
use Rattle.mx_wire.proofs.laws.settled_stays.Goals as goal

pub returns : goal.returns
returns c = settled-stays
