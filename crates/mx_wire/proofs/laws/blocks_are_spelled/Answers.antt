-- What is read as a block is spelled so.
use Rattle.mx_wire.proofs.BlockSpelling.{block-spelled}
use Rattle.mx_wire.proofs.laws.blocks_are_spelled.Goals as goal

pub returns : goal.returns
returns c = λ bytes block rest got. block-spelled bytes block rest got
