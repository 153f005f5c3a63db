-- Blocks are read.
use Rattle.mx_wire.proofs.BlockSpelling.{block-read}
use Rattle.mx_wire.proofs.laws.blocks_are_read.Goals as goal

pub returns : goal.returns
returns c = block-read
