-- Bodies in chunks are read.
use Rattle.mx_wire.proofs.ChunkSpelling.{chunks-read}
use Rattle.mx_wire.proofs.laws.chunks_are_read.Goals as goal

pub returns : goal.returns
returns c = chunks-read
