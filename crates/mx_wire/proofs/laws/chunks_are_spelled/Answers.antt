-- What is read as a body in chunks is spelled so.
use Rattle.mx_wire.proofs.ChunkSpelling.{chunks-spelled}
use Rattle.mx_wire.proofs.laws.chunks_are_spelled.Goals as goal

pub returns : goal.returns
returns c = chunks-spelled
