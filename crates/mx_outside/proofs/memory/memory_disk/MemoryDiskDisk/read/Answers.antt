-- What a read gives is one of the images.
use Rattle.std.proofs.Common.{subst}
use Rattle.mx_outside.specs.MemoryDisk.{Medium, content_now, MayLeaveNow}
use Rattle.mx_outside.proofs.Changes.{leaves_content}
use Rattle.mx_outside.proofs.memory.memory_disk.MemoryDiskDisk.read.Goals as goal

pub returns-clause-possible : goal.returns-clause-possible
returns-clause-possible c =
    subst (λ (disk : Medium). MayLeaveNow disk (content_now disk)) c.self.view_is
    (leaves_content _ _ c.self.invariant.are)
