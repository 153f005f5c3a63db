-- The disk is another after one change, and what a read gives is one of the images.
use Rattle.mx_outside.specs.Changes.Change.{cut_to}
use Rattle.mx_outside.proofs.Changes.{leaves_content}
use Rattle.mx_outside.proofs.Medium.{elapses_one}
use Rattle.mx_outside.proofs.memory.memory_disk.MemoryDiskDisk.cut.Goals as goal

pub returns-in-Ok-clause-time : goal.returns-in-Ok-clause-time
returns-in-Ok-clause-time c =
    elapses_one (cut_to c.args.to) c.args.self.now c.cut_here.new.self c.in-Ok.ensures.changes

pub returns-in-Ok-clause-possible : goal.returns-in-Ok-clause-possible
returns-in-Ok-clause-possible c = leaves_content _ _ c.cut_here.ensures.valid

pub returns-in-Err-clause-possible : goal.returns-in-Err-clause-possible
returns-in-Err-clause-possible c = leaves_content _ _ c.fail.ensures.valid
