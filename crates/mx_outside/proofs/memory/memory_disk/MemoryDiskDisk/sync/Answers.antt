-- The disk is another after one change, and it leaves nothing that it might not have left before.
use Rattle.mx_outside.specs.Changes.Change.{synced}
use Rattle.mx_outside.proofs.Changes.{leaves_content}
use Rattle.mx_outside.proofs.Medium.{elapses_one, no_more_synced}
use Rattle.mx_outside.proofs.memory.memory_disk.MemoryDiskDisk.sync.Goals as goal

pub returns-in-Ok-clause-crash : goal.returns-in-Ok-clause-crash
returns-in-Ok-clause-crash c =
    no_more_synced c.args.self.now c.sync_here.new.self c.sync_here.ensures.valid c.in-Ok.ensures.changes

pub returns-in-Ok-clause-time : goal.returns-in-Ok-clause-time
returns-in-Ok-clause-time c = elapses_one synced c.args.self.now c.sync_here.new.self c.in-Ok.ensures.changes

pub returns-in-Err-clause-possible : goal.returns-in-Err-clause-possible
returns-in-Err-clause-possible c = leaves_content _ _ c.fail.ensures.valid
