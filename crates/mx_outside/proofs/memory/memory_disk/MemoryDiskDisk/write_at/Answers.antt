-- The disk is another after one change, and what a read gives is one of the images.
use Rattle.mx_outside.specs.Changes.Change.{written}
use Rattle.mx_outside.proofs.Changes.{leaves_content}
use Rattle.mx_outside.proofs.Medium.{elapses_one}
use Rattle.mx_outside.proofs.memory.memory_disk.MemoryDiskDisk.write_at.Goals as goal

pub returns-in-Ok-clause-time : goal.returns-in-Ok-clause-time
returns-in-Ok-clause-time c =
    elapses_one (written c.args.at c.args.piece.now) c.args.self.now c.write_here.new.self c.in-Ok.ensures.changes

pub returns-in-Ok-clause-possible : goal.returns-in-Ok-clause-possible
returns-in-Ok-clause-possible c = leaves_content _ _ c.write_here.ensures.valid

pub returns-in-Err-clause-possible : goal.returns-in-Err-clause-possible
returns-in-Err-clause-possible c = leaves_content _ _ c.fail-in-Err.ensures.valid

pub returns-then-not-is_within-clause-possible : goal.returns-then-not-is_within-clause-possible
returns-then-not-is_within-clause-possible c = leaves_content _ _ c.fail.ensures.valid
