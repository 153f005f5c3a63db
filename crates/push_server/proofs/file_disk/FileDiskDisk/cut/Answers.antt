-- Any image may be left before and after: each comes from itself.
use Rattle.std.proofs.Common.{refl, arith}
use Rattle.push_server.proofs.file_disk.FileDiskDisk.cut.Goals as goal

pub returns-clause-crash : goal.returns-clause-crash
returns-clause-crash g c = λ image _.
    (image, tt, record { front = refl; no_shorter = omega arith; no_longer = omega arith })
