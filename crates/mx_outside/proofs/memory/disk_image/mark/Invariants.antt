use Rattle.std.proofs.Common.{◌≡◌, ◌-◌, ◌≤◌, true, vec_capacity}
use Rattle.std.specs.Prelude.{replicate}
use Rattle.mx_outside.specs.Disk.{put_at}
use Rattle.mx_outside.proofs.memory.disk_image.mark.Given as goal

abbrev pub invariant-loop-index : goal.invariant-loop-index
invariant-loop-index l =
    (l.marks.items ≡ put_at l.at (replicate (l.index - l.at) true) l.initial.marks.items)
    × (vec_capacity l.initial.marks ≤ vec_capacity l.marks)
