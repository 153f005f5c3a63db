-- What a crash of a disk in memory leaves at the moment that is now: ours.
use Rattle.std.proofs.Common.{◌≡◌, ℕ, ◌≤◌, List, drop, subst, arith}
use Rattle.mx_outside.specs.Changes.{MayLeave}
use Rattle.mx_outside.specs.MemoryDisk.{Medium, MayLeaveNow, moment_of, LeftSince}

-- What it may leave now it might have left since any moment.
pub counts_now : (disk : Medium) (t : ℕ) (image : List ℕ) → t ≤ moment_of disk → MayLeaveNow disk image
    → LeftSince disk t image
counts_now disk t image upto left = record { ago = 0; since = omega arith; left = left }

-- Since now it leaves what it may leave now.
pub only_now : (disk : Medium) (image : List ℕ) → LeftSince disk (moment_of disk) image → MayLeaveNow disk image
only_now disk image since =
    let none : since.ago ≡ 0 = omega arith in
    subst (λ (ago : ℕ). MayLeave (drop ago disk.changes) disk.first image) none since.left
