-- What a call of a journal does with its disk: ours.
use Rattle.std.specs.Prelude.{◌≡◌, ◌≢◌, ◌≤◌, ℕ, List, Option, IfSome, Result, Err}
use Rattle.mx_outside.specs.Told.{WhereTold, Rose}
use Rattle.mx_outside.specs.Disk.{Torn, SameImages, LeavesOnly}
use Rattle.mx_journal.specs.declared.error.JournalError.{JournalError}
use Rattle.mx_journal.specs.declared.error.JournalError.TheVariants.{DiskFault}

-- A disk was read and not written: it is the same, it gives the same, a crash now may leave the same, a crash
-- on the way left nothing else, and what a read gives is still one of the images where it was one.
pub record OnlyReads {D : Type 0} (same_disk : D → D → Type 0) (seen : D → Option (List ℕ))
    (may_leave : D → List ℕ → Type 0) (moment : D → ℕ) (left_since : D → ℕ → List ℕ → Type 0) (old new : D)
    : Type 0 where
  pub stays : same_disk old new
  pub same : WhereTold (seen old) (seen new) (λ before after. after ≡ before)
  pub images : SameImages (may_leave old) (may_leave new)
  pub any_moment : LeavesOnly moment left_since old new (may_leave old)
  pub remains : IfSome (seen old) (may_leave old) → IfSome (seen new) (may_leave new)

-- A call that answered a fault of the disk raised the count of faults, and any other left it as it was.
pub record CountsDiskFaults {A : Type 0} (result : Result A JournalError) (before now : ℕ) : Type 0 where
  pub count : before ≤ now
  pub failed : result ≡ Err DiskFault → Rose before now
  pub steady : result ≢ Err DiskFault → now ≡ before

-- An image that comes, by a write of n bytes that was cut short, from one that a crash might have left.
abbrev pub IsTornFrom : (List ℕ → Type 0) → ℕ → ℕ → List ℕ → Type 0
IsTornFrom may_leave at n image = (before : List ℕ) × may_leave before × Torn at n before image
