-- A disk in memory, which keeps what its calls changed: ours.
use Rattle.std.specs.Prelude.{◌≡◌, ℕ, ◌+◌, ◌-◌, ◌^◌, ◌<◌, ◌≤◌, List, [], ◌∷◌, length, drop, Result, MatchResult}
use Rattle.mx_outside.specs.Told.{raised}
use Rattle.mx_outside.specs.Budget.{Budget}
use Rattle.mx_outside.specs.Changes.{Change, content_of, synced_of, fresh_of, filled, AreChanges, MayLeave}
use Rattle.mx_outside.specs.DiskLog.{Log, written_bytes}
use Rattle.mx_outside.specs.DiskImage.{Image}
use Rattle.mx_outside.specs.declared.memory.fill.Fill.{Fill}
use Rattle.mx_outside.specs.declared.memory.fill.Fill.TheVariants as fill

-- What it had first, what its calls changed, the newest first, for how many written bytes and changes
-- there is memory, and the count of faults.
pub record Medium : Type 0 where
  pub first : List ℕ
  pub changes : List Change
  pub byte_capacity : ℕ
  pub call_capacity : ℕ
  pub faults : ℕ

-- What a read gives now.
abbrev pub content_now : Medium → List ℕ
content_now disk = content_of disk.changes disk.first

-- A crash now may leave this image.
abbrev pub MayLeaveNow : Medium → List ℕ → Type 0
MayLeaveNow disk image = MayLeave disk.changes disk.first image

-- How many calls changed it.
abbrev pub moment_of : Medium → ℕ
moment_of disk = length disk.changes

-- A crash at some moment since that one might have left this image.
pub record LeftSince (disk : Medium) (moment : ℕ) (image : List ℕ) : Type 0 where
  pub ago : ℕ
  pub since : moment + ago ≤ length disk.changes
  pub left : MayLeave (drop ago disk.changes) disk.first image

-- What its memory leaves.
abbrev pub budget_of : Medium → Budget
budget_of disk =
    record {
      bytes = disk.byte_capacity - written_bytes disk.changes;
      calls = disk.call_capacity - length disk.changes;
    }

-- The disk after one more change.
abbrev pub changed : Medium → Change → Medium
changed disk change = record disk { changes = change ∷ disk.changes }

-- The disk after a fault.
abbrev pub faulted : Medium → Medium
faulted disk = record disk { faults = raised disk.faults }

-- The call changed just this, or it failed and changed nothing.
abbrev pub Changes : {A E : Type 0} → Result A E → Change → Medium → Medium → Type 0
Changes result change old new =
    MatchResult result (λ _. new ≡ changed old change) (λ _. new ≡ faulted old)

-- The image that this fill chooses: what a read gave after the last sync, what a read gives now, or
-- that with one value in each byte that was written since.
abbrev pub left_by : Fill → Medium → List ℕ
left_by fill.Old disk = synced_of disk.changes disk.first
left_by fill.New disk = content_now disk
left_by fill.Zeros disk = filled 0 (fresh_of disk.changes disk.first) (content_now disk)
left_by fill.Ones disk = filled 1 (fresh_of disk.changes disk.first) (content_now disk)

-- A disk that had this content first, with this capacity, nothing changed and no fault.
abbrev pub at_rest : List ℕ → ℕ → ℕ → Medium
at_rest content bytes calls =
    record { first = content; changes = []; byte_capacity = bytes; call_capacity = calls; faults = 0 }

-- What is held is what the changes made of the first content, and there is the memory that was promised.
pub record HoldsMedium (first : List ℕ) (image : Image) (log : Log) (bytes calls : ℕ) : Type 0 where
  pub content : image.content ≡ content_of log.changes first
  pub synced_then : image.synced ≡ synced_of log.changes first
  pub fresh : image.fresh ≡ fresh_of log.changes first
  pub are : AreChanges log.changes first
  pub byte_capacity : bytes ≤ log.byte_capacity
  pub call_capacity : calls ≤ log.call_capacity
  pub image_capacity : length first + bytes ≤ image.capacity
  pub bounded : length image.content < 2 ^ 63
