-- One more change of a disk in memory.
use Rattle.std.proofs.Common.{◌≡◌, ℕ, zero, suc, ◌+◌, ◌≤◌, List, [], ◌∷◌, length, drop, max, ap, sym, ◌∙◌, subst, inl}
use Rattle.std.proofs.Common.{inr, ◌⊎◌, arith}
use Rattle.std.proofs.lemmas.List.{length-take}
use Rattle.mx_outside.specs.Budget.{Covers}
use Rattle.mx_outside.specs.Disk.{NoMore, Elapses}
use Rattle.mx_outside.specs.Changes.{Change, content_of, AreChanges, MayLeave}
use Rattle.mx_outside.specs.Changes.Change.{written, cut_to, synced}
use Rattle.mx_outside.specs.DiskImage.{Image}
use Rattle.mx_outside.specs.DiskLog.{Log, written_bytes}
use Rattle.mx_outside.specs.MemoryDisk.{Medium, content_now, MayLeaveNow, moment_of, LeftSince, budget_of, changed}
use Rattle.mx_outside.specs.MemoryDisk.{HoldsMedium}
use Rattle.mx_outside.proofs.Torn.{length-put_at}
use Rattle.mx_outside.proofs.Changes.{leaves_content}

-- Time goes on with a change.
elapses_changed : (disk : Medium) (change : Change)
    → Elapses (moment_of disk) (moment_of (changed disk change)) (LeftSince disk) (LeftSince (changed disk change))
    (MayLeaveNow (changed disk change))
elapses_changed disk change =
    record {
      later = omega arith;
      nothing_else = λ t image upto since. before_or_now t image since.ago since.since since.left;
      keeps = λ t image upto since. record { ago = suc since.ago; since = omega arith; left = since.left };
    }
  where
    before_or_now : (t : ℕ) (image : List ℕ) (ago : ℕ) → t + ago ≤ length (change ∷ disk.changes)
        → MayLeave (drop ago (change ∷ disk.changes)) disk.first image
        → LeftSince disk t image ⊎ MayLeaveNow (changed disk change) image
    before_or_now t image zero upto left = inr left
    before_or_now t image (suc ago) upto left = inl (record { ago = ago; since = omega arith; left = left })

-- A disk that is another after one change.
pub elapses_one : (change : Change) (old new : Medium) → new ≡ changed old change
    → Elapses (moment_of old) (moment_of new) (LeftSince old) (LeftSince new) (MayLeaveNow new)
elapses_one change old new is =
    subst (λ (disk : Medium). Elapses (moment_of old) (moment_of disk) (LeftSince old) (LeftSince disk)
    (MayLeaveNow disk)) (sym is) (elapses_changed old change)

-- What a sync leaves might have been left before.
pub no_more_synced : (old new : Medium) → AreChanges new.changes new.first → new ≡ changed old synced
    → NoMore (MayLeaveNow old) (MayLeaveNow new)
no_more_synced old new are is image left =
    let same : AreChanges old.changes old.first = subst (λ (disk : Medium). AreChanges disk.changes disk.first) is are
    in
    let now : image ≡ content_now old = subst (λ (disk : Medium). MayLeaveNow disk image) is left in
    subst (λ (c : List ℕ). MayLeaveNow old c) (sym now) (leaves_content old.changes old.first same)

-- No more bytes are held than there were at first and were written since.
pub content_bound : (changes : List Change) (first : List ℕ) → AreChanges changes first
    → length (content_of changes first) ≤ length first + written_bytes changes
content_bound [] first are = omega arith
content_bound (written at piece ∷ earlier) first are =
    let before = content_bound earlier first are.1 in
    let long = length-put_at at piece (content_of earlier first) are.0 in
    omega (arith, are.0)
content_bound (cut_to n ∷ earlier) first are =
    let before = content_bound earlier first are.1 in
    let long = length-take n (content_of earlier first) in
    omega arith
content_bound (synced ∷ earlier) first are = content_bound earlier first are

-- A write within the budget ends within the memory that was taken for the content, or within what is held.
pub covered_end : (first : List ℕ) (image : Image) (log : Log) (disk : Medium) (at count : ℕ)
    → HoldsMedium first image log disk.byte_capacity disk.call_capacity → first ≡ disk.first
    → log.changes ≡ disk.changes → at ≤ length (content_now disk) → Covers (budget_of disk) count
    → at + count ≤ max image.capacity (length image.content)
covered_end first image log disk at count kept from change within covers =
    let are : AreChanges disk.changes disk.first = subst (λ (f : List ℕ). AreChanges disk.changes f) from
    (subst (λ (c : List Change). AreChanges c first) change kept.are) in
    let bound = content_bound disk.changes disk.first are in
    let same : length first ≡ length disk.first = ap (λ (f : List ℕ). length f) from in
    let held : length image.content ≡ length (content_now disk) = ap (λ (c : List ℕ). length c)
    (kept.content ∙ ap (λ (c : List Change). content_of c first) change
    ∙ ap (λ (f : List ℕ). content_of disk.changes f) from) in
    omega arith
