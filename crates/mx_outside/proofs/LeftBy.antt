-- Each fill chooses an image that a crash may leave.
use Rattle.std.proofs.Common.{◌≡◌, ℕ, List, Result, Ok, Err, ap, sym, subst, ◌∙◌}
use Rattle.std.specs.Prelude.{IfOk}
use Rattle.mx_outside.specs.Changes.{AreChanges}
use Rattle.mx_outside.specs.MemoryDisk.{Medium, content_now, at_rest, MayLeaveNow, left_by}
use Rattle.mx_outside.specs.declared.memory.fill.Fill.{Fill}
use Rattle.mx_outside.specs.declared.memory.fill.Fill.TheVariants as fill
use Rattle.mx_outside.proofs.Changes.{leaves_content, leaves_synced, leaves_filled}

pub leaves_left_by : (chosen : Fill) (disk : Medium) → AreChanges disk.changes disk.first
    → MayLeaveNow disk (left_by chosen disk)
leaves_left_by fill.Old disk are = leaves_synced disk.changes disk.first
leaves_left_by fill.New disk are = leaves_content disk.changes disk.first are
leaves_left_by fill.Zeros disk are = leaves_filled 0 disk.changes disk.first are
leaves_left_by fill.Ones disk are = leaves_filled 1 disk.changes disk.first are

-- So does a disk that was made of it.
pub leaves_made : {E : Type 0} (result : Result Medium E) (chosen : Fill) (disk : Medium) (content : List ℕ)
    (bytes calls : ℕ) → AreChanges disk.changes disk.first → content ≡ left_by chosen disk
    → IfOk result (λ made. made ≡ at_rest content bytes calls)
    → IfOk result (λ made. MayLeaveNow disk (content_now made))
leaves_made (Ok made) chosen disk content bytes calls are is made_is =
    let same : left_by chosen disk ≡ content_now made = sym is ∙ sym (ap (λ (m : Medium). content_now m) made_is) in
    subst (λ (image : List ℕ). MayLeaveNow disk image) same (leaves_left_by chosen disk are)
leaves_made (Err _) chosen disk content bytes calls are is made_is = made_is
