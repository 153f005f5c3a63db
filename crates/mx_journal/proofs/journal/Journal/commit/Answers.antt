-- After a failure the disk has the old payloads or the new ones.
use Rattle.std.proofs.Common.{◌<◌, [], ◌∷◌, ◌++◌, length, sym, ◌∙◌, subst}
use Rattle.mx_outside.specs.Disk.{LeavesOnly}
use Rattle.mx_journal.specs.Image.{StandsForEither}
use Rattle.mx_journal.specs.Journal.{Opened, Rests}
use Rattle.mx_journal.specs.Held.{payload_in}
use Rattle.mx_journal.proofs.Staged.{IsStaged-some}
use Rattle.mx_journal.proofs.journal.Journal.commit.Goals as goal

pub returns-in-Err-clause-any_moment : goal.returns-in-Err-clause-any_moment
returns-in-Err-clause-any_moment g c = λ payloads rests.
    let some = subst (λ (j : Opened g.row.D.Denot). 0 < length j.staged) (sym c.self.view_is) c.requires.staged in
    let there = IsStaged-some c.self.inside.staged.items c.self.invariant.staged some in
    let inside = subst (λ (j : Opened g.row.D.Denot). Rests g.D.Disk.seen g.D.Disk.may_leave j payloads)
    (sym c.self.view_is) rests in
    subst (λ (j : Opened g.row.D.Denot). LeavesOnly g.D.Disk.moment g.D.Disk.left_since j.disk c.append.new.disk
    (StandsForEither payloads (payloads ++ j.staged ∷ []))) c.self.view_is
    (c.append.ensures.any_moment payloads (payload_in c.self.inside.staged.items) inside there.0
    (c.as_slice.ensures.value ∙ there.1))
