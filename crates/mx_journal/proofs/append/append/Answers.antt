-- From write to write, what a crash may leave stands for the old payloads or the new ones.
use Rattle.std.proofs.Common.{ℕ, List, [], ◌∷◌, ◌++◌, inl, inr, length}
use Rattle.mx_outside.specs.Disk.{Only}
use Rattle.mx_journal.specs.Image.{StandsForEither}
use Rattle.mx_journal.proofs.Moments.{LeavesOnly-weaker, LeavesOnly-then}
use Rattle.mx_journal.proofs.Steps.{IfSome-told, first_leaves, first_writes, second_leaves, second_writes, closed_after}
use Rattle.mx_journal.proofs.append.append.Goals as goal

pub returns-in_err-write_through-clause-any_moment : goal.returns-in_err-write_through-clause-any_moment
returns-in_err-write_through-clause-any_moment g c = λ payloads payload rests one is.
    LeavesOnly-weaker (StandsForEither payloads (payloads ++ payload ∷ [])) c.write_through.ensures.any_moment
    (λ image torn. inl (inr (first_leaves (length c.args.staged.now) rests image torn)))

pub returns-in_err-write_through-2-clause-any_moment : goal.returns-in_err-write_through-2-clause-any_moment
returns-in_err-write_through-2-clause-any_moment g c = λ payloads payload rests one is.
    let P = StandsForEither payloads (payloads ++ payload ∷ []) in
    let first = LeavesOnly-weaker P c.write_through.ensures.any_moment
    (λ image torn. inl (inr (first_leaves (length c.args.staged.now) rests image torn))) in
    let staged = first_writes (g.D.Disk.seen c.args.disk.now) (g.D.Disk.seen c.write_through.new.disk)
    {later = g.D.Disk.may_leave c.write_through.new.disk} payload c.args.staged.now rests is
    c.in_ok-write_through.ensures.written c.in_ok-write_through.ensures.durable in
    LeavesOnly-then first (LeavesOnly-weaker P c.write_through-2.ensures.any_moment
    (second_leaves c.args.gate staged rests.read.place rests.read.fit one))

pub returns-clause-any_moment : goal.returns-clause-any_moment
returns-clause-any_moment g c = λ payloads payload rests one is.
    let P = StandsForEither payloads (payloads ++ payload ∷ []) in
    let first = LeavesOnly-weaker P c.write_through.ensures.any_moment
    (λ image torn. inl (inr (first_leaves (length c.args.staged.now) rests image torn))) in
    let staged = first_writes (g.D.Disk.seen c.args.disk.now) (g.D.Disk.seen c.write_through.new.disk)
    {later = g.D.Disk.may_leave c.write_through.new.disk} payload c.args.staged.now rests is
    c.in_ok-write_through.ensures.written c.in_ok-write_through.ensures.durable in
    LeavesOnly-then first (LeavesOnly-weaker P c.write_through-2.ensures.any_moment
    (second_leaves c.args.gate staged rests.read.place rests.read.fit one))

-- At the end the new payload is on the disk.
pub returns-clause-acknowledged : goal.returns-clause-acknowledged
returns-clause-acknowledged g c = λ payloads payload rests one is.
    let staged = first_writes (g.D.Disk.seen c.args.disk.now) (g.D.Disk.seen c.write_through.new.disk)
    {later = g.D.Disk.may_leave c.write_through.new.disk} payload c.args.staged.now rests is
    c.in_ok-write_through.ensures.written c.in_ok-write_through.ensures.durable in
    second_writes (g.D.Disk.seen c.write_through.new.disk) (g.D.Disk.seen c.write_through-2.new.disk) c.args.gate
    c.args.staged.now staged is rests.read.place rests.read.fit one c.in_ok-write_through-2.ensures.written
    c.in_ok-write_through-2.ensures.durable

pub returns-clause-gate_closed : goal.returns-clause-gate_closed
returns-clause-gate_closed g c = λ payload is.
    closed_after (g.D.Disk.seen c.args.disk.now) (g.D.Disk.seen c.write_through.new.disk)
    (g.D.Disk.seen c.write_through-2.new.disk) payload c.args.gate c.args.staged.now c.requires.inside is
    c.in_ok-write_through.ensures.written c.in_ok-write_through-2.ensures.written

pub returns-clause-settled : goal.returns-clause-settled
returns-clause-settled g c =
    let only = λ (content : List ℕ). Only content (g.D.Disk.may_leave c.write_through-2.new.disk) in
    IfSome-told only (g.D.Disk.seen c.write_through.new.disk) (g.D.Disk.seen c.write_through-2.new.disk)
    c.in_ok-write_through-2.ensures.durable
