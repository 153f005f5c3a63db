use Rattle.std.proofs.Common.{◌≡◌, Some, None, ap, slice_get, ◌∙◌}
use Rattle.std.specs.FinMap as finite
use Rattle.mx_records.specs.Pending.{Pending}
use Rattle.mx_records.proofs.PendingLemmas.{user-listed}
use Rattle.mx_records.proofs.pending.PendingEvent.user_at.Goals as goal

pub returns-in-Some : goal.returns-in-Some
returns-in-Some c =
    user-listed c.self.inside.users.items c.args.k (Some c.in-Some.entry.now) c.self.invariant
    (c.in-Some.ensures ∙ ap (λ users. slice_get users c.args.k) c.as_slice.ensures.value)
    ∙ ap (λ (p : Pending). slice_get (finite.keys p.users) c.args.k) c.self.view_is

pub returns-in-None : goal.returns-in-None
returns-in-None c =
    user-listed c.self.inside.users.items c.args.k None c.self.invariant
    (c.in-None.ensures ∙ ap (λ users. slice_get users c.args.k) c.as_slice.ensures.value)
    ∙ ap (λ (p : Pending). slice_get (finite.keys p.users) c.args.k) c.self.view_is
