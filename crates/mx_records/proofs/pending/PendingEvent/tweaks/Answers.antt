use Rattle.std.proofs.Common.{◌≡◌, ap, sym, ◌∙◌}
use Rattle.std.specs.FinMap.{get}
use Rattle.mx_records.specs.Pending.{Pending, tweaks_in}
use Rattle.mx_records.proofs.PendingLemmas.{get-users_in}
use Rattle.mx_records.proofs.pending.PendingEvent.tweaks.Goals as goal

pub returns : goal.returns
returns c =
    c.tweaks_in.ensures
    ∙ ap (tweaks_in c.args.user.now) c.as_slice.ensures.value
    ∙ sym (get-users_in c.self.inside.users.items c.args.user.now c.self.invariant)
    ∙ ap (λ (p : Pending). get p.users c.args.user.now) c.self.view_is
