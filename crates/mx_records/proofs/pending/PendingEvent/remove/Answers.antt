use Rattle.std.proofs.Common.{◌≡◌, true, ap, sym, ◌∙◌}
use Rattle.std.specs.FinMap as finite
use Rattle.mx_records.specs.Pending.{Pending, are_rising, users_in}
use Rattle.mx_records.proofs.PendingLemmas.{rising-without, users_in-without}
use Rattle.mx_records.proofs.pending.PendingEvent.remove.Goals as goal

pub invariant_of-self : goal.invariant_of-self
invariant_of-self c =
    ap are_rising c.take_out.ensures ∙ rising-without c.args.user.now c.self.inside.users.items c.self.invariant

pub returns : goal.returns
returns c =
    let users =
    ap users_in c.take_out.ensures ∙ users_in-without c.args.user.now c.self.inside.users.items c.self.invariant in
    (λ i. record {
      event = c.self.inside.event;
      position = c.self.inside.position;
      sender_display_name = c.self.inside.sender_display_name;
      users = users i;
    })
    ∙ ap (λ (p : Pending). record p { users = finite.remove p.users c.args.user.now }) c.self.view_is
