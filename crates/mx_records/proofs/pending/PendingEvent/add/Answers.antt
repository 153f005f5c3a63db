use Rattle.std.proofs.Common.{◌≡◌, true, ap, sym, ◌∙◌, ⊎_elim}
use Rattle.std.proofs.lemmas.Result.{IfOk-weaker}
use Rattle.std.specs.FinMap as finite
use Rattle.mx_records.specs.Pending.{Pending, are_rising, users_in, with_user}
use Rattle.mx_records.proofs.PendingLemmas.{either, rising-with, users_in-with}
use Rattle.mx_records.proofs.pending.PendingEvent.add.Goals as goal

pub invariant_of-self : goal.invariant_of-self
invariant_of-self c =
    ⊎_elim (λ is. ap are_rising is ∙ rising-with c.args.user c.args.tweaks c.self.inside.users.items c.self.invariant)
    (λ is. ap are_rising is ∙ c.self.invariant) (either c.put.result c.put.ensures.ok c.put.ensures.err)

pub returns-clause-ok : goal.returns-clause-ok
returns-clause-ok c =
    IfOk-weaker c.put.result
    (λ _. c.put.new.users.items ≡ with_user c.args.user c.args.tweaks c.self.inside.users.items) _
    (λ x is.
    let users = ap users_in is ∙ users_in-with c.args.user c.args.tweaks c.self.inside.users.items c.self.invariant in
    (λ i. record {
      event = c.self.inside.event;
      position = c.self.inside.position;
      sender_display_name = c.self.inside.sender_display_name;
      users = users i;
    })
    ∙ ap (λ (p : Pending). record p { users = finite.insert p.users c.args.user c.args.tweaks }) c.self.view_is)
    c.put.ensures.ok
