use Rattle.std.proofs.Common.{◌≡◌, ap, ◌∙◌}
use Rattle.mx_records.specs.Pending.{Pending, users_in}
use Rattle.mx_records.proofs.PendingLemmas.{users_in-none}
use Rattle.mx_records.proofs.pending.PendingEvent.new.Goals as goal

pub returns : goal.returns
returns c =
    let users = ap users_in c.new.ensures.items ∙ users_in-none in
    λ i. record {
      event = c.args.event;
      position = c.args.position;
      sender_display_name = c.args.sender_display_name;
      users = users i;
    }
