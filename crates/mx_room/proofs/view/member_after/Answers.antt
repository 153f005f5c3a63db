use Rattle.std.proofs.Common.{◌∙◌}
use Rattle.mx_room.proofs.KeptLemmas.{member_elsewhere, member_here}
use Rattle.mx_room.proofs.view.member_after.Goals as goal

pub returns-then-eq : goal.returns-then-eq
returns-then-eq c =
    member_here c.args.plan.now.member c.in-Some.named.now c.args.user.now c.in-Some.member.now
    c.args.room.now.state.members c.in-Some.ensures c.if-eq.ensures

pub returns-else-eq : goal.returns-else-eq
returns-else-eq c =
    c.member-else-eq.ensures
    ∙ member_elsewhere c.args.plan.now.member c.in-Some.named.now c.args.user.now c.in-Some.member.now
    c.args.room.now.state.members c.in-Some.ensures c.if-eq.ensures
