use Rattle.std.proofs.Common.{sym, ◌∙◌}
use Rattle.mx_room.proofs.KeptLemmas.{get-by_text}
use Rattle.mx_room.proofs.room.member_in.Goals as goal

pub returns : goal.returns
returns c = c.get.ensures.value ∙ sym (get-by_text c.args.members.now.entries c.args.user.now)
