use Rattle.std.proofs.Common.{arith}
use Rattle.mx_room.specs.Kept.{by_text}
use Rattle.mx_room.proofs.JoinedLemmas.{IsCounted, counted}
use Rattle.mx_room.proofs.KeptLemmas.{len-by_text}
use Rattle.mx_room.proofs.room.joined_after.Goals as goal
use Rattle.mx_room.proofs.room.joined_after.Goals.{After-from-was_joined}

counts : (c : After-from-was_joined)
    → IsCounted (by_text c.args.members.now.entries) c.args.user.now c.args.member.now c.from-joins.result
    c.from-was_joined.result
counts c =
    counted (by_text c.args.members.now.entries) c.args.user.now c.args.member.now c.from-joins.result
    c.from-was_joined.result c.has_joined.result c.is_joined.result c.from-joins.ensures c.has_joined.ensures
    c.from-was_joined.ensures c.is_joined.ensures

pub overflow_add-result : goal.overflow_add-result
overflow_add-result c =
    omega (
      arith,
      (counts c).fits,
      c.requires,
      len-by_text c.args.members.now.entries,
      c.len-at_most.ensures.len,
      c.len-at_most.ensures.small,
    )

pub overflow_sub-result : goal.overflow_sub-result
overflow_sub-result c = omega (arith, (counts c).within, c.requires)

pub returns : goal.returns
returns c = rw c.requires (counts c).count
