use Rattle.std.proofs.Common.{◌∙◌, arith}
use Rattle.mx_engine.specs.KeptRows.{has_capacity}
use Rattle.mx_engine.proofs.TellingLemmas.{reserve-step}
use Rattle.mx_engine.proofs.telling.reserve_rows.Goals as goal

pub loop-user-preserved : goal.loop-user-preserved
loop-user-preserved g c = (
  c.in_ok-reserve.ensures.unread ∙ c.loop-user.invariant.0,
  λ kept. c.in_ok-reserve.ensures.kept,
  λ q listed. reserve-step c.args.users.now c.loop-user.user-index c.user-item.result (omega arith) c.user-item.is q
      c.args.room.now c.args.thread.now
      (has_capacity c.loop-user.unread.capacity q c.args.room.now c.args.thread.now)
      (has_capacity c.reserve.new.self.capacity q c.args.room.now c.args.thread.now)
      (c.in_ok-reserve.ensures.capacity q c.args.room.now c.args.thread.now) (c.loop-user.invariant.2 q listed),
)
