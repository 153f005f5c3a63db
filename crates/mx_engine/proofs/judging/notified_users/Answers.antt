use Rattle.std.proofs.Common.{sym, ap, ◌∙◌}
use Rattle.mx_event.specs.Event.{room_id_of}
use Rattle.mx_room.specs.Change.{with_sets}
use Rattle.mx_room.specs.Rooms.{PlannedRoom, is_local_member, room_at}
use Rattle.mx_engine.proofs.judging.notified_users.Goals as goal

pub notified_in-requires-clause-listed : goal.notified_in-requires-clause-listed
notified_in-requires-clause-listed c =
    let rooms = c.args.rooms.now.states in
    let members = c.local_members-members.ensures.members in
    record {
      before = room_at rooms (room_id_of c.args.event.now);
      after = c.view-view.ensures
          ∙ ap (λ (plan : PlannedRoom). with_sets plan.sets (room_at rooms plan.id)) c.requires.plan;
      listed = λ user. members user
          ∙ (λ i. is_local_member (sym c.requires.server i) (room_at rooms (c.room_id.ensures i)) user);
    }
