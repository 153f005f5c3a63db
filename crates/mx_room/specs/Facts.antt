-- What a room's state says of an event to the owner of push rules: ours.
use Rattle.std.specs.Prelude.{ℕ, List}
use Rattle.mx_json.specs.declared.value.Json.{Json}
use Rattle.mx_event.specs.Event.{sender_of}
use Rattle.mx_cond.specs.Facts.{EventFacts}
use Rattle.mx_room.specs.Members.{joined_count, name_at, power_at}
use Rattle.mx_room.specs.State.{RoomState}

-- the facts of an event by which a condition of this user's rules is judged, in a room of this state
abbrev pub facts_of : Json → List ℕ → RoomState → EventFacts
facts_of event owner room = record {
  event = event;
  owner_name = name_at room owner;
  joined = joined_count room;
  sender_power = power_at room (sender_of event);
  power_levels = room.powers;
}
