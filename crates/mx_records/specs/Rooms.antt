-- The state of an event's room straight after it, over a history: ours.
use Rattle.std.specs.Prelude.{List, [], ◌∷◌, ◌++◌, map}
use Rattle.mx_json.specs.declared.value.Json.{Json}
use Rattle.mx_event.specs.Event.{room_id_of}
use Rattle.mx_room.specs.Rooms.{events_in}
use Rattle.mx_room.specs.State.{RoomState, room_of}
use Rattle.mx_records.specs.History.{Happening, History, events}

-- the events of a history alone, oldest first
abbrev pub events_of : History → List Json
events_of h = map (λ happening. happening.event) (events h)

-- the state of an event's room with the event: that of all events of the room up to it
unfoldable pub room_after : Happening → RoomState
room_after happening =
    room_of (events_in (room_id_of happening.event) (events_of happening.before) ++ happening.event ∷ [])
