-- Where the events of a history are, and in which thread: ours; what a thread is, is of the
-- Client-Server API v1.11, 'Threading'.
use Rattle.std.specs.Prelude.{ℕ, List, Bool, if◌then◌else◌, Option, option_map, is_some, find, fold}
use Rattle.std.specs.FinMap.{empty, insert}
use Rattle.std.specs.Str.{bytes_eq}
use Rattle.mx_json.specs.declared.value.Json.{Json}
use Rattle.mx_event.specs.Event.{event_id_of, room_id_of}
use Rattle.mx_rows.specs.declared.thread_key.ThreadKey.{ThreadKey}
use Rattle.mx_thread.specs.declared.place.Place.{Place}
use Rattle.mx_thread.specs.Place.{Places, place_in, thread_of}
use Rattle.mx_records.specs.History.{History, Happening, events, position_after}

-- the place of an event among those whose places these are
abbrev pub place_among : Places → Happening → Place
place_among places happening = record {
  position = position_after happening.before;
  room = room_id_of happening.event;
  thread = thread_of (place_in places) happening.event;
}

-- these places, and that of one more event; where its id has a place already, these alone
abbrev pub with_place : Places → Happening → Places
with_place places happening =
    if is_some (place_in places (event_id_of happening.event)) then places
    else insert places (event_id_of happening.event) (place_among places happening)

-- Where the events of a history are, by their ids: each in turn, its thread by those before it.
unfoldable pub places_of : History → Places
places_of h = fold with_place empty (events h)

-- the thread of an event that comes straight after a history
abbrev pub thread : History → Json → ThreadKey
thread h event = thread_of (place_in (places_of h)) event

-- the event that happens has this id
abbrev pub is_event_with : List ℕ → Happening → Bool
is_event_with id happening = bytes_eq (event_id_of happening.event) id

-- the position of the first event with this id, if one was accepted
abbrev pub position_of : History → List ℕ → Option ℕ
position_of h id =
    option_map (λ happening. position_after happening.before) (find (is_event_with id) (events h))
