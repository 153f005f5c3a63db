-- Which thread an event is in, given where earlier events are: the Client-Server API v1.11,
-- 'Threading'; the rule for other relations is ours.
use Rattle.std.specs.Prelude.{ℕ, List, Option, Some, None, if◌then◌else◌}
use Rattle.std.specs.Cmp.Lexicographic.{slice_cmp}
use Rattle.std.specs.FinMap as map
use Rattle.std.specs.Ordering.{nat_cmp}
use Rattle.std.specs.Str.{bytes_eq}
use Rattle.mx_json.specs.declared.value.Json.{Json}
use Rattle.mx_json.specs.Ids.{is_event_id}
use Rattle.mx_event.specs.Event.{Related, in_thread, to_another, to_nothing, relation_of, room_id_of}
use Rattle.mx_rows.specs.declared.thread_key.ThreadKey.{ThreadKey}
use Rattle.mx_rows.specs.declared.thread_key.ThreadKey.TheVariants.{Main, Root}
use Rattle.mx_thread.specs.declared.place.Place.{Place}

-- Where events are, by their ids.
abbrev pub Places : Type 0
Places = map.FinMap (slice_cmp nat_cmp) Place

-- where the event with this id is
abbrev pub place_in : Places → List ℕ → Option Place
place_in places id = map.get places id

-- the thread that a relation leads to, where `named` gives that of the event with an id; a text that
-- is no event id names no event
abbrev pub thread_by : (List ℕ → ThreadKey) → Related → ThreadKey
thread_by named (in_thread root) = Root root
thread_by named (to_another id) = if is_event_id id then named id else Main
thread_by named to_nothing = Main

-- the thread of the event that is there, if it's one of this room, and else the main one
abbrev pub thread_at : List ℕ → Option Place → ThreadKey
thread_at room None = Main
thread_at room (Some place) = if bytes_eq place.room room then place.thread else Main

-- The thread of an event is the one that `m.thread` names; for another relation to an earlier event
-- of the room it is that event's thread; and else it is the main one.
abbrev pub thread_of : (List ℕ → Option Place) → Json → ThreadKey
thread_of places event =
    thread_by (λ id. thread_at (room_id_of event) (places id)) (relation_of event)
