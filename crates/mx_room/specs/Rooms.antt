-- The rooms of one homeserver by their ids, each with its state, and which members are local there: ours.
use Rattle.std.specs.Prelude.{ℕ, Bool, ◌&&◌, List, [], ◌∷◌, map, Option, Some, None, unwrap_or}
use Rattle.std.specs.Cmp.Lexicographic.{slice_cmp}
use Rattle.std.specs.FinMap.{get, insert}
use Rattle.std.specs.FinSet as set
use Rattle.std.specs.List.{filter}
use Rattle.std.specs.Ordering.{nat_cmp}
use Rattle.std.specs.Str.{bytes_eq}
use Rattle.mx_json.specs.declared.value.Json.{Json}
use Rattle.mx_json.specs.Ids.{is_local, is_user_id}
use Rattle.mx_event.specs.Event.{room_id_of}
use Rattle.mx_room.specs.Change.{Sets, with_sets}
use Rattle.mx_room.specs.Members.{has_joined}
use Rattle.mx_room.specs.State.{RoomState, room_of}
use Rattle.mx_room.specs.Texts.{Texts, table}

-- ---- all rooms

-- the events of a room, of these
abbrev pub events_in : List ℕ → List Json → List Json
events_in id events = filter (λ event. bytes_eq (room_id_of event) id) events

-- the state of a room with these events; a room without any isn't there
abbrev pub some_room : List Json → Option RoomState
some_room [] = None
some_room (event ∷ events) = Some (room_of (event ∷ events))

-- the rooms that have an event, each with its state
unfoldable pub rooms_of : List Json → Texts RoomState
rooms_of events = table (λ id. some_room (events_in id events)) (map room_id_of events)

-- the state of a room; before its first event nothing is known of it
abbrev pub room_at : Texts RoomState → List ℕ → RoomState
room_at rooms id = unwrap_or (get rooms id) (room_of [])

-- the rooms, of which in this one this is set
abbrev pub with_room : List ℕ → Sets → Texts RoomState → Texts RoomState
with_room id sets rooms = insert rooms id (with_sets sets (room_at rooms id))

-- ---- local users

-- the text is the id of a user of this server
abbrev pub is_local_id : List ℕ → List ℕ → Bool
is_local_id server user = is_user_id user && is_local server user

-- the user is one of this server, and joined
abbrev pub is_local_member : List ℕ → RoomState → List ℕ → Bool
is_local_member server room user = is_local_id server user && has_joined room.members user

-- ---- what is seen of `Rooms` and `RoomsPlan`

-- The name of the homeserver, the rooms that have an event, each with its state, and the rooms for whose
-- next event there is capacity.
pub record RoomsView : Type 0 where
  -- the name of the homeserver
  pub server : List ℕ
  -- the rooms that have an event, each with its state
  pub states : Texts RoomState
  -- the rooms for whose next event there is capacity
  pub capacity : set.FinSet (slice_cmp nat_cmp)

-- what an event will set, and in which room
pub record PlannedRoom : Type 0 where
  pub id : List ℕ
  pub sets : Sets
