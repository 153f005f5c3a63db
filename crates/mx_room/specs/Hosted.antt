-- What is kept of a homeserver's rooms, and what it shows: for private clauses, ours.
use Rattle.std.specs.Prelude.{◌≡◌, ℕ, nat_lt, Bool, false, ◌&&◌, if◌then◌else◌, List, [], length, Option, Some, None}
use Rattle.std.specs.Prelude.{option_and_then, option_map, IfSome}
use Rattle.std.specs.Cmp.Lexicographic.{slice_cmp}
use Rattle.std.specs.FinMap.{from_entries}
use Rattle.std.specs.FinSet as set
use Rattle.std.specs.List.{IsDistinct, filter, filter_map, list_any}
use Rattle.std.specs.Map.{keys_of, lookup}
use Rattle.std.specs.Ordering.{nat_cmp}
use Rattle.std.specs.Str.{bytes_eq}
use Rattle.mx_json.specs.Ids.{is_user_id}
use Rattle.mx_room.specs.declared.hosted.HostedRoom.{HostedRoom}
use Rattle.mx_room.specs.declared.member.Member.{Member}
use Rattle.mx_room.specs.Rooms.{RoomsView, is_local_member}
use Rattle.mx_room.specs.State.{RoomState, room_of}
use Rattle.mx_room.specs.Texts.{Texts}

-- the rooms that are kept, by their ids
abbrev pub HostedRooms : Type 0
HostedRooms = List (List ℕ × HostedRoom)

-- ---- one room

-- the users that are listed are the joined local ones
abbrev pub IsListing : List ℕ → RoomState → List (List ℕ) → Type 0
IsListing server room users = (user : List ℕ) → list_any (bytes_eq user) users ≡ is_local_member server room user

-- the room lists its joined local users, and before its first event nothing is known of it
pub record IsHosted (server : List ℕ) (hosted : HostedRoom) : Type 0 where
  pub listing : IsListing server hosted.room.state hosted.local.users
  pub before : hosted.known ≡ false → hosted.room.state ≡ room_of []

-- the state that is shown: none before the first event
abbrev pub known_state : HostedRoom → Option RoomState
known_state hosted = if hosted.known then Some hosted.room.state else None

-- there is capacity for one more event
abbrev pub is_ready : HostedRoom → Bool
is_ready hosted = nat_lt 0 hosted.room.capacity && nat_lt (length hosted.local.users) hosted.local.capacity

-- the user of whom something is set, where the text is a user id
abbrev pub user_of : Option (List ℕ × Member) → Option (List ℕ)
user_of set = option_and_then (λ set. if is_user_id set.0 then Some set.0 else None) set

-- ---- all rooms

-- each id stands once, with a room of this server
pub record AreHosted (server : List ℕ) (rooms : HostedRooms) : Type 0 where
  pub distinct : IsDistinct bytes_eq (keys_of rooms)
  pub each : (id : List ℕ) → IfSome (lookup (bytes_eq id) rooms) (IsHosted server)

-- the states that are shown
abbrev pub states_in : HostedRooms → Texts RoomState
states_in rooms =
    from_entries (filter_map (λ entry. option_map (λ state. (entry.0, state)) (known_state entry.1)) rooms)

-- the rooms with capacity for one more event
abbrev pub ready_in : HostedRooms → set.FinSet (slice_cmp nat_cmp)
ready_in rooms = set.from_list (keys_of (filter (λ entry. is_ready entry.1) rooms))

-- what is seen of a server's rooms
abbrev pub view_of : List ℕ → HostedRooms → RoomsView
view_of server rooms = record {
  server = server;
  states = states_in rooms;
  capacity = ready_in rooms;
}

-- what was kept stays so, and shows the same states
pub record KeepsRooms (server : List ℕ) (old new : HostedRooms) : Type 0 where
  pub hosted : AreHosted server new
  pub states : states_in new ≡ states_in old
