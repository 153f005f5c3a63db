-- What a state that stands for a history knows of it, as a function of the history: ours.
use Rattle.std.specs.Prelude.{ℕ, List, [], ◌∷◌, nat_eq, if◌then◌else◌, map, Option, None, Some, unwrap_or}
use Rattle.std.specs.FinMap.{empty, get, len}
use Rattle.std.specs.List.{filter_map}
use Rattle.mx_event.specs.Event.{room_id_of}
use Rattle.mx_room.specs.Rooms.{rooms_of}
use Rattle.mx_room.specs.State.{RoomState, named_by}
use Rattle.mx_room.specs.Texts.{Texts, table}
use Rattle.mx_rows.specs.declared.row.Row.{Row}
use Rattle.mx_rows.specs.declared.thread_key.ThreadKey.{ThreadKey}
use Rattle.mx_rule.specs.Ruleset.{PushRuleset}
use Rattle.mx_thread.specs.Place.{Places}
use Rattle.mx_records.specs.Counting.{rows_of, threads_of}
use Rattle.mx_records.specs.History.{History, inputs_of}
use Rattle.mx_records.specs.Places.{places_of}
use Rattle.mx_records.specs.Rooms.{events_of}
use Rattle.mx_records.specs.Rules.{edited_rules}

-- ---- the unread rows of all users

-- The rows of one thread.
pub record ThreadRows : Type 0 where
  pub thread : ThreadKey
  pub rows : List Row

-- The rows of a user in a room: those of each thread that has any, in the order of their first rows.
abbrev pub RoomRows : Type 0
RoomRows = List ThreadRows

-- the rows of each of these threads
abbrev pub rows_by_thread : (ThreadKey → List Row) → List ThreadKey → RoomRows
rows_by_thread list threads = map (λ thread. record { thread = thread; rows = list thread }) threads

-- the rows of a user in a room after a history
abbrev pub room_rows : List ℕ → History → List ℕ → List ℕ → RoomRows
room_rows server h user room = rows_by_thread (rows_of server h user room) (threads_of server h user room)

-- rows are kept where there are any
abbrev pub some_rows : RoomRows → Option RoomRows
some_rows [] = None
some_rows (first ∷ others) = Some (first ∷ others)

-- rooms are kept where there are any
abbrev pub some_rooms : Texts RoomRows → Option (Texts RoomRows)
some_rooms rooms = if nat_eq (len rooms) 0 then None else Some rooms

-- these rows of a user, by room
abbrev pub by_room : (List ℕ → RoomRows) → List (List ℕ) → Texts RoomRows
by_room rows rooms = table (λ room. some_rows (rows room)) rooms

-- these rows, by user and room
abbrev pub by_user : (List ℕ → List ℕ → RoomRows) → (List ℕ → List (List ℕ)) → List (List ℕ) → Texts (Texts RoomRows)
by_user rows rooms users = table (λ user. some_rooms (by_room (rows user) (rooms user))) users

-- the rows of all users, by user and room: whom an event notifies was named by an event before
unfoldable pub unread_rows : List ℕ → History → Texts (Texts RoomRows)
unread_rows server h =
    by_user (room_rows server h) (λ user. map room_id_of (events_of h)) (filter_map named_by (events_of h))

-- the rows of a user in a room, where these are the rows of all users
abbrev pub rows_at : Texts (Texts RoomRows) → List ℕ → List ℕ → RoomRows
rows_at unread user room = unwrap_or (get (unwrap_or (get unread user) empty) room) []

-- ---- all that is known

-- What is known of a history.
pub record Snapshot : Type 0 where
  pub inputs : ℕ  -- how many inputs it has
  pub places : Places  -- where its events are
  pub rooms : Texts RoomState  -- the rooms that have an event
  pub rules : Texts PushRuleset  -- the rules of those who edited them
  pub unread : Texts (Texts RoomRows)  -- the unread rows, by user and room

-- what a state of this server knows after this history
unfoldable pub snapshot_of : List ℕ → History → Snapshot
snapshot_of server h = record {
  inputs = inputs_of h;
  places = places_of h;
  rooms = rooms_of (events_of h);
  rules = edited_rules server h;
  unread = unread_rows server h;
}
