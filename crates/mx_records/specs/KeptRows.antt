-- When rows by user and room are kept as a snapshot shows them: for private clauses, ours.
use Rattle.std.specs.Prelude.{◌≡◌, ℕ, true, if◌then◌else◌, List, [], ◌∷◌, map, Some}
use Rattle.std.specs.FinMap.{get}
use Rattle.std.specs.List.{IsDistinct, list_all}
use Rattle.mx_room.specs.Texts.{Texts}
use Rattle.mx_rows.specs.declared.row.Row.{Row}
use Rattle.mx_rows.specs.declared.thread_key.ThreadKey.{ThreadKey}
use Rattle.mx_rows.specs.Rows.{has_rows, never_falls, start_of}
use Rattle.mx_rows.specs.Threads.{same_thread}
use Rattle.mx_records.specs.Snapshot.{RoomRows, rows_at, some_rooms, some_rows}

-- the rows of a thread, among those of a room
abbrev pub thread_rows : ThreadKey → RoomRows → List Row
thread_rows thread [] = []
thread_rows thread (first ∷ others) =
    if same_thread thread first.thread then first.rows else thread_rows thread others

-- the threads of a room, as they stand
abbrev pub threads_at : RoomRows → List ThreadKey
threads_at rooms = map (λ rows. rows.thread) rooms

-- the positions of their first rows
abbrev pub starts_at : RoomRows → List ℕ
starts_at rooms = map (λ rows. start_of rows.rows) rooms

-- each thread stands once, with rows, in the order of the first rows
pub record AreOrdered (rooms : RoomRows) : Type 0 where
  pub once : IsDistinct same_thread (threads_at rooms)
  pub some : list_all (λ rows. has_rows rows.rows) rooms ≡ true
  pub order : never_falls (starts_at rooms) ≡ true

-- each room that is there has rows
abbrev pub HaveRows : Texts RoomRows → Type 0
HaveRows rooms = (room : List ℕ) (rows : RoomRows) → get rooms room ≡ Some rows → some_rows rows ≡ Some rows

-- each user who is there has a room that has rows
pub record HaveRooms (users : Texts (Texts RoomRows)) : Type 0 where
  pub some : (user : List ℕ) (rooms : Texts RoomRows) → get users user ≡ Some rooms → some_rooms rooms ≡ Some rooms
  pub rows : (user : List ℕ) (rooms : Texts RoomRows) → get users user ≡ Some rooms → HaveRows rooms

-- nothing empty is kept, and the rows of each user in each room are in order
pub record IsKept (unread : Texts (Texts RoomRows)) : Type 0 where
  pub have : HaveRooms unread
  pub ordered : (user room : List ℕ) → AreOrdered (rows_at unread user room)
