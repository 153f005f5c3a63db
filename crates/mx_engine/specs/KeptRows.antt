-- What is kept of users' unread rows, by user and room, and what it shows: ours.
use Rattle.std.specs.Prelude.{◌≡◌, ℕ, nat_eq, Bool, true, false, ◌&&◌, if◌then◌else◌, List, [], ◌∷◌, map, filter}
use Rattle.std.specs.Prelude.{Option, Some, None, option_map, unwrap_or, IfSome}
use Rattle.std.specs.Cmp.Lexicographic.{slice_cmp}
use Rattle.std.specs.FinMap.{empty, from_entries, get, len}
use Rattle.std.specs.FinSet as set
use Rattle.std.specs.List.{IsDistinct, filter_map, list_any}
use Rattle.std.specs.Map.{keys_of, lookup}
use Rattle.std.specs.Option.{option_map_or}
use Rattle.std.specs.Ordering.{nat_cmp}
use Rattle.std.specs.Str.{bytes_eq}
use Rattle.mx_room.specs.Texts.{Texts}
use Rattle.mx_rows.specs.declared.row.Row.{Row}
use Rattle.mx_rows.specs.declared.thread_key.ThreadKey.{ThreadKey}
use Rattle.mx_rows.specs.declared.thread_key.ThreadKey.TheVariants.{Main, Root}
use Rattle.mx_rows.specs.Rows.{are_in_order, is_rising, with_rows}
use Rattle.mx_rows.specs.Threads.{same_thread}
use Rattle.mx_records.specs.Snapshot.{RoomRows, rows_by_thread, some_rows}

-- ---- the rows of a thread

-- the rows of a thread among those of a room
abbrev pub thread_rows : RoomRows → ThreadKey → List Row
thread_rows [] thread = []
thread_rows (first ∷ others) thread =
    if same_thread thread first.thread then first.rows else thread_rows others thread

-- the threads of a room that have rows
abbrev pub threads_in : RoomRows → List ThreadKey
threads_in rows = map (λ each. each.thread) rows

-- the rows of a room, where these are a user's
abbrev pub rows_in : Texts RoomRows → List ℕ → RoomRows
rows_in rooms room = unwrap_or (get rooms room) []

-- the rows of a thread of a room, where these are a user's
abbrev pub list_in : Texts RoomRows → List ℕ → ThreadKey → List Row
list_in rooms room thread = thread_rows (rows_in rooms room) thread

-- what a user has, where these are of all users
abbrev pub of_user : {X : Type 0} → Texts (Texts X) → List ℕ → Texts X
of_user users user = unwrap_or (get users user) empty

-- a map that isn't empty
abbrev pub some_entries : {X : Type 0} → Texts X → Option (Texts X)
some_entries entries = if nat_eq (len entries) 0 then None else Some entries

-- the rows of a user in a thread of a room, where these are the rows of all users
abbrev pub list_at : Texts (Texts RoomRows) → List ℕ → List ℕ → ThreadKey → List Row
list_at unread user room thread = list_in (of_user unread user) room thread

-- it is that thread of that room
abbrev pub is_thread : List ℕ → ThreadKey → List ℕ → ThreadKey → Bool
is_thread room thread r t = bytes_eq room r && same_thread thread t

-- it is that user's room
abbrev pub is_users_room : List ℕ → List ℕ → List ℕ → List ℕ → Bool
is_users_room user room u r = bytes_eq user u && bytes_eq room r

-- it is that user's thread of that room
abbrev pub is_users_thread : List ℕ → List ℕ → ThreadKey → List ℕ → List ℕ → ThreadKey → Bool
is_users_thread user room thread u r t = bytes_eq user u && is_thread room thread r t

-- one of the rows stands at the position
abbrev pub has_row_at : ℕ → List Row → Bool
has_row_at position rows = list_any (λ row. nat_eq row.position position) rows

-- no two threads have a row at one position
abbrev pub AreApart : (ThreadKey → List Row) → Type 0
AreApart list =
    (s t : ThreadKey) (position : ℕ) → has_row_at position (list s) ≡ true
    → has_row_at position (list t) ≡ true → same_thread s t ≡ true

-- Each thread has rows and stands once, in the order of their first rows; the rows of each rise,
-- and no two of them have a row at one position. So the lists of the threads say what these are.
pub record AreRoomRows (rows : RoomRows) : Type 0 where
  pub once : IsDistinct same_thread (threads_in rows)
  pub some : with_rows (thread_rows rows) (threads_in rows) ≡ threads_in rows
  pub in_order : are_in_order (thread_rows rows) (threads_in rows) ≡ true
  pub rising : (thread : ThreadKey) → is_rising (thread_rows rows thread) ≡ true
  pub apart : AreApart (thread_rows rows)

-- no room without rows is kept, and the rows of each are such
pub record AreUserRows (rooms : Texts RoomRows) : Type 0 where
  pub some : (room : List ℕ) → get rooms room ≡ some_rows (rows_in rooms room)
  pub each : (room : List ℕ) → AreRoomRows (rows_in rooms room)

-- no user without rows is kept, and the rows of each are such
pub record AreUnreadRows (unread : Texts (Texts RoomRows)) : Type 0 where
  pub some : (user : List ℕ) → get unread user ≡ some_entries (of_user unread user)
  pub each : (user : List ℕ) → AreUserRows (of_user unread user)

-- ---- capacity

-- a thread as a text
abbrev pub thread_text : ThreadKey → List ℕ
thread_text Main = []
thread_text (Root id) = 0 ∷ id

-- a finite set of threads, each as a text
abbrev pub ThreadSet : Type 0
ThreadSet = set.FinSet (slice_cmp nat_cmp)

-- whether there is capacity for one row more of a thread of a room, where these are a user's
abbrev pub has_capacity_in : Texts ThreadSet → List ℕ → ThreadKey → Bool
has_capacity_in rooms room thread =
    option_map_or (λ threads. set.contains threads (thread_text thread)) (get rooms room) false

-- whether there is capacity for one row more of a user in a thread of a room
abbrev pub has_capacity : Texts (Texts ThreadSet) → List ℕ → List ℕ → ThreadKey → Bool
has_capacity users user room thread = has_capacity_in (of_user users user) room thread

-- ---- what is seen

-- The rows of a user by room, and the threads for whose next row there is capacity.
pub record UserRowsView : Type 0 where
  pub rooms : Texts RoomRows
  pub capacity : Texts ThreadSet

-- The rows of all users by user and room, and the threads for whose next row there is capacity.
pub record UnreadView : Type 0 where
  pub unread : Texts (Texts RoomRows)
  pub capacity : Texts (Texts ThreadSet)

-- ---- what is kept, for private clauses

-- what entries show, each by its text; those that show nothing are left out
abbrev pub shown_by : {X Y : Type 0} → (X → Option Y) → List (List ℕ × X) → Texts Y
shown_by shown entries =
    from_entries (filter_map (λ entry. option_map (λ y. (entry.0, y)) (shown entry.1)) entries)

-- a set of threads that isn't empty
abbrev pub some_threads : List ThreadKey → Option ThreadSet
some_threads [] = None
some_threads (first ∷ others) = Some (set.from_list (map thread_text (first ∷ others)))

module _ {R : Type 0} (list : R → ThreadKey → List Row) (threads : R → List ThreadKey) where
  -- the rows of a room that are shown
  abbrev pub shown_rows : R → Option RoomRows
  shown_rows rows = some_rows (rows_by_thread (list rows) (with_rows (list rows) (threads rows)))

-- the capacity of a room that is shown
abbrev pub shown_capacity : {R : Type 0} → (R → ThreadKey → Bool) → (R → List ThreadKey) → R → Option ThreadSet
shown_capacity capacity threads rows = some_threads (filter (capacity rows) (threads rows))

-- what is seen of a user's rows
abbrev pub user_view : {R : Type 0} → (R → ThreadKey → List Row) → (R → ThreadKey → Bool) → (R → List ThreadKey)
    → List (List ℕ × R) → UserRowsView
user_view list capacity threads entries = record {
  rooms = shown_by (shown_rows list threads) entries;
  capacity = shown_by (shown_capacity capacity threads) entries;
}

-- each room stands once, and no two of its threads have a row at one position
pub record AreRooms {R : Type 0} (list : R → ThreadKey → List Row) (threads : R → List ThreadKey)
    (entries : List (List ℕ × R)) : Type 0 where
  pub distinct : IsDistinct bytes_eq (keys_of entries)
  pub apart : (room : List ℕ) → AreApart (list_in (shown_by (shown_rows list threads) entries) room)

-- what is seen of the rows of all users
abbrev pub unread_view : List (List ℕ × UserRowsView) → UnreadView
unread_view entries = record {
  unread = shown_by (λ rows. some_entries rows.rooms) entries;
  capacity = shown_by (λ rows. some_entries rows.capacity) entries;
}

-- each user stands once, with rows that are such
pub record AreUsersRows (entries : List (List ℕ × UserRowsView)) : Type 0 where
  pub distinct : IsDistinct bytes_eq (keys_of entries)
  pub each : (user : List ℕ) → IfSome (lookup (bytes_eq user) entries) (λ rows. AreUserRows rows.rooms)
