-- What is unread, and how much of it: the Client-Server API v1.11, 'Receiving notifications'.
use Rattle.std.specs.Prelude.{ℕ, List, [], ◌∷◌, Bool, not, ◌&&◌, nat_lt, map, filter}
use Rattle.std.specs.Str.{bytes_eq}
use Rattle.mx_json.specs.declared.value.Json.{Json}
use Rattle.mx_event.specs.Event.{room_id_of}
use Rattle.mx_rows.specs.declared.counts.Counts.{Counts}
use Rattle.mx_rows.specs.declared.row.Row.{Row}
use Rattle.mx_rows.specs.declared.thread_key.ThreadKey.{ThreadKey}
use Rattle.mx_rows.specs.Rows.{counts_in}
use Rattle.mx_rows.specs.Threads.{same_thread}
use Rattle.mx_records.specs.Cuts.{cut_of}
use Rattle.mx_records.specs.History.{History, Happening, events, position_after}
use Rattle.mx_records.specs.Judging.{notifies, highlights}
use Rattle.mx_records.specs.Places.{thread}

-- the event is one of the room
abbrev pub is_in : List ℕ → Json → Bool
is_in room event = bytes_eq (room_id_of event) room

-- the thread of an event that happens
abbrev pub thread_in : Happening → ThreadKey
thread_in happening = thread happening.before happening.event

-- An event is unread for a user in a room where it is one of that room, notifies the user, and stands
-- above the position up to which its thread is read.
abbrev pub is_unread : List ℕ → History → List ℕ → List ℕ → Happening → Bool
is_unread server h user room happening =
    nat_lt (cut_of h user room (thread_in happening)) (position_after happening.before)
    && (is_in room happening.event && notifies server user happening)

-- the unread events of a user in a room, oldest first
abbrev pub unread : List ℕ → History → List ℕ → List ℕ → List Happening
unread server h user room = filter (is_unread server h user room) (events h)

-- those of them that are in a thread
abbrev pub unread_in : List ℕ → History → List ℕ → List ℕ → ThreadKey → List Happening
unread_in server h user room thread =
    filter (λ happening. same_thread thread (thread_in happening)) (unread server h user room)

-- what is kept of an unread event: its position, and whether it is highlighted
abbrev pub row_of : List ℕ → List ℕ → Happening → Row
row_of server user happening = record {
  position = position_after happening.before;
  highlight = highlights server user happening;
}

-- the rows of a user in a thread of a room
unfoldable pub rows_of : List ℕ → History → List ℕ → List ℕ → ThreadKey → List Row
rows_of server h user room thread = map (row_of server user) (unread_in server h user room thread)

-- how many events of a thread are unread, and how many of these are highlighted
unfoldable pub counts_of : List ℕ → History → List ℕ → List ℕ → ThreadKey → Counts
counts_of server h user room thread = counts_in (rows_of server h user room thread)

-- how many events of a room are unread, whatever their threads
unfoldable pub room_counts_of : List ℕ → History → List ℕ → List ℕ → Counts
room_counts_of server h user room = counts_in (map (row_of server user) (unread server h user room))

-- each of these threads once, where it comes first
abbrev pub each_once : List ThreadKey → List ThreadKey
each_once [] = []
each_once (thread ∷ threads) = thread ∷ filter (λ other. not (same_thread thread other)) (each_once threads)

-- the threads of a room that have unread events, in the order of the first of each
unfoldable pub threads_of : List ℕ → History → List ℕ → List ℕ → List ThreadKey
threads_of server h user room = each_once (map thread_in (unread server h user room))
