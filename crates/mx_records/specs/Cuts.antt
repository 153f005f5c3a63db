-- Up to where a user has read a thread: the Client-Server API v1.11, 'Receipts' and 'Threading'; that a
-- change of membership reads a room's threads, as other servers have it, is ours.
use Rattle.std.specs.Prelude.{ℕ, max, Bool, true, false, not, ◌&&◌, if◌then◌else◌, List, [], ◌∷◌, map, codes, Option}
use Rattle.std.specs.Prelude.{Some, None, unwrap_or}
use Rattle.std.specs.Option.{option_map_or}
use Rattle.std.specs.Str.{bytes_eq}
use Rattle.mx_json.specs.declared.value.Json.{Json}
use Rattle.mx_event.specs.Event.{membership_of, room_id_of}
use Rattle.mx_room.specs.Members.{membership_at}
use Rattle.mx_room.specs.Rooms.{events_in}
use Rattle.mx_room.specs.State.{room_of}
use Rattle.mx_rows.specs.declared.thread_key.ThreadKey.{ThreadKey}
use Rattle.mx_rows.specs.Threads.{same_thread}
use Rattle.mx_records.specs.declared.input.Input.{Input}
use Rattle.mx_records.specs.declared.input.Input.TheVariants.{Event, Edit, Receipt, Pusher}
use Rattle.mx_records.specs.History.{Arrival, History, arrivals, position_after}
use Rattle.mx_records.specs.Places.{position_of}
use Rattle.mx_records.specs.Rooms.{events_of}

-- the greatest of these numbers, and 0 where there is none
abbrev pub greatest : List ℕ → ℕ
greatest [] = 0
greatest (n ∷ ns) = max n (greatest ns)

-- ---- receipts

-- a receipt of this thread, or of none, reads a thread
abbrev pub reaches : Option ThreadKey → ThreadKey → Bool
reaches None thread = true
reaches (Some named) thread = same_thread named thread

-- ---- changes of membership

-- a user's membership of a room after a history
abbrev pub membership_in : History → List ℕ → List ℕ → List ℕ
membership_in h room user = membership_at (room_of (events_in room (events_of h))) user

-- the membership changes, and not to an invitation
abbrev pub moves_to : List ℕ → List ℕ → Bool
moves_to before after = not (bytes_eq after before) && not (bytes_eq after (codes "invite"))

-- an event that comes after a history changes the user's membership of its room, and not to an
-- invitation
abbrev pub moves : History → Json → List ℕ → Bool
moves before event user =
    option_map_or (λ told. bytes_eq told.0 user && moves_to (membership_in before (room_id_of event) user) told.1)
    (membership_of event) false

-- ---- cuts

-- the position up to which an input that comes after a history reads a thread for a user; 0 where it
-- reads none of it
abbrev pub cut_by : List ℕ → List ℕ → ThreadKey → History → Input → ℕ
cut_by user room thread before (Event event) =
    if bytes_eq (room_id_of event) room && moves before event user then position_after before else 0
cut_by user room thread before (Edit editor edit) = 0
cut_by user room thread before (Receipt reader named id private of) =
    if bytes_eq reader user && (bytes_eq named room && reaches of thread) then unwrap_or (position_of before id) 0
    else 0
cut_by user room thread before (Pusher spec) = 0

-- the same of an arrival
abbrev pub cut_at : List ℕ → List ℕ → ThreadKey → Arrival → ℕ
cut_at user room thread arrival = cut_by user room thread arrival.before arrival.input

-- The position up to which a thread of a room is read for a user: by the user's receipts, and by
-- the changes of the user's membership. A cut never moves back.
unfoldable pub cut_of : History → List ℕ → List ℕ → ThreadKey → ℕ
cut_of h user room thread = greatest (map (cut_at user room thread) (arrivals h))
