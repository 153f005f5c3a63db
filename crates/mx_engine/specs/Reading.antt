-- What a receipt for an event of a known place leads to; for private clauses.
use Rattle.std.specs.Prelude.{◌≡◌, ℕ, Bool, true, not, ◌||◌, if◌then◌else◌, List, Option, None, Some, Result, Ok, Err}
use Rattle.std.specs.Prelude.{option_map, unwrap_or}
use Rattle.std.specs.Option.{option_map_or}
use Rattle.std.specs.Str.{bytes_eq}
use Rattle.mx_rows.specs.declared.thread_key.ThreadKey.{ThreadKey}
use Rattle.mx_rows.specs.declared.thread_key.ThreadKey.TheVariants.{Main, Root}
use Rattle.mx_rows.specs.Threads.{same_thread}
use Rattle.mx_thread.specs.declared.place.Place.{Place}
use Rattle.mx_records.specs.declared.refusal.Refusal.{Refusal}
use Rattle.mx_records.specs.declared.refusal.Refusal.TheVariants.{NotInThread, UnknownEvent}

-- the event with this id and place is in the thread, or is its root
abbrev pub is_read_at : Place → List ℕ → ThreadKey → Bool
is_read_at place id Main = same_thread Main place.thread
is_read_at place id (Root root) = same_thread (Root root) place.thread || bytes_eq root id

-- why a receipt for an event of this place, in a room and perhaps a thread, is refused
abbrev pub refusal_at : List ℕ → List ℕ → Option ThreadKey → Option Place → Option Refusal
refusal_at room id thread None = Some UnknownEvent
refusal_at room id thread (Some place) =
    if not (bytes_eq place.room room) then Some UnknownEvent
    else (if not (option_map_or (is_read_at place id) thread true) then Some NotInThread else None)

-- the position of a place
abbrev pub position_at : Option Place → ℕ
position_at place = unwrap_or (option_map (λ place. place.position) place) 0

-- an answer tells the refusal, and comes with the place's position where there is none
abbrev pub IsReadUpto : Option Refusal → Option Place → Result ℕ Refusal → Type 0
IsReadUpto refusal place (Ok upto) = (refusal ≡ None) × (upto ≡ position_at place)
IsReadUpto refusal place (Err told) = refusal ≡ Some told
