-- How the rooms of a list of events step with one more event, and what they have of a room.
use Rattle.std.proofs.Common.{◌≡◌, ℕ, Bool, true, false, cond, ◌||◌, List, [], ◌∷◌, ◌++◌, map, Option, Some, None, ◌⊎◌}
use Rattle.std.proofs.Common.{inl, inr, is_some, unwrap_or, refl, sym, ap, ◌∙◌}
use Rattle.std.specs.FinMap.{empty, get}
use Rattle.std.specs.List.{list_any}
use Rattle.std.specs.Str.{bytes_eq}
use Rattle.std.proofs.lemmas.List.{append-nil}
use Rattle.std.proofs.lemmas.List.Elements.{filter-append}
use Rattle.mx_json.specs.declared.value.Json.{Json}
use Rattle.mx_json.specs.Ids.{is_user_id, localpart_of}
use Rattle.mx_event.specs.Event.{room_id_of}
use Rattle.mx_room.specs.Change.{sets_of, with_sets}
use Rattle.mx_room.specs.Rooms.{PlannedRoom, events_in, is_local_id, room_at, rooms_of, some_room, with_room}
use Rattle.mx_room.specs.State.{RoomState, room_of}
use Rattle.mx_room.specs.Texts.{Texts, table}
use Rattle.mx_room.proofs.StateLemmas.{room_of-push}
use Rattle.mx_room.proofs.TextsLemmas.{IsCovered, bytes_eq-flip, bytes_eq-same, get-table, table-set}

-- ---- the state of one room of these events

abbrev state_in : List Json → List ℕ → Option RoomState
state_in events id = some_room (events_in id events)

covered_cons : (is_here : Bool) (event : Json) (rest : List Json) (any : Bool)
    → (some_room rest ≡ None) ⊎ (any ≡ true)
    → (some_room (cond is_here (event ∷ rest) rest) ≡ None) ⊎ ((is_here || any) ≡ true)
covered_cons true event rest any before = inr refl
covered_cons false event rest any before = before

covered : (events : List Json) (id : List ℕ)
    → (state_in events id ≡ None) ⊎ (list_any (λ at. bytes_eq at id) (map room_id_of events) ≡ true)
covered [] id = inl refl
covered (event ∷ events) id =
    covered_cons (bytes_eq (room_id_of event) id) event (events_in id events)
    (list_any (λ at. bytes_eq at id) (map room_id_of events)) (covered events id)

any_flip : (id : List ℕ) (ids : List (List ℕ)) → list_any (bytes_eq id) ids ≡ list_any (λ at. bytes_eq at id) ids
any_flip id [] = refl
any_flip id (at ∷ ids) = rw (bytes_eq-flip id at, any_flip id ids)

states_covered : (events : List Json) → IsCovered (state_in events) (map room_id_of events)
states_covered events id = rw (any_flip id (map room_id_of events)) (covered events id)

get-rooms_of : (events : List Json) (id : List ℕ) → get (rooms_of events) id ≡ state_in events id
unfolding rooms_of
get-rooms_of events id = get-table (state_in events) (map room_id_of events) (states_covered events) id

unwrap-some_room : (events : List Json) → unwrap_or (some_room events) (room_of []) ≡ room_of events
unwrap-some_room [] = refl
unwrap-some_room (event ∷ events) = refl

-- the state of a room is that of its events
pub room_at-rooms_of : (events : List Json) (id : List ℕ) → room_at (rooms_of events) id ≡ room_of (events_in id events)
room_at-rooms_of events id =
    ap (λ (state : Option RoomState). unwrap_or state (room_of [])) (get-rooms_of events id)
    ∙ unwrap-some_room (events_in id events)

-- ---- one more event

some_room-push : (events : List Json) (event : Json)
    → some_room (events ++ event ∷ []) ≡ Some (with_sets (sets_of event) (room_of events))
some_room-push [] event = ap Some (room_of-push [] event)
some_room-push (first ∷ events) event = ap Some (room_of-push (first ∷ events) event)

pushed_by : (events : List Json) (event : Json) (id : List ℕ) (is_here : Bool)
    → bytes_eq (room_id_of event) id ≡ is_here
    → some_room (events_in id events ++ cond is_here (event ∷ []) [])
    ≡ cond is_here (Some (with_sets (sets_of event) (room_at (rooms_of events) (room_id_of event))))
    (some_room (events_in id events))
pushed_by events event id true is =
    some_room-push (events_in id events) event
    ∙ ap (λ (room : RoomState). Some (with_sets (sets_of event) room))
    (sym (room_at-rooms_of events id)
    ∙ ap (room_at (rooms_of events)) (sym (bytes_eq-same (room_id_of event) id is)))
pushed_by events event id false apart = ap some_room (append-nil (events_in id events))

state_in-push : (events : List Json) (event : Json) (id : List ℕ)
    → state_in (events ++ event ∷ []) id
    ≡ cond (bytes_eq id (room_id_of event))
    (Some (with_sets (sets_of event) (room_at (rooms_of events) (room_id_of event)))) (state_in events id)
state_in-push events event id =
    ap some_room (filter-append (λ each. bytes_eq (room_id_of each) id) events (event ∷ []))
    ∙ pushed_by events event id (bytes_eq (room_id_of event) id) refl
    ∙ ap (λ b. cond b (Some (with_sets (sets_of event) (room_at (rooms_of events) (room_id_of event))))
    (state_in events id)) (bytes_eq-flip (room_id_of event) id)

pub rooms_of-push : (events : List Json) (event : Json)
    → rooms_of (events ++ event ∷ []) ≡ with_room (room_id_of event) (sets_of event) (rooms_of events)
unfolding rooms_of
rooms_of-push events event =
    table-set (state_in events) (state_in (events ++ event ∷ [])) (map room_id_of events)
    (map room_id_of (events ++ event ∷ [])) (room_id_of event)
    (Some (with_sets (sets_of event) (room_at (rooms_of events) (room_id_of event)))) (states_covered events)
    (states_covered (events ++ event ∷ [])) (state_in-push events event)

-- a plan that was made of an event, carried out
pub rooms_of-planned : (rooms now : Texts RoomState) (plan : PlannedRoom) (events : List Json) (event : Json)
    → now ≡ with_room plan.id plan.sets rooms → rooms ≡ rooms_of events
    → plan ≡ record { id = room_id_of event; sets = sets_of event } → now ≡ rooms_of (events ++ event ∷ [])
rooms_of-planned rooms now plan events event change before planned =
    change ∙ (λ i. with_room (planned i).id (planned i).sets (before i)) ∙ sym (rooms_of-push events event)

pub rooms_of-none : rooms_of [] ≡ empty
unfolding rooms_of table
rooms_of-none = refl

-- ---- local users

-- of a user id it's asked alone whether it has a localpart on the server
pub is_local_id-of_id : (server user : List ℕ) → is_user_id user ≡ true
    → is_local_id server user ≡ is_some (localpart_of server user)
is_local_id-of_id server user is_id = rw is_id
