-- What a plan changes, and for which state it is made: ours.
use Rattle.std.specs.Prelude.{◌≡◌, ℕ, ◌+◌, ◌≤◌, Bool, true, false, ◌&&◌, if◌then◌else◌, nat_le, List, [], ◌∷◌, ◌++◌}
use Rattle.std.specs.Prelude.{length, Option, Some, None, option_and_then, option_map, unwrap_or}
use Rattle.std.specs.FinMap.{from_entries, get, insert}
use Rattle.std.specs.List.{IsDistinct, list_all}
use Rattle.std.specs.Map.{keys_of}
use Rattle.std.specs.Option.{option_map_or}
use Rattle.std.specs.Str.{bytes_eq}
use Rattle.mx_json.specs.Ids.{is_user_id}
use Rattle.mx_json.specs.declared.value.Json.{Json}
use Rattle.mx_edit.specs.declared.plan.EditPlan.{EditPlan}
use Rattle.mx_edit.specs.Planning.{is_made_for, planned, IsPlanOf}
use Rattle.mx_event.specs.Event.{event_id_of, membership_of, room_id_of}
use Rattle.mx_room.specs.Change.{sets_of, with_sets}
use Rattle.mx_room.specs.Members.{membership_at}
use Rattle.mx_room.specs.Rooms.{PlannedRoom, room_at, with_room}
use Rattle.mx_room.specs.State.{RoomState}
use Rattle.mx_room.specs.Texts.{Texts}
use Rattle.mx_rows.specs.declared.row.Row.{Row}
use Rattle.mx_rows.specs.declared.thread_key.ThreadKey.{ThreadKey}
use Rattle.mx_rows.specs.Rows.{above}
use Rattle.mx_rows.specs.Threads.{same_thread}
use Rattle.mx_thread.specs.Place.{place_in, thread_of}
use Rattle.mx_records.specs.declared.input.Input.{Input}
use Rattle.mx_records.specs.declared.input.Input.TheVariants.{Event, Edit, Receipt, Pusher}
use Rattle.mx_records.specs.Cuts.{moves_to, reaches}
use Rattle.mx_records.specs.Judging.{notices_in}
use Rattle.mx_records.specs.Refusing.{most_inputs}
use Rattle.mx_records.specs.Rules.{rules_among}
use Rattle.mx_records.specs.Snapshot.{RoomRows, Snapshot}
use Rattle.mx_engine.specs.declared.plan.Change.{Change}
use Rattle.mx_engine.specs.declared.plan.Change.TheVariants as change
use Rattle.mx_engine.specs.declared.plan.EventPlan.{EventPlan}
use Rattle.mx_engine.specs.declared.plan.ReadPlan.{ReadPlan}
use Rattle.mx_engine.specs.KeptRows.{is_users_room}

-- What is planned for an event: its id, what it sets in its room, its thread, whom it notifies, each
-- with whether it is highlighted, and the user whose rows of the room it cuts, if there is one.
pub record PlannedEvent : Type 0 where
  pub id : List ℕ
  pub room : PlannedRoom
  pub thread : ThreadKey
  pub users : Texts Bool
  pub mover : Option (List ℕ)

-- What is planned for a receipt: who read, which room, which thread of it or all, and up to where.
pub record PlannedRead : Type 0 where
  pub user : List ℕ
  pub room : List ℕ
  pub thread : Option ThreadKey
  pub upto : ℕ

-- What a plan changes: it adds an event, edits the rules of a user, or reads a room for a user.
pub data PlannedChange : Type 0 where
  adds : PlannedEvent → PlannedChange
  edits : List ℕ → EditPlan → PlannedChange
  reads : PlannedRead → PlannedChange

-- A plan is a change, the position that its input will take, and the payload that a journal keeps of
-- the input.
pub record Planned : Type 0 where
  pub position : ℕ
  pub change : PlannedChange
  pub payload : List ℕ

-- ---- what an input leads to

-- the user whose membership of its room an event changes, and not to an invitation, where the room
-- has this state before it and the user's text is a user id
abbrev pub mover_of : RoomState → Json → Option (List ℕ)
mover_of before event =
    option_and_then (λ told.
    if is_user_id told.0 && moves_to (membership_at before told.0) told.1 then Some told.0 else None)
    (membership_of event)

-- what is planned is what this event leads to in this state
pub record IsPlannedFor (server : List ℕ) (shown : Snapshot) (event : Json) (plan : PlannedEvent) : Type 0 where
  pub id : plan.id ≡ event_id_of event
  pub room : plan.room ≡ record { id = room_id_of event; sets = sets_of event }
  pub thread : plan.thread ≡ thread_of (place_in shown.places) event
  pub users : plan.users
      ≡ notices_in server (rules_among server shown.rules)
      (with_sets (sets_of event) (room_at shown.rooms (room_id_of event))) event
  pub mover : plan.mover ≡ mover_of (room_at shown.rooms (room_id_of event)) event

-- what is planned is what a receipt of this user for this event leads to in this state
pub record IsReadFor (shown : Snapshot) (reader in_room event_id : List ℕ) (of : Option ThreadKey)
    (plan : PlannedRead) : Type 0 where
  pub user : plan.user ≡ reader
  pub room : plan.room ≡ in_room
  pub thread : plan.thread ≡ of
  pub upto : plan.upto ≡ unwrap_or (option_map (λ place. place.position) (place_in shown.places event_id)) 0

-- the change is a receipt's, and what one of this user for this event leads to in this state
abbrev pub IsReads : Snapshot → List ℕ → List ℕ → List ℕ → Option ThreadKey → PlannedChange → Type 0
IsReads shown user room id thread (adds plan) = ⊥
IsReads shown user room id thread (edits editor plan) = ⊥
IsReads shown user room id thread (reads plan) = IsReadFor shown user room id thread plan

-- the change is what this input leads to in this state
abbrev pub Suits : List ℕ → Snapshot → Input → PlannedChange → Type 0
Suits server shown (Event event) (adds plan) = IsPlannedFor server shown event plan
Suits server shown (Edit user edit) (edits editor plan) =
    (editor ≡ user) × IsPlanOf edit (rules_among server shown.rules user) plan
Suits server shown (Receipt user room id private thread) change =
    IsReads shown user room id thread change
Suits server shown (Pusher spec) change = ⊥
Suits server shown (Event event) (edits editor plan) = ⊥
Suits server shown (Event event) (reads plan) = ⊥
Suits server shown (Edit user edit) (adds plan) = ⊥
Suits server shown (Edit user edit) (reads plan) = ⊥

-- ---- for which state a plan is made

-- the change can be made in this state: an event is new there, and an edit is planned for the
-- user's rules; a receipt always can
abbrev pub Fits : List ℕ → Snapshot → PlannedChange → Type 0
Fits server shown (adds plan) = place_in shown.places plan.id ≡ None
Fits server shown (edits editor plan) = is_made_for (rules_among server shown.rules editor) plan ≡ true
Fits server shown (reads plan) = Unit {0}

-- A plan is made for a state: its position is the next one of this snapshot, which an input may
-- have, and its change can be made there.
pub record IsMadeFor (server : List ℕ) (shown : Snapshot) (plan : Planned) : Type 0 where
  pub next : plan.position ≡ shown.inputs + 1
  pub in_range : plan.position ≤ most_inputs
  pub fits : Fits server shown plan.change

-- ---- how a plan holds what it says; for private clauses

-- what an event's plan says
abbrev pub event_planned : EventPlan → PlannedEvent
event_planned plan = record {
  id = plan.id;
  room = plan.room;
  thread = plan.place.thread;
  users = from_entries plan.users.items;
  mover = plan.mover;
}

-- what a receipt's plan says
abbrev pub read_planned : ReadPlan → PlannedRead
read_planned plan = record {
  user = plan.user;
  room = plan.room;
  thread = plan.thread;
  upto = plan.upto;
}

-- what a plan changes
abbrev pub change_planned : Change → PlannedChange
change_planned (change.Adds plan) = adds (event_planned plan)
change_planned (change.Edits editor plan) = edits editor plan
change_planned (change.Reads plan) = reads (read_planned plan)

-- an event's place is in its room, at this position, and each user whom it notifies stands once
pub record IsPlacedAt (position : ℕ) (plan : EventPlan) : Type 0 where
  pub place : plan.place.position ≡ position
  pub place_room : plan.place.room ≡ plan.room.id
  pub users : IsDistinct bytes_eq (keys_of plan.users.items)

-- a change is made at this position
abbrev pub IsMadeAt : ℕ → Change → Type 0
IsMadeAt position (change.Adds plan) = IsPlacedAt position plan
IsMadeAt position (change.Edits editor plan) = Unit {0}
IsMadeAt position (change.Reads plan) = Unit {0}

-- ---- what is known after a change; for private clauses

-- what is known after an event that is planned so, at this position, where these are the rows then
abbrev pub with_event : Snapshot → ℕ → PlannedEvent → Texts (Texts RoomRows) → Snapshot
with_event shown position plan unread = record {
  inputs = position;
  places = insert shown.places plan.id (record { position = position; room = plan.room.id; thread = plan.thread });
  rooms = with_room plan.room.id plan.room.sets shown.rooms;
  rules = shown.rules;
  unread = unread;
}

-- what is known after an edit that is planned so, at this position
abbrev pub with_edit : List ℕ → Snapshot → ℕ → List ℕ → EditPlan → Snapshot
with_edit server shown position editor plan = record {
  inputs = position;
  places = shown.places;
  rooms = shown.rooms;
  rules = insert shown.rules editor (planned plan (rules_among server shown.rules editor));
  unread = shown.unread;
}

-- what is known after a receipt at this position, where these are the rows then
abbrev pub with_read : Snapshot → ℕ → Texts (Texts RoomRows) → Snapshot
with_read shown position unread = record {
  inputs = position;
  places = shown.places;
  rooms = shown.rooms;
  rules = shown.rules;
  unread = unread;
}

-- ---- the rows after a change, thread by thread; for private clauses

-- the row of what an event says of a user, if it says anything
abbrev pub row_said : ℕ → Option Bool → List Row
row_said position None = []
row_said position (Some highlight) = record { position = position; highlight = highlight } ∷ []

-- the row that an event of a thread, at this position, adds to a user's thread, where this is said of
-- the users
abbrev pub row_added : ℕ → List ℕ → ThreadKey → (List ℕ → Option Bool) → List ℕ → List ℕ → ThreadKey → List Row
row_added position room thread said u r t =
    if bytes_eq room r && same_thread thread t then row_said position (said u) else []

-- the rows of a user's thread, cut at this position where the user is the mover
abbrev pub rows_moved : ℕ → List ℕ → Option (List ℕ) → List ℕ → List ℕ → List Row → List Row
rows_moved position room mover u r rows =
    if option_map_or (λ moved. is_users_room moved room u r) mover false then above position rows else rows

-- the rows of a user's thread after an event that is planned so
abbrev pub rows_with_event : ℕ → PlannedEvent → List ℕ → List ℕ → ThreadKey → List Row → List Row
rows_with_event position plan u r t rows =
    rows_moved position plan.room.id plan.mover u r
    (rows ++ row_added position plan.room.id plan.thread (get plan.users) u r t)

-- the rows of a user's thread after a receipt that is planned so
abbrev pub rows_with_read : PlannedRead → List ℕ → List ℕ → ThreadKey → List Row → List Row
rows_with_read plan u r t rows =
    if is_users_room plan.user plan.room u r && reaches plan.thread t then above plan.upto rows else rows

-- no more rows than inputs, none above the last of these
pub record AreUpto (inputs : ℕ) (rows : List Row) : Type 0 where
  pub upto : list_all (λ row. nat_le row.position inputs) rows ≡ true
  pub few : length rows ≤ inputs
