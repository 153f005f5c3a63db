-- What a state that stands for a history knows after one more input.
use Rattle.std.proofs.Common.{◌≡◌, ℕ, ◌+◌, Bool, true, false, cond, ◌&&◌, List, [], ◌++◌, Option, Some, None}
use Rattle.std.proofs.Common.{option_and_then, unwrap_or, refl, ap, sym, ◌∙◌}
use Rattle.std.specs.FinMap.{insert}
use Rattle.std.proofs.lemmas.List.{append-nil}
use Rattle.std.specs.List.{IsDistinct}
use Rattle.std.specs.Option.{option_map_or}
use Rattle.std.specs.Str.{bytes_eq}
use Rattle.mx_json.specs.declared.value.Json.{Json}
use Rattle.mx_event.specs.Event.{membership_of, room_id_of}
use Rattle.mx_room.specs.Change.{sets_of}
use Rattle.mx_room.specs.Members.{membership_at}
use Rattle.mx_room.specs.Rooms.{events_in, room_at, rooms_of, with_room}
use Rattle.mx_room.specs.State.{RoomState, room_of}
use Rattle.mx_room.specs.Texts.{Texts}
use Rattle.mx_room.proofs.RoomsLemmas.{room_at-rooms_of, rooms_of-push}
use Rattle.mx_room.proofs.TextsLemmas.{bytes_eq-same}
use Rattle.mx_rows.specs.declared.row.Row.{Row}
use Rattle.mx_rows.specs.declared.thread_key.ThreadKey.{ThreadKey}
use Rattle.mx_rows.specs.Rows.{above, are_in_order, has_rows}
use Rattle.mx_rows.specs.Threads.{has_thread, same_thread}
use Rattle.mx_rule.specs.declared.edit.Edit.{Edit}
use Rattle.mx_rule.specs.Editing.{edited}
use Rattle.mx_records.specs.declared.entry.Outcome.{Outcome}
use Rattle.mx_records.specs.declared.input.Input.{Input}
use Rattle.mx_records.specs.declared.input.Input.TheVariants.{Event, Edit as EditInput, Receipt}
use Rattle.mx_records.specs.Counting.{rows_of, threads_of}
use Rattle.mx_records.specs.Cuts.{moves, moves_to}
use Rattle.mx_records.specs.History.{History, inputs_of, with_input, with_outcome}
use Rattle.mx_records.specs.Places.{places_of, position_of, with_place}
use Rattle.mx_records.specs.Rooms.{events_of}
use Rattle.mx_records.specs.Rules.{edited_rules, rules_of}
use Rattle.mx_records.specs.KeptRows.{HaveRooms, thread_rows}
use Rattle.mx_records.specs.Snapshot.{RoomRows, room_rows, rows_at, rows_by_thread, snapshot_of, unread_rows}
use Rattle.mx_records.proofs.HistoryLemmas.{edit-no_event, events_of-other, events_of-outcome, events_of-push}
use Rattle.mx_records.proofs.HistoryLemmas.{inputs_of-outcome, inputs_of-push, next_event, places_of-other}
use Rattle.mx_records.proofs.HistoryLemmas.{places_of-outcome, places_of-push, receipt-no_event}
use Rattle.mx_records.proofs.KeptLemmas.{room_rows-only, rows_at-unread, thread_rows-room, unread_rows-kept}
use Rattle.mx_records.proofs.KeptLemmas.{unread_rows-only}
use Rattle.mx_records.proofs.RulesLemmas.{edited_rules-edit, edited_rules-other, edited_rules-outcome, event-no_edit}
use Rattle.mx_records.proofs.RulesLemmas.{receipt-no_edit}
use Rattle.mx_records.proofs.ThreadLemmas.{has-threads_of, threads_of-in_order, threads_of-once}
use Rattle.mx_records.proofs.UnreadLemmas.{moves_in, next_row, reads, rows_of-edit, rows_of-event, rows_of-outcome}
use Rattle.mx_records.proofs.UnreadLemmas.{rows_of-receipt}

-- ---- rows of one user in one room

-- a room whose rows are the same after other inputs has the same lists
pub room_rows-alike : (server : List ℕ) (h later : History) (user room : List ℕ)
    → ((t : ThreadKey) → rows_of server h user room t ≡ rows_of server later user room t)
    → room_rows server h user room ≡ room_rows server later user room
room_rows-alike server h later user room alike =
    room_rows-only server later user room (rows_of server h user room) (threads_of server h user room)
    (threads_of-once server h user room) (has-threads_of server h user room) (threads_of-in_order server h user room)
    alike

-- the rows that are kept of a thread
pub thread_rows-unread : (server : List ℕ) (h : History) (user room : List ℕ) (t : ThreadKey)
    → thread_rows t (rows_at (unread_rows server h) user room) ≡ rows_of server h user room t
thread_rows-unread server h user room t =
    ap (thread_rows t) (rows_at-unread server h user room) ∙ thread_rows-room server h user room t

-- A state that keeps nothing empty, and whose lists are the rows of the threads, keeps what is kept.
pub unread_rows-lists : (server : List ℕ) (h : History) (unread : Texts (Texts RoomRows)) → HaveRooms unread
    → (list : List ℕ → List ℕ → ThreadKey → List Row) (threads : List ℕ → List ℕ → List ThreadKey)
    → ((user room : List ℕ) → IsDistinct same_thread (threads user room))
    → ((user room : List ℕ) (t : ThreadKey) → has_thread t (threads user room) ≡ has_rows (list user room t))
    → ((user room : List ℕ) → are_in_order (list user room) (threads user room) ≡ true)
    → ((user room : List ℕ) → rows_at unread user room ≡ rows_by_thread (list user room) (threads user room))
    → ((user room : List ℕ) (t : ThreadKey) → list user room t ≡ rows_of server h user room t)
    → unread ≡ unread_rows server h
unread_rows-lists server h unread kept list threads once has order shown alike =
    unread_rows-only server h unread kept (λ user room.
    shown user room
    ∙ room_rows-only server h user room (list user room) (threads user room) (once user room) (has user room)
    (order user room) (alike user room))

-- ---- an event

-- a room in which an event neither moves nor notifies the user keeps its rows
pub rows_at-event-others : (server : List ℕ) (h : History) (event : Json) (user room : List ℕ)
    → moves_in room h event user ≡ false → ((t : ThreadKey) → next_row server h event user room t ≡ [])
    → rows_at (unread_rows server (with_input h (Event event))) user room ≡ rows_at (unread_rows server h) user room
rows_at-event-others server h event user room stays none =
    rows_at-unread server (with_input h (Event event)) user room
    ∙ sym (room_rows-alike server h (with_input h (Event event)) user room (λ t.
    sym (rows_of-event server h event user room t
    ∙ (λ i. cond (stays i) [] (rows_of server h user room t ++ none t i))
    ∙ append-nil (rows_of server h user room t))))
    ∙ sym (rows_at-unread server h user room)

-- what is kept of a thread after an event
pub thread_rows-event : (server : List ℕ) (h : History) (event : Json) (user room : List ℕ) (t : ThreadKey)
    → thread_rows t (rows_at (unread_rows server (with_input h (Event event))) user room)
    ≡ cond (moves_in room h event user) []
    (thread_rows t (rows_at (unread_rows server h) user room) ++ next_row server h event user room t)
thread_rows-event server h event user room t =
    thread_rows-unread server (with_input h (Event event)) user room t
    ∙ rows_of-event server h event user room t
    ∙ ap (λ rows. cond (moves_in room h event user) [] (rows ++ next_row server h event user room t))
    (sym (thread_rows-unread server h user room t))

-- ---- a receipt

-- a room that a receipt doesn't read keeps its rows
pub rows_at-receipt-others : (server : List ℕ) (h : History) (reader named id : List ℕ) (private : Bool)
    (of : Option ThreadKey) (user room : List ℕ)
    → (bytes_eq reader user && bytes_eq named room) ≡ false
    → rows_at (unread_rows server (with_input h (Receipt reader named id private of))) user room
    ≡ rows_at (unread_rows server h) user room
rows_at-receipt-others server h reader named id private of user room out =
    let later = with_input h (Receipt reader named id private of) in
    rows_at-unread server later user room
    ∙ sym (room_rows-alike server h later user room (λ t.
    sym (rows_of-receipt server h reader named id private of user room t
    ∙ ap (λ b. cond b (above (unwrap_or (position_of h id) 0) (rows_of server h user room t))
    (rows_of server h user room t)) (unread_by (bytes_eq reader user) (bytes_eq named room) _ out))))
    ∙ sym (rows_at-unread server h user room)
  where
    unread_by : (a b c : Bool) → (a && b) ≡ false → (a && (b && c)) ≡ false
    unread_by true b c none = ap (λ d. d && c) none
    unread_by false b c none = refl

-- what is kept of a thread after a receipt
pub thread_rows-receipt : (server : List ℕ) (h : History) (reader named id : List ℕ) (private : Bool)
    (of : Option ThreadKey) (user room : List ℕ) (t : ThreadKey)
    → thread_rows t (rows_at (unread_rows server (with_input h (Receipt reader named id private of))) user room)
    ≡ cond (reads reader named of user room t)
    (above (unwrap_or (position_of h id) 0) (thread_rows t (rows_at (unread_rows server h) user room)))
    (thread_rows t (rows_at (unread_rows server h) user room))
thread_rows-receipt server h reader named id private of user room t =
    thread_rows-unread server (with_input h (Receipt reader named id private of)) user room t
    ∙ rows_of-receipt server h reader named id private of user room t
    ∙ ap (λ rows. cond (reads reader named of user room t) (above (unwrap_or (position_of h id) 0) rows) rows)
    (sym (thread_rows-unread server h user room t))

-- ---- an edit

-- an edit leaves all rows as they were
pub unread_rows-edit : (server : List ℕ) (h : History) (user : List ℕ) (edit : Edit)
    → unread_rows server (with_input h (EditInput user edit)) ≡ unread_rows server h
unread_rows-edit server h editor edit =
    let later = with_input h (EditInput editor edit) in
    unread_rows-only server h (unread_rows server later) (unread_rows-kept server later) (λ user room.
    rows_at-unread server later user room
    ∙ room_rows-alike server later h user room (λ t. rows_of-edit server h editor edit user room t))

-- ---- all that is known

-- what is known after one more event
pub snapshot_of-push : (server : List ℕ) (h : History) (event : Json)
    → snapshot_of server (with_input h (Event event)) ≡ record {
      inputs = inputs_of h + 1;
      places = with_place (places_of h) (next_event h event);
      rooms = with_room (room_id_of event) (sets_of event) (rooms_of (events_of h));
      rules = edited_rules server h;
      unread = unread_rows server (with_input h (Event event));
    }
unfolding snapshot_of
snapshot_of-push server h event =
    let inputs = inputs_of-push h (Event event) in
    let places = places_of-push h event in
    let rooms : rooms_of (events_of (with_input h (Event event)))
    ≡ with_room (room_id_of event) (sets_of event) (rooms_of (events_of h)) =
    ap rooms_of (events_of-push h event) ∙ rooms_of-push (events_of h) event in
    let rules = edited_rules-other server h (Event event) (event-no_edit event) in
    λ i. record {
      inputs = inputs i;
      places = places i;
      rooms = rooms i;
      rules = rules i;
      unread = unread_rows server (with_input h (Event event));
    }

-- what is known after one more edit
pub snapshot_of-edit : (server : List ℕ) (h : History) (user : List ℕ) (edit : Edit)
    → snapshot_of server (with_input h (EditInput user edit)) ≡ record {
      inputs = inputs_of h + 1;
      places = places_of h;
      rooms = rooms_of (events_of h);
      rules = insert (edited_rules server h) user (edited (rules_of server h user) edit);
      unread = unread_rows server h;
    }
unfolding snapshot_of
snapshot_of-edit server h user edit =
    let none = edit-no_event user edit in
    let inputs = inputs_of-push h (EditInput user edit) in
    let places = places_of-other h (EditInput user edit) none in
    let rooms : rooms_of (events_of (with_input h (EditInput user edit))) ≡ rooms_of (events_of h) =
    ap rooms_of (events_of-other h (EditInput user edit) none) in
    let rules = edited_rules-edit server h user edit in
    let unread = unread_rows-edit server h user edit in
    λ i. record { inputs = inputs i; places = places i; rooms = rooms i; rules = rules i; unread = unread i }

-- what is known after one more receipt
pub snapshot_of-receipt : (server : List ℕ) (h : History) (reader room id : List ℕ) (private : Bool)
    (named : Option ThreadKey)
    → snapshot_of server (with_input h (Receipt reader room id private named)) ≡ record {
      inputs = inputs_of h + 1;
      places = places_of h;
      rooms = rooms_of (events_of h);
      rules = edited_rules server h;
      unread = unread_rows server (with_input h (Receipt reader room id private named));
    }
unfolding snapshot_of
snapshot_of-receipt server h reader room id private named =
    let input : Input = Receipt reader room id private named in
    let none = receipt-no_event reader room id private named in
    let inputs = inputs_of-push h input in
    let places = places_of-other h input none in
    let rooms : rooms_of (events_of (with_input h input)) ≡ rooms_of (events_of h) =
    ap rooms_of (events_of-other h input none) in
    let rules = edited_rules-other server h input (receipt-no_edit reader room id private named) in
    λ i. record {
      inputs = inputs i;
      places = places i;
      rooms = rooms i;
      rules = rules i;
      unread = unread_rows server (with_input h input);
    }

-- an outcome leaves all rows as they were
pub unread_rows-outcome : (server : List ℕ) (h : History) (outcome : Outcome)
    → unread_rows server (with_outcome h outcome) ≡ unread_rows server h
unread_rows-outcome server h outcome =
    let later = with_outcome h outcome in
    unread_rows-only server h (unread_rows server later) (unread_rows-kept server later) (λ user room.
    rows_at-unread server later user room
    ∙ room_rows-alike server later h user room (λ t. rows_of-outcome server h outcome user room t))

-- an outcome leaves all that is known as it was
pub snapshot_of-outcome : (server : List ℕ) (h : History) (outcome : Outcome)
    → snapshot_of server (with_outcome h outcome) ≡ snapshot_of server h
unfolding snapshot_of
snapshot_of-outcome server h outcome =
    let inputs = inputs_of-outcome h outcome in
    let places = places_of-outcome h outcome in
    let rooms : rooms_of (events_of (with_outcome h outcome)) ≡ rooms_of (events_of h) =
    ap rooms_of (events_of-outcome h outcome) in
    let rules = edited_rules-outcome server h outcome in
    let unread = unread_rows-outcome server h outcome in
    λ i. record { inputs = inputs i; places = places i; rooms = rooms i; rules = rules i; unread = unread i }

-- ---- whom an event moves

-- the user whose membership an event changes, where the room has this state before it and the event is no
-- invitation
abbrev pub mover_in : RoomState → Json → Option (List ℕ)
mover_in before event =
    option_and_then (λ told. cond (moves_to (membership_at before told.0) told.1) (Some told.0) None)
    (membership_of event)

mover_by : (before : RoomState) (user : List ℕ) (told : Option (List ℕ × List ℕ))
    → option_map_or (λ told. bytes_eq told.0 user && moves_to (membership_at before user) told.1) told false
    ≡ option_map_or (λ (mover : List ℕ). bytes_eq mover user)
    (option_and_then (λ told. cond (moves_to (membership_at before told.0) told.1) (Some told.0) None) told) false
mover_by before user None = refl
mover_by before user (Some told) = by (bytes_eq told.0 user) refl
  where
    moved : (b c : Bool) → bytes_eq told.0 user ≡ b
        → (b && c) ≡ option_map_or (λ (mover : List ℕ). bytes_eq mover user) (cond c (Some told.0) None) false
    moved true true is = sym is
    moved true false is = refl
    moved false true is = sym is
    moved false false is = refl

    by : (b : Bool) → bytes_eq told.0 user ≡ b
        → (bytes_eq told.0 user && moves_to (membership_at before user) told.1)
        ≡ option_map_or (λ (mover : List ℕ). bytes_eq mover user)
        (cond (moves_to (membership_at before told.0) told.1) (Some told.0) None) false
    by true is =
        ap (λ (u : List ℕ). bytes_eq told.0 user && moves_to (membership_at before u) told.1)
        (sym (bytes_eq-same told.0 user is))
        ∙ ap (λ b. b && moves_to (membership_at before told.0) told.1) is
        ∙ moved true (moves_to (membership_at before told.0) told.1) is
    by false is =
        ap (λ b. b && moves_to (membership_at before user) told.1) is
        ∙ moved false (moves_to (membership_at before told.0) told.1) is

-- an event moves the one user whom the state of its room before it tells
pub moves-mover : (h : History) (event : Json) (user : List ℕ)
    → moves h event user
    ≡ option_map_or (λ (mover : List ℕ). bytes_eq mover user)
    (mover_in (room_at (rooms_of (events_of h)) (room_id_of event)) event) false
moves-mover h event user =
    mover_by (room_of (events_in (room_id_of event) (events_of h))) user (membership_of event)
    ∙ ap (λ (before : RoomState). option_map_or (λ (mover : List ℕ). bytes_eq mover user) (mover_in before event) false)
    (sym (room_at-rooms_of (events_of h) (room_id_of event)))
