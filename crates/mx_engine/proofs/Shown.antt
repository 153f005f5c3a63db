-- What an engine shows tells what its history refuses, and goes on by an input as the history does.
use Rattle.std.proofs.Common.{◌≡◌, ℕ, ◌+◌, List, [], Bool, true, false, not, ◌||◌, Option, Some, None, ◌⊎◌, inl, inr}
use Rattle.std.proofs.Common.{Err, cond, refl, ap, sym, subst, ◌∙◌}
use Rattle.std.specs.Prelude.{find, nat_le, option_map, unwrap_or}
use Rattle.std.specs.FinMap.{empty, get, insert}
use Rattle.std.specs.Option.{option_map_or, option_or}
use Rattle.std.specs.Str.{bytes_eq}
use Rattle.std.proofs.lemmas.Option.{same_Some}
use Rattle.mx_json.specs.declared.value.Json.{Json}
use Rattle.mx_edit.specs.declared.plan.EditPlan.{EditPlan}
use Rattle.mx_edit.specs.declared.error.EditError.{EditError}
use Rattle.mx_edit.specs.declared.error.EditError.TheVariants.{Refused}
use Rattle.mx_edit.specs.Planning.{IsPlanOf, Tells, planned}
use Rattle.mx_event.specs.Event.{event_id_of, room_id_of}
use Rattle.mx_room.specs.Change.{sets_of, with_sets}
use Rattle.mx_room.specs.Rooms.{PlannedRoom, room_at, rooms_of, with_room}
use Rattle.mx_room.specs.State.{RoomState}
use Rattle.mx_room.specs.Texts.{Texts, table}
use Rattle.mx_rule.specs.declared.edit.Edit.{Edit}
use Rattle.mx_rule.specs.declared.edit.EditRefusal.{EditRefusal}
use Rattle.mx_rule.specs.Editing.{edited, refusal_of_edit}
use Rattle.mx_rule.specs.Ruleset.{PushRuleset}
use Rattle.mx_rows.specs.declared.thread_key.ThreadKey.{ThreadKey}
use Rattle.mx_rows.specs.declared.thread_key.ThreadKey.TheVariants.{Main, Root}
use Rattle.mx_thread.specs.declared.place.Place.{Place}
use Rattle.mx_thread.specs.Place.{Places, place_in, thread_of}
use Rattle.mx_records.specs.declared.input.Input.{Input}
use Rattle.mx_records.specs.declared.input.Input.TheVariants.{Event, Edit as EditInput, Receipt, Pusher}
use Rattle.mx_records.specs.declared.refusal.Refusal.{Refusal}
use Rattle.mx_records.specs.declared.refusal.Refusal.TheVariants.{Full, KnownEvent, NotInThread, NotLocal, UnknownEvent}
use Rattle.mx_records.specs.History.{History, additions_after, events, inputs_of, with_input}
use Rattle.mx_records.specs.Judging.{notices_in}
use Rattle.mx_records.specs.Places.{is_event_with, places_of, position_of, thread, with_place}
use Rattle.mx_records.specs.Refusing.{NamesAPosition, most_inputs, refusal_by, refusal_of_any, refusal_of_content}
use Rattle.mx_records.specs.Refusing.{refusal_of_read}
use Rattle.mx_json.specs.Ids.{is_local}
use Rattle.mx_records.specs.Rooms.{events_of, room_after}
use Rattle.mx_records.specs.Rules.{edited_rules, own_rules, rules_among, rules_of}
use Rattle.mx_records.specs.Snapshot.{RoomRows, Snapshot, snapshot_of, unread_rows}
use Rattle.mx_records.proofs.HistoryLemmas.{next_event, room_after-next}
use Rattle.mx_records.proofs.PlacesLemmas.{position_of-places, refusal_of_read-places, with_place-new}
use Rattle.mx_records.proofs.PlacesLemmas.{is_read_at as is_read_by, refusal_at as refusal_by_place}
use Rattle.mx_records.proofs.RulesLemmas.{get-edited_rules, rules_among-edited}
use Rattle.mx_records.proofs.SnapshotLemmas.{snapshot_of-edit, snapshot_of-push, snapshot_of-receipt}
use Rattle.mx_engine.specs.declared.error.PrepareError.{PrepareError}
use Rattle.mx_engine.specs.declared.error.PrepareError.TheVariants.{OutOfMemory, Refused as Unprepared}
use Rattle.mx_engine.specs.Preparing.{IsPlanned, SaysOfContent}
use Rattle.mx_engine.specs.KeptRows.{AreUnreadRows, list_at}
use Rattle.mx_engine.specs.Planning.{adds, edits, reads, IsPlannedFor, IsReadFor, PlannedEvent, PlannedRead, Suits}
use Rattle.mx_engine.specs.Planning.{mover_of, rows_with_event, rows_with_read, with_edit, with_event, with_read}
use Rattle.mx_engine.specs.Reading.{is_read_at, position_at, refusal_at}
use Rattle.mx_engine.proofs.RowsShown.{list-unread, rows-event, rows-read, unread-only}

-- what is known before any input
pub snapshot-new : (server : List ℕ)
    → snapshot_of server []
    ≡ record { inputs = 0; places = empty; rooms = rooms_of []; rules = empty; unread = empty }
unfolding snapshot_of places_of events additions_after edited_rules unread_rows table
snapshot-new server = refl

-- ---- what is refused

-- what the content of an input says, and whether the inputs are as many as may be, tell its refusal
pub refusal-shown : (server : List ℕ) (h : History) (shown : Snapshot) (input : Input) (content : Option Refusal)
    (inputs : ℕ) (full : Bool)
    → shown ≡ snapshot_of server h → refusal_of_content server h input ≡ content → inputs ≡ shown.inputs
    → nat_le most_inputs inputs ≡ full
    → refusal_of_any server h input ≡ option_or content (cond full (Some Full) None)
unfolding refusal_of_any snapshot_of
refusal-shown server h shown input content inputs full is said counted told =
    let full_now : nat_le most_inputs (inputs_of h) ≡ full =
    ap (λ (s : Snapshot). nat_le most_inputs s.inputs) (sym is) ∙ ap (nat_le most_inputs) (sym counted) ∙ told in
    ap (λ c. option_or c (cond (nat_le most_inputs (inputs_of h)) (Some Full) None)) said
    ∙ ap (λ b. option_or content (cond b (Some Full) None)) full_now

-- what a look for the event's id in the places answers tells what its content is refused for
pub content-found : (server : List ℕ) (h : History) (shown : Snapshot) (places : Places) (event : Json)
    (id : List ℕ) (found : Option Place)
    → shown ≡ snapshot_of server h → places ≡ shown.places → id ≡ event_id_of event → found ≡ place_in places id
    → refusal_of_content server h (Event event)
    ≡ option_map KnownEvent (option_map (λ (place : Place). place.position) found)
unfolding snapshot_of
content-found server h shown places event id found is same named answered =
    ap (option_map KnownEvent) (position_of-places h (event_id_of event))
    ∙ ap (λ (s : Snapshot).
    option_map KnownEvent (option_map (λ (place : Place). place.position) (place_in s.places (event_id_of event))))
    (sym is)
    ∙ ap (λ (p : Places).
    option_map KnownEvent (option_map (λ (place : Place). place.position) (place_in p (event_id_of event)))) (sym same)
    ∙ ap (λ id. option_map KnownEvent (option_map (λ (place : Place). place.position) (place_in places id))) (sym named)
    ∙ ap (λ found. option_map KnownEvent (option_map (λ (place : Place). place.position) found)) (sym answered)

-- ---- what is known of the inputs and of rules

pub inputs-shown : (server : List ℕ) (h : History) (shown : Snapshot) → shown ≡ snapshot_of server h
    → shown.inputs ≡ inputs_of h
unfolding snapshot_of
inputs-shown server h shown is = ap (λ (s : Snapshot). s.inputs) is

-- the rules of a user, read off what is known
pub rules-shown : (server : List ℕ) (h : History) (shown : Snapshot) → shown ≡ snapshot_of server h
    → rules_among server shown.rules ≡ rules_of server h
unfolding snapshot_of
rules-shown server h shown is = ap (λ (s : Snapshot). rules_among server s.rules) is ∙ rules_among-edited server h

-- the rules of a user who edited them
pub own-shown : (server : List ℕ) (h : History) (shown : Snapshot) (user : List ℕ) → shown ≡ snapshot_of server h
    → get shown.rules user ≡ own_rules server h user
unfolding snapshot_of
own-shown server h shown user is = ap (λ (s : Snapshot). get s.rules user) is ∙ get-edited_rules server h user

-- what a local user's edit is refused for
pub content-edit : (server : List ℕ) (h : History) (shown : Snapshot) (user : List ℕ) (edit : Edit)
    (refusal : Option EditRefusal)
    → shown ≡ snapshot_of server h → is_local server user ≡ true
    → refusal_of_edit (rules_among server shown.rules user) edit ≡ refusal
    → refusal_of_content server h (EditInput user edit) ≡ option_map refusal_by refusal
content-edit server h shown user edit refusal is local told =
    ap (λ b. cond b (option_map refusal_by (refusal_of_edit (rules_of server h user) edit)) (Some NotLocal)) local
    ∙ ap (λ (r : List ℕ → PushRuleset). option_map refusal_by (refusal_of_edit (r user) edit))
    (sym (rules-shown server h shown is))
    ∙ ap (option_map refusal_by) told

-- an error that tells of an edit's refusal tells this one
pub told-refused : (found : Option EditRefusal) (error : EditError) (refusal : EditRefusal)
    → Tells found error → error ≡ Refused refusal → found ≡ Some refusal
told-refused None error refusal (inl is) same = absurd cc
told-refused (Some first) error refusal (inl is) same = cc
told-refused found error refusal (inr memory) same = absurd cc

-- an error that says why the content of an input is refused is what preparing it answers
pub prepared-refused : (server : List ℕ) (h : History) (shown : Snapshot) (input : Input) (error : PrepareError)
    → shown ≡ snapshot_of server h
    → SaysOfContent {A = EditPlan} (refusal_of_content server h input) (Err error)
    → IsPlanned server h input (Err error)
prepared-refused server h shown input (Unprepared told) is says =
    refusal-shown server h shown input (Some told) shown.inputs (nat_le most_inputs shown.inputs) is says refl refl
prepared-refused server h shown input OutOfMemory is says = tt

-- ---- receipts

read_by : (place : Place) (id : List ℕ) (thread : ThreadKey)
    → is_read_at place id thread ≡ is_read_by id place.thread thread
read_by place id Main = refl
read_by place id (Root root) = refl

named_by : (place : Place) (id : List ℕ) (named : Option ThreadKey)
    → option_map_or (is_read_at place id) named true ≡ option_map_or (is_read_by id place.thread) named true
named_by place id None = refl
named_by place id (Some thread) = read_by place id thread

refusal_by_at : (room id : List ℕ) (named : Option ThreadKey) (place : Option Place)
    → refusal_at room id named place ≡ refusal_by_place room id named place
refusal_by_at room id named None = refl
refusal_by_at room id named (Some place) =
    ap (λ b. cond (not (bytes_eq place.room room)) (Some UnknownEvent) (cond (not b) (Some NotInThread) None))
    (named_by place id named)

-- what a local user's receipt is refused for is told by the place of the event that it names
pub content-receipt : (server : List ℕ) (h : History) (shown : Snapshot) (user room id : List ℕ) (private : Bool)
    (named : Option ThreadKey)
    → shown ≡ snapshot_of server h → is_local server user ≡ true
    → refusal_of_content server h (Receipt user room id private named)
    ≡ refusal_at room id named (place_in shown.places id)
unfolding snapshot_of
content-receipt server h shown user room id private named is local =
    ap (λ b. cond b (refusal_of_read room id named (find (is_event_with id) (events h))) (Some NotLocal)) local
    ∙ refusal_of_read-places h room id named
    ∙ sym (refusal_by_at room id named (place_in (places_of h) id))
    ∙ ap (λ (s : Snapshot). refusal_at room id named (place_in s.places id)) (sym is)

-- one that isn't local is refused
pub unlocal-receipt : (server : List ℕ) (h : History) (user room id : List ℕ) (private : Bool)
    (named : Option ThreadKey)
    → is_local server user ≡ false
    → refusal_of_content server h (Receipt user room id private named) ≡ Some NotLocal
unlocal-receipt server h user room id private named other =
    ap (λ b. cond b (refusal_of_read room id named (find (is_event_with id) (events h))) (Some NotLocal)) other

-- a receipt's refusal names no position
pub refusal_at-in_range : (room id : List ℕ) (named : Option ThreadKey) (place : Option Place) (refusal : Refusal)
    → refusal_at room id named place ≡ Some refusal → NamesAPosition refusal
refusal_at-in_range room id named None refusal told = subst NamesAPosition (same_Some _ _ told) tt
refusal_at-in_range room id named (Some place) refusal told =
    by (bytes_eq place.room room) (option_map_or (is_read_at place id) named true) told
  where
    by : (in_room read : Bool)
        → cond (not in_room) (Some UnknownEvent) (cond (not read) (Some NotInThread) None) ≡ Some refusal
        → NamesAPosition refusal
    by false read told = subst NamesAPosition (same_Some _ _ told) tt
    by true false told = subst NamesAPosition (same_Some _ _ told) tt
    by true true told = absurd cc

-- ---- what an input leads to

-- the rows that are kept
pub rows-shown : (server : List ℕ) (h : History) (shown : Snapshot) → shown ≡ snapshot_of server h
    → shown.unread ≡ unread_rows server h
unfolding snapshot_of
rows-shown server h shown is = ap (λ (s : Snapshot). s.unread) is

module _ (server : List ℕ) (h : History) (shown : Snapshot) (position : ℕ) (is : shown ≡ snapshot_of server h)
    (next : position ≡ shown.inputs + 1) where
  inputs : position ≡ inputs_of h + 1
  inputs = next ∙ ap (λ n. n + 1) (inputs-shown server h shown is)

  module _ (event : Json) (plan : PlannedEvent) (suits : IsPlannedFor server shown event plan) where
    places : shown.places ≡ places_of h
    unfolding snapshot_of
    places = ap (λ (s : Snapshot). s.places) is

    rooms : shown.rooms ≡ rooms_of (events_of h)
    unfolding snapshot_of
    rooms = ap (λ (s : Snapshot). s.rooms) is

    thread_is : plan.thread ≡ thread h event
    thread_is = suits.thread ∙ ap (λ (p : Places). thread_of (place_in p) event) places

    users_are : plan.users ≡ notices_in server (rules_of server h) (room_after (next_event h event)) event
    users_are =
        suits.users
        ∙ ap (λ (rules : List ℕ → PushRuleset). notices_in server rules
        (with_sets (sets_of event) (room_at shown.rooms (room_id_of event))) event) (rules-shown server h shown is)
        ∙ ap (λ (rs : Texts RoomState). notices_in server (rules_of server h)
        (with_sets (sets_of event) (room_at rs (room_id_of event))) event) rooms
        ∙ ap (λ (room : RoomState). notices_in server (rules_of server h) room event)
        (sym (room_after-next h event))

    mover_is : plan.mover ≡ mover_of (room_at (rooms_of (events_of h)) (room_id_of event)) event
    mover_is = suits.mover ∙ ap (λ (rs : Texts RoomState). mover_of (room_at rs (room_id_of event)) event) rooms

    unread-event : (unread : Texts (Texts RoomRows)) → AreUnreadRows unread
        → ((u r : List ℕ) (t : ThreadKey) → list_at unread u r t
        ≡ rows_with_event position plan u r t (list_at shown.unread u r t))
        → unread ≡ unread_rows server (with_input h (Event event))
    unread-event unread kept lists =
        unread-only server (with_input h (Event event)) unread kept (λ u r t.
        lists u r t
        ∙ ap (rows_with_event position plan u r t)
        (list-unread server h shown.unread u r t (rows-shown server h shown is))
        ∙ rows-event server h event plan position inputs (ap (λ (room : PlannedRoom). room.id) suits.room) thread_is
        users_are mover_is u r t)

    placed : place_in shown.places plan.id ≡ None
        → insert shown.places plan.id (record { position = position; room = plan.room.id; thread = plan.thread })
        ≡ with_place (places_of h) (next_event h event)
    placed new =
        let apart : place_in (places_of h) (event_id_of event) ≡ None =
        sym (λ i. place_in (places i) (suits.id i)) ∙ new in
        (λ i. insert (places i) (suits.id i)
        (record { position = inputs i; room = (suits.room i).id; thread = thread_is i }))
        ∙ sym (with_place-new (places_of h) (next_event h event) apart)

    -- what is known after an event
    step-event : place_in shown.places plan.id ≡ None
        → (unread : Texts (Texts RoomRows)) → AreUnreadRows unread
        → ((u r : List ℕ) (t : ThreadKey) → list_at unread u r t
        ≡ rows_with_event position plan u r t (list_at shown.unread u r t))
        → with_event shown position plan unread ≡ snapshot_of server (with_input h (Event event))
    unfolding snapshot_of
    step-event new unread kept lists =
        (λ i. record {
          inputs = inputs i;
          places = placed new i;
          rooms = with_room (suits.room i).id (suits.room i).sets (rooms i);
          rules = (is i).rules;
          unread = unread-event unread kept lists i;
        })
        ∙ sym (snapshot_of-push server h event)

  -- what is known after an edit
  step-edit : (user : List ℕ) (edit : Edit) (plan : EditPlan)
      → IsPlanOf edit (rules_among server shown.rules user) plan
      → with_edit server shown position user plan ≡ snapshot_of server (with_input h (EditInput user edit))
  unfolding snapshot_of
  step-edit user edit plan suits =
      let rules : shown.rules ≡ edited_rules server h = ap (λ (s : Snapshot). s.rules) is in
      let made : planned plan (rules_among server shown.rules user) ≡ edited (rules_of server h user) edit =
      suits.1 ∙ ap (λ (r : List ℕ → PushRuleset). edited (r user) edit) (rules-shown server h shown is) in
      (λ i. record {
        inputs = inputs i;
        places = (is i).places;
        rooms = (is i).rooms;
        rules = insert (rules i) user (made i);
        unread = (is i).unread;
      })
      ∙ sym (snapshot_of-edit server h user edit)

  -- what is known after a receipt
  step-read : (user room id : List ℕ) (private : Bool) (named : Option ThreadKey) (plan : PlannedRead)
      → IsReadFor shown user room id named plan
      → (unread : Texts (Texts RoomRows)) → AreUnreadRows unread
      → ((u r : List ℕ) (t : ThreadKey) → list_at unread u r t
      ≡ rows_with_read plan u r t (list_at shown.unread u r t))
      → with_read shown position unread ≡ snapshot_of server (with_input h (Receipt user room id private named))
  unfolding snapshot_of
  step-read user room id private named plan suits unread kept lists =
      let upto : plan.upto ≡ unwrap_or (position_of h id) 0 =
      suits.upto
      ∙ ap (λ (s : Snapshot). position_at (place_in s.places id)) is
      ∙ ap (λ (o : Option ℕ). unwrap_or o 0) (sym (position_of-places h id)) in
      let rows : unread ≡ unread_rows server (with_input h (Receipt user room id private named)) =
      unread-only server (with_input h (Receipt user room id private named)) unread kept (λ u r t.
      lists u r t
      ∙ ap (rows_with_read plan u r t) (list-unread server h shown.unread u r t (rows-shown server h shown is))
      ∙ rows-read server h user room id private named plan suits.user suits.room suits.thread upto u r t) in
      (λ i. record {
        inputs = inputs i;
        places = (is i).places;
        rooms = (is i).rooms;
        rules = (is i).rules;
        unread = rows i;
      })
      ∙ sym (snapshot_of-receipt server h user room id private named)

  -- what is known after a change that an input leads to
  pub step-adds : (input : Input) (plan : PlannedEvent) → Suits server shown input (adds plan)
      → place_in shown.places plan.id ≡ None
      → (unread : Texts (Texts RoomRows)) → AreUnreadRows unread
      → ((u r : List ℕ) (t : ThreadKey) → list_at unread u r t
      ≡ rows_with_event position plan u r t (list_at shown.unread u r t))
      → with_event shown position plan unread ≡ snapshot_of server (with_input h input)
  step-adds (Event event) plan suits new unread kept lists = step-event event plan suits new unread kept lists
  step-adds (EditInput user edit) plan suits new unread kept lists = absurd suits
  step-adds (Receipt user room id private named) plan suits new unread kept lists = absurd suits
  step-adds (Pusher spec) plan suits new unread kept lists = absurd suits

  pub step-edits : (input : Input) (editor : List ℕ) (plan : EditPlan) → Suits server shown input (edits editor plan)
      → with_edit server shown position editor plan ≡ snapshot_of server (with_input h input)
  step-edits (EditInput user edit) editor plan suits =
      (λ i. with_edit server shown position (suits.0 i) plan) ∙ step-edit user edit plan suits.1
  step-edits (Event event) editor plan suits = absurd suits
  step-edits (Receipt user room id private named) editor plan suits = absurd suits
  step-edits (Pusher spec) editor plan suits = absurd suits

  pub step-reads : (input : Input) (plan : PlannedRead) → Suits server shown input (reads plan)
      → (unread : Texts (Texts RoomRows)) → AreUnreadRows unread
      → ((u r : List ℕ) (t : ThreadKey) → list_at unread u r t
      ≡ rows_with_read plan u r t (list_at shown.unread u r t))
      → with_read shown position unread ≡ snapshot_of server (with_input h input)
  step-reads (Receipt user room id private named) plan suits unread kept lists =
      step-read user room id private named plan suits unread kept lists
  step-reads (Event event) plan suits unread kept lists = absurd suits
  step-reads (EditInput user edit) plan suits unread kept lists = absurd suits
  step-reads (Pusher spec) plan suits unread kept lists = absurd suits
