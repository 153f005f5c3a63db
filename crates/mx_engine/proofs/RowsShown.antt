-- The rows that an engine keeps are those of its history, and go on by an input as these do.
use Rattle.std.proofs.Common.{◌≡◌, ℕ, ◌+◌, ◌≤◌, ◌<◌, nat_le, Bool, true, false, cond, not, ◌&&◌, ◌||◌, List, [], ◌∷◌}
use Rattle.std.proofs.Common.{◌++◌, codes, map, filter, length, Option, Some, None, option_and_then, unwrap_or, IfNone}
use Rattle.std.proofs.Common.{IfSome, refl, ap, subst, sym, ◌∙◌, arith}
use Rattle.std.specs.FinMap.{empty, get}
use Rattle.std.specs.List.{IsDistinct, list_all}
use Rattle.std.specs.Option.{option_map_or}
use Rattle.std.specs.Str.{bytes_eq}
use Rattle.std.proofs.lemmas.Bool.{and_from, and_parts, le-leb, leb-true}
use Rattle.std.proofs.lemmas.List.Folds.{list_all-append}
use Rattle.mx_json.specs.declared.value.Json.{Json}
use Rattle.mx_json.specs.Ids.{is_local, is_user_id}
use Rattle.mx_event.specs.Event.{membership_of, room_id_of, sender_of}
use Rattle.mx_room.specs.Facts.{facts_of}
use Rattle.mx_room.specs.Members.{membership_at}
use Rattle.mx_room.specs.Rooms.{room_at, rooms_of}
use Rattle.mx_room.specs.Texts.{Texts}
use Rattle.mx_room.proofs.TextsLemmas.{bytes_eq-same}
use Rattle.mx_rows.specs.declared.row.Row.{Row}
use Rattle.mx_rows.specs.declared.thread_key.ThreadKey.{ThreadKey}
use Rattle.mx_rows.specs.Rows.{above, counts_in}
use Rattle.mx_rows.specs.Threads.{same_thread, same_thread-equiv}
use Rattle.mx_rule.specs.declared.verdict.Verdict.{Verdict}
use Rattle.mx_rule.specs.Judged.{invites}
use Rattle.mx_records.specs.declared.input.Input.TheVariants.{Event, Receipt}
use Rattle.mx_records.specs.Counting.{counts_of, is_in, is_unread, row_of, rows_of, thread_in, threads_of}
use Rattle.mx_records.specs.Cuts.{moves_to, reaches}
use Rattle.mx_records.specs.History.{Happening, History, events, inputs_of, with_input}
use Rattle.mx_records.specs.Judging.{notice_in, notices_in, notifies}
use Rattle.mx_records.specs.Places.{position_of, thread}
use Rattle.mx_records.specs.Rooms.{events_of, room_after}
use Rattle.mx_records.specs.Rules.{rules_of}
use Rattle.mx_records.specs.Snapshot.{RoomRows, room_rows, rows_at, rows_by_thread, some_rooms, some_rows, unread_rows}
use Rattle.mx_records.proofs.HistoryLemmas.{next_event}
use Rattle.mx_records.proofs.KeptLemmas.{rows_at-unread}
use Rattle.mx_records.specs.KeptRows.{HaveRooms, HaveRows}
use Rattle.mx_records.specs.KeptRows.{thread_rows as kept_of}
use Rattle.mx_records.proofs.NoticeLemmas.{get-noticed, next_row-noticed, rows_by, unjudged}
use Rattle.mx_records.proofs.SnapshotLemmas.{moves-mover, thread_rows-unread, unread_rows-lists}
use Rattle.mx_records.proofs.UnreadLemmas.{above-none, is_told, next_row, rows_of-event, rows_of-receipt, rows_of-upto}
use Rattle.mx_engine.specs.KeptRows.{AreRoomRows, AreUnreadRows, AreUserRows, list_at, of_user, rows_in, some_entries}
use Rattle.mx_engine.specs.KeptRows.{thread_rows, threads_in}
use Rattle.mx_engine.specs.Planning.{PlannedEvent, PlannedRead, mover_of, row_added, row_said, rows_moved}
use Rattle.mx_engine.specs.Planning.{rows_with_event, rows_with_read}
use Rattle.mx_engine.proofs.ApartLemmas.{by_thread-itself, has_thread-rows}

-- ---- lists of rows

upto_more : (n : ℕ) (rows : List Row) → list_all (λ (row : Row). nat_le row.position n) rows ≡ true
    → list_all (λ (row : Row). nat_le row.position (n + 1)) rows ≡ true
upto_more n [] all = refl
upto_more n (row ∷ rows) all =
    let parts = and_parts (nat_le row.position n) (list_all (λ (row : Row). nat_le row.position n) rows) all in
    let first = leb-true _ _ parts.0 in
    and_from _ _ (le-leb row.position (n + 1) (omega arith)) (upto_more n rows parts.1)

-- rows up to a position, and others up to the next
pub upto-added : (n : ℕ) (rows others : List Row) → list_all (λ (row : Row). nat_le row.position n) rows ≡ true
    → list_all (λ (row : Row). nat_le row.position (n + 1)) others ≡ true
    → list_all (λ (row : Row). nat_le row.position (n + 1)) (rows ++ others) ≡ true
upto-added n rows others all more =
    list_all-append (λ (row : Row). nat_le row.position (n + 1)) rows others
    ∙ and_from _ _ (upto_more n rows all) more

-- ---- what is kept is of this form

have_rows : (rooms : Texts RoomRows) → AreUserRows rooms → HaveRows rooms
have_rows rooms kept room rows has =
    let itself : some_rows (rows_in rooms room) ≡ Some rows = sym (kept.some room) ∙ has in
    ap some_rows (sym (ap (λ (o : Option RoomRows). unwrap_or o []) has)) ∙ itself

have_rooms : (unread : Texts (Texts RoomRows)) → AreUnreadRows unread → HaveRooms unread
have_rooms unread kept = record {
  some = λ user rooms has.
      ap some_rooms (sym (ap (λ (o : Option (Texts RoomRows)). unwrap_or o empty) has)) ∙ sym (kept.some user) ∙ has;
  rows = λ user rooms has.
      have_rows rooms
      (subst AreUserRows (ap (λ (o : Option (Texts RoomRows)). unwrap_or o empty) has) (kept.each user));
}

-- Rows of which each list is the one of its thread are those of the history.
pub unread-only : (server : List ℕ) (h : History) (unread : Texts (Texts RoomRows)) → AreUnreadRows unread
    → ((user room : List ℕ) (t : ThreadKey) → list_at unread user room t ≡ rows_of server h user room t)
    → unread ≡ unread_rows server h
unread-only server h unread kept alike =
    let rows : List ℕ → List ℕ → RoomRows = λ user room. rows_in (of_user unread user) room in
    let each : (user room : List ℕ) → AreRoomRows (rows user room) = λ user room. (kept.each user).each room in
    unread_rows-lists server h unread (have_rooms unread kept) (list_at unread)
    (λ user room. threads_in (rows user room))
    (λ user room. (each user room).once)
    (λ user room. has_thread-rows (rows user room) (each user room).some)
    (λ user room. (each user room).in_order)
    (λ user room. sym (by_thread-itself (rows user room) (each user room).once))
    alike

-- ---- what is read off it

thread_rows-flip : (rows : RoomRows) (t : ThreadKey) → thread_rows rows t ≡ kept_of t rows
thread_rows-flip [] t = refl
thread_rows-flip (first ∷ others) t = ap (cond (same_thread t first.thread) first.rows) (thread_rows-flip others t)

-- the rows of a thread, where these are those of the history
pub list-unread : (server : List ℕ) (h : History) (unread : Texts (Texts RoomRows)) (user room : List ℕ) (t : ThreadKey)
    → unread ≡ unread_rows server h → list_at unread user room t ≡ rows_of server h user room t
list-unread server h unread user room t is =
    ap (λ (u : Texts (Texts RoomRows)). list_at u user room t) is
    ∙ thread_rows-flip (rows_at (unread_rows server h) user room) t
    ∙ thread_rows-unread server h user room t

threads_in-by_thread : (list : ThreadKey → List Row) (threads : List ThreadKey)
    → threads_in (rows_by_thread list threads) ≡ threads
threads_in-by_thread list [] = refl
threads_in-by_thread list (t ∷ threads) = ap (λ ts. t ∷ ts) (threads_in-by_thread list threads)

-- the threads that have rows
pub threads-unread : (server : List ℕ) (h : History) (unread : Texts (Texts RoomRows)) (user room : List ℕ)
    → unread ≡ unread_rows server h → threads_in (rows_at unread user room) ≡ threads_of server h user room
threads-unread server h unread user room is =
    ap (λ (u : Texts (Texts RoomRows)). threads_in (rows_at u user room)) is
    ∙ ap threads_in (rows_at-unread server h user room)
    ∙ threads_in-by_thread (rows_of server h user room) (threads_of server h user room)

-- no list is left where no rows are
pub lists-none : (rows : RoomRows) (t : ThreadKey) → rows ≡ [] → thread_rows rows t ≡ []
lists-none rows t none = ap (λ (r : RoomRows). thread_rows r t) none

-- ---- after an event

-- a text that is no user id is notified of nothing
no_notice : (server user : List ℕ) (x : Happening) → is_user_id user ≡ false → notifies server user x ≡ false
no_notice server user x none =
    ap (λ (v : Option Verdict). option_map_or (λ (verdict : Verdict). verdict.notify) v false)
    (unjudged server (membership_at (room_after x) user) user (rules_of server x.before user)
    (facts_of x.event user (room_after x))
    (ap (λ b. b && is_local server user && not (bytes_eq (sender_of x.event) user)
    && (bytes_eq (membership_at (room_after x) user) (codes "join") || invites x.event user)) none))

filter_none : {A : Type 0} (p : A → Bool) (xs : List A) → ((x : A) → p x ≡ false) → filter p xs ≡ []
filter_none p [] none = refl
filter_none p (x ∷ xs) none = ap (λ b. cond b (x ∷ filter p xs) (filter p xs)) (none x) ∙ filter_none p xs none

and_last : (a b c : Bool) → c ≡ false → (a && (b && c)) ≡ false
and_last true true c none = none
and_last true false c none = refl
and_last false b c none = refl

-- and so has no rows
no_rows : (server : List ℕ) (h : History) (user room : List ℕ) (t : ThreadKey) → is_user_id user ≡ false
    → rows_of server h user room t ≡ []
unfolding rows_of
no_rows server h user room t none =
    ap (λ xs. map (row_of server user) (filter (λ (x : Happening). same_thread t (thread_in x)) xs))
    (filter_none (is_unread server h user room) (events h)
    (λ x. and_last _ (is_in room x.event) (notifies server user x) (no_notice server user x none)))

no_next_row : (server : List ℕ) (h : History) (event : Json) (user room : List ℕ) (t : ThreadKey)
    → is_user_id user ≡ false → next_row server h event user room t ≡ []
no_next_row server h event user room t none =
    ap (λ b. cond b (row_of server user (next_event h event) ∷ []) [])
    (and_last _ (is_in room event) (notifies server user (next_event h event))
    (no_notice server user (next_event h event) none))

row_said-by : (position : ℕ) (said : Option Bool) → row_said position said ≡ rows_by position said
row_said-by position None = refl
row_said-by position (Some highlight) = refl

-- the row that a planned event adds is the next one
row-next : (server : List ℕ) (h : History) (event : Json) (users : Texts Bool)
    → users ≡ notices_in server (rules_of server h) (room_after (next_event h event)) event
    → (u r : List ℕ) (t : ThreadKey)
    → row_added (inputs_of h + 1) (room_id_of event) (thread h event) (get users) u r t
    ≡ next_row server h event u r t
row-next server h event users is u r t =
    let said : get users u ≡ notice_in server (rules_of server h) (room_after (next_event h event)) event u =
    ap (λ (m : Texts Bool). get m u) is ∙ get-noticed server u (next_event h event) in
    (λ i. cond (bytes_eq (room_id_of event) r && same_thread-equiv.symm (thread h event) t i)
    (row_said-by (inputs_of h + 1) (said i) i) [])
    ∙ sym (next_row-noticed server h event u r t)

-- a cut at the position leaves nothing of the mover's rows, and a mover without a user id has none
moved-rows : (told : Option (List ℕ × List ℕ)) (is_move : List ℕ × List ℕ → Bool) (position : ℕ) (room u r : List ℕ)
    (rows : List Row) → above position rows ≡ [] → (is_user_id u ≡ false → rows ≡ [])
    → rows_moved position room
    (option_and_then (λ told. cond (is_user_id told.0 && is_move told) (Some told.0) None) told) u r rows
    ≡ cond (bytes_eq room r && option_map_or (λ (mover : List ℕ). bytes_eq mover u)
    (option_and_then (λ told. cond (is_move told) (Some told.0) None) told) false) [] rows
moved-rows None is_move position room u r rows cut no_id = by (bytes_eq room r)
  where
    by : (b : Bool) → rows ≡ cond (b && false) [] rows
    by true = refl
    by false = refl
moved-rows (Some told) is_move position room u r rows cut no_id = by (is_user_id told.0) (is_move told) refl
  where
    same : (b c : Bool) → cond (b && c) (above position rows) rows ≡ cond (c && b) [] rows
    same true true = cut
    same true false = refl
    same false true = refl
    same false false = refl

    none : (b c : Bool) → bytes_eq told.0 u ≡ b → is_user_id told.0 ≡ false → rows ≡ cond (c && b) [] rows
    none true true is id = no_id (ap is_user_id (sym (bytes_eq-same told.0 u is)) ∙ id)
    none true false is id = refl
    none false true is id = refl
    none false false is id = refl

    stays : (c : Bool) → rows ≡ cond (c && false) [] rows
    stays true = refl
    stays false = refl

    by : (id move : Bool) → is_user_id told.0 ≡ id
        → rows_moved position room (cond (id && move) (Some told.0) None) u r rows
        ≡ cond (bytes_eq room r
        && option_map_or (λ (mover : List ℕ). bytes_eq mover u) (cond move (Some told.0) None) false) [] rows
    by true true is = same (bytes_eq told.0 u) (bytes_eq room r)
    by true false is = stays (bytes_eq room r)
    by false true is = none (bytes_eq told.0 u) (bytes_eq room r) refl is
    by false false is = stays (bytes_eq room r)

-- the rows of a thread after an event are what its plan makes of those before it
pub rows-event : (server : List ℕ) (h : History) (event : Json) (plan : PlannedEvent) (position : ℕ)
    → position ≡ inputs_of h + 1 → plan.room.id ≡ room_id_of event → plan.thread ≡ thread h event
    → plan.users ≡ notices_in server (rules_of server h) (room_after (next_event h event)) event
    → plan.mover ≡ mover_of (room_at (rooms_of (events_of h)) (room_id_of event)) event
    → (u r : List ℕ) (t : ThreadKey)
    → rows_with_event position plan u r t (rows_of server h u r t)
    ≡ rows_of server (with_input h (Event event)) u r t
rows-event server h event plan position at room of users mover u r t =
    let before = rows_of server h u r t in
    let next = next_row server h event u r t in
    let here = room_at (rooms_of (events_of h)) (room_id_of event) in
    (λ i. rows_moved (at i) (room i) (mover i) u r
    (before ++ row_added (at i) (room i) (of i) (get plan.users) u r t))
    ∙ ap (λ l. rows_moved (inputs_of h + 1) (room_id_of event) (mover_of here event) u r (before ++ l))
    (row-next server h event plan.users users u r t)
    ∙ moved-rows (membership_of event) (λ told. moves_to (membership_at here told.0) told.1) (inputs_of h + 1)
    (room_id_of event) u r (before ++ next)
    (above-none (inputs_of h + 1) (before ++ next)
    (upto-added (inputs_of h) before next (rows_of-upto server h u r t)
    (next-upto (is_told server u r t (next_event h event)))))
    (λ none. λ i. no_rows server h u r t none i ++ no_next_row server h event u r t none i)
    ∙ ap (λ b. cond (bytes_eq (room_id_of event) r && b) [] (before ++ next)) (sym (moves-mover h event u))
    ∙ sym (rows_of-event server h event u r t)
  where
    next-upto : (b : Bool)
        → list_all (λ (row : Row). nat_le row.position (inputs_of h + 1))
        (cond b (row_of server u (next_event h event) ∷ []) [])
        ≡ true
    next-upto true = and_from _ _ (le-leb (inputs_of h + 1) (inputs_of h + 1) (omega arith)) refl
    next-upto false = refl

-- ---- after a receipt

-- the rows of a thread after a receipt are what its plan makes of those before it
pub rows-read : (server : List ℕ) (h : History) (reader named id : List ℕ) (private : Bool) (of : Option ThreadKey)
    (plan : PlannedRead) → plan.user ≡ reader → plan.room ≡ named → plan.thread ≡ of
    → plan.upto ≡ unwrap_or (position_of h id) 0
    → (u r : List ℕ) (t : ThreadKey)
    → rows_with_read plan u r t (rows_of server h u r t)
    ≡ rows_of server (with_input h (Receipt reader named id private of)) u r t
rows-read server h reader named id private of plan user room thread upto u r t =
    let before = rows_of server h u r t in
    (λ i. cond ((bytes_eq (user i) u && bytes_eq (room i) r) && reaches (thread i) t) (above (upto i) before) before)
    ∙ ap (λ b. cond b (above (unwrap_or (position_of h id) 0) before) before)
    (and_assoc3 (bytes_eq reader u) (bytes_eq named r) (reaches of t))
    ∙ sym (rows_of-receipt server h reader named id private of u r t)
  where
    and_assoc3 : (a b c : Bool) → ((a && b) && c) ≡ (a && (b && c))
    and_assoc3 true b c = refl
    and_assoc3 false b c = refl

-- ---- what is counted

-- the counts of a thread
pub counts-unread : (server : List ℕ) (h : History) (unread : Texts (Texts RoomRows)) (user room : List ℕ)
    (t : ThreadKey)
    → unread ≡ unread_rows server h → counts_in (list_at unread user room t) ≡ counts_of server h user room t
unfolding counts_of
counts-unread server h unread user room t is = ap counts_in (list-unread server h unread user room t is)

-- the threads that have rows, where these are shown
pub threads-shown : (server : List ℕ) (h : History) (unread : Texts (Texts RoomRows)) (user room : List ℕ)
    → (list : ThreadKey → List Row) (threads : List ThreadKey)
    → unread ≡ unread_rows server h → rows_by_thread list threads ≡ rows_at unread user room
    → threads ≡ threads_of server h user room
threads-shown server h unread user room list threads is shown =
    sym (threads_in-by_thread list threads) ∙ ap threads_in shown ∙ threads-unread server h unread user room is

-- no thread has rows where none are kept
pub threads-none : (server : List ℕ) (h : History) (unread : Texts (Texts RoomRows)) (user room : List ℕ)
    → unread ≡ unread_rows server h → rows_at unread user room ≡ [] → threads_of server h user room ≡ []
threads-none server h unread user room is none =
    sym (threads-unread server h unread user room is) ∙ ap threads_in none

-- ---- what is answered

pub map_IfSome : {A : Type 0} (o : Option A) (P Q : A → Type 0) → ((a : A) → P a → Q a) → IfSome o P → IfSome o Q
map_IfSome None P Q f has = has
map_IfSome (Some a) P Q f has = f a has

pub map_IfNone : {A P Q : Type 0} (o : Option A) → (P → Q) → IfNone o P → IfNone o Q
map_IfNone None f has = f has
map_IfNone (Some a) f has = has
