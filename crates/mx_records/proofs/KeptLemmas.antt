-- What is kept of the unread rows, by user and room: exactly those of each, and nothing that is empty.
use Rattle.std.proofs.Common.{◌≡◌, ℕ, Bool, true, false, cond, ◌&&◌, ◌||◌, List, [], ◌∷◌, ◌++◌, map, filter, nat_eq}
use Rattle.std.proofs.Common.{Option, Some, None, ◌⊎◌, inl, inr, ⊎_elim, unwrap_or, refl, ap, subst, sym, ◌∙◌}
use Rattle.std.specs.Cmp.Lexicographic.{slice_cmp}
use Rattle.std.specs.FinMap.{empty, empty_of_len, get, get-empty, len, len-empty}
use Rattle.std.specs.List.{IsDistinct, cons_option, filter_map, list_any}
use Rattle.std.specs.Ordering.{nat_cmp}
use Rattle.std.specs.Str.{bytes_eq}
use Rattle.std.proofs.lemmas.Bool.{cond_both, eqb-true, false≢true}
use Rattle.std.proofs.lemmas.Option.{same_Some}
use Rattle.std.proofs.lemmas.List.Elements.{filter_map-append}
use Rattle.std.proofs.lemmas.List.Folds.{list_any-append}
use Rattle.mx_json.specs.declared.value.Json.{Json}
use Rattle.mx_event.specs.Event.{room_id_of}
use Rattle.mx_room.specs.Rooms.{events_in}
use Rattle.mx_room.specs.State.{member_in, named_by}
use Rattle.mx_room.specs.Texts.{Texts}
use Rattle.mx_room.proofs.StateLemmas.{member_in-covered}
use Rattle.mx_room.proofs.TextsLemmas.{IsCovered, bytes_eq-flip, get-table, same_texts}
use Rattle.mx_rows.specs.declared.row.Row.{Row}
use Rattle.mx_rows.specs.declared.thread_key.ThreadKey.{ThreadKey}
use Rattle.mx_rows.specs.Rows.{are_in_order, has_rows}
use Rattle.mx_rows.specs.Threads.{has_thread, same_thread}
use Rattle.mx_records.specs.declared.entry.Outcome.{Outcome}
use Rattle.mx_records.specs.declared.input.Input.{Input}
use Rattle.mx_records.specs.declared.input.Input.TheVariants.{Event, Edit, Receipt, Pusher}
use Rattle.mx_records.specs.Counting.{each_once, is_in, is_unread, rows_of, thread_in, threads_of, unread}
use Rattle.mx_records.specs.History.{Happening, History, additions_after, events, with_input, with_outcome}
use Rattle.mx_records.specs.Judging.{notifies}
use Rattle.mx_records.specs.KeptRows.{HaveRooms, HaveRows, thread_rows}
use Rattle.mx_records.specs.Rooms.{events_of}
use Rattle.mx_records.specs.Snapshot.{RoomRows, by_room, by_user, room_rows, rows_at, rows_by_thread, some_rooms}
use Rattle.mx_records.specs.Snapshot.{some_rows, unread_rows}
use Rattle.mx_records.proofs.HistoryLemmas.{IsNoEvent, by_end, edit-no_event, events-other, events-outcome, events-push}
use Rattle.mx_records.proofs.HistoryLemmas.{events_of-other, events_of-outcome, events_of-push, next_event}
use Rattle.mx_records.proofs.HistoryLemmas.{receipt-no_event, pusher-no_event}
use Rattle.mx_records.proofs.NoticeLemmas.{notice-unnamed}
use Rattle.mx_records.proofs.ThreadLemmas.{has-threads_of, threads_of-only}
use Rattle.mx_records.proofs.UnreadLemmas.{same_thread-same}

-- ---- lists

any-map : {A B : Type 0} (p : B → Bool) (f : A → B) (xs : List A) → list_any p (map f xs) ≡ list_any (λ x. p (f x)) xs
any-map p f [] = refl
any-map p f (x ∷ xs) = ap (λ b. p (f x) || b) (any-map p f xs)

or_true : (b : Bool) → (b || true) ≡ true
or_true true = refl
or_true false = refl

or_parts : (a b : Bool) → (a || b) ≡ false → (a ≡ false) × (b ≡ false)
or_parts true b none = absurd (false≢true (sym none))
or_parts false b none = (refl, none)

-- where none of these passes, nothing is left of what passes and more
filter-none : {A : Type 0} (p q : A → Bool) (xs : List A) → ((x : A) → q x ≡ false → p x ≡ false)
    → list_any q xs ≡ false → filter p xs ≡ []
filter-none p q [] more none = refl
filter-none p q (x ∷ xs) more none =
    let parts = or_parts (q x) (list_any q xs) none in
    ap (λ b. cond b (x ∷ filter p xs) (filter p xs)) (more x parts.0) ∙ filter-none p q xs more parts.1

and_second : (a b : Bool) → b ≡ false → (a && b) ≡ false
and_second true b none = none
and_second false b none = refl

and_first : (a b : Bool) → a ≡ false → (a && b) ≡ false
and_first a b none = ap (λ c. c && b) none

-- ---- whom an event notifies was named

-- an event names the user
abbrev names : List ℕ → List Json → Bool
names user events = list_any (bytes_eq user) (filter_map named_by events)

named-cons : (user : List ℕ) (event : Json) (events : List Json)
    → names user (event ∷ events) ≡ (list_any (bytes_eq user) (cons_option (named_by event) []) || names user events)
named-cons user event events = by (named_by event)
  where
    by : (o : Option (List ℕ))
        → list_any (bytes_eq user) (cons_option o (filter_map named_by events))
        ≡ (list_any (bytes_eq user) (cons_option o []) || names user events)
    by None = refl
    by (Some name) = by_name (bytes_eq user name)
      where
        by_name : (b : Bool) → (b || names user events) ≡ ((b || false) || names user events)
        by_name true = refl
        by_name false = refl

names-append : (user : List ℕ) (events others : List Json)
    → names user (events ++ others) ≡ (names user events || names user others)
names-append user events others =
    ap (list_any (bytes_eq user)) (filter_map-append named_by events others)
    ∙ list_any-append (bytes_eq user) (filter_map named_by events) (filter_map named_by others)

-- who isn't named by these events isn't named by some of them
unnamed-filter : (user : List ℕ) (p : Json → Bool) (events : List Json) → names user events ≡ false
    → names user (filter p events) ≡ false
unnamed-filter user p [] none = refl
unnamed-filter user p (event ∷ events) none =
    let parts = or_parts (list_any (bytes_eq user) (cons_option (named_by event) [])) (names user events)
    (sym (named-cons user event events) ∙ none) in
    let rest = unnamed-filter user p events parts.1 in
    cond_both (p event) (event ∷ filter p events) (filter p events) (λ l. names user l ≡ false)
    (λ _. named-cons user event (filter p events)
    ∙ (λ i. parts.0 i || rest i)) (λ _. rest)

nothing_said : (events : List Json) (user : List ℕ) → names user events ≡ false → member_in events user ≡ None
nothing_said events user none =
    ⊎_elim (λ nothing. nothing) (λ named. absurd (false≢true (sym none ∙ named))) (member_in-covered events user)

module _ (server user : List ℕ) where
  -- who is named by no event is notified by none
  abbrev IsUnnoticed : History → Type 0
  IsUnnoticed h = names user (events_of h) ≡ false → list_any (notifies server user) (events h) ≡ false

  unnoticed-event : (h : History) (event : Json) → IsUnnoticed h → IsUnnoticed (with_input h (Event event))
  unnoticed-event h event before unnamed =
      let parts = or_parts (names user (events_of h)) (names user (event ∷ []))
      (sym (names-append user (events_of h) (event ∷ [])) ∙ ap (names user) (sym (events_of-push h event)) ∙ unnamed) in
      let here = events_in (room_id_of event) (events_of h) in
      let unsaid : member_in (here ++ event ∷ []) user ≡ None =
      nothing_said (here ++ event ∷ []) user
      (names-append user here (event ∷ [])
      ∙ (λ i. unnamed-filter user (λ e. bytes_eq (room_id_of e) (room_id_of event)) (events_of h) parts.0 i
      || parts.1 i)) in
      ap (list_any (notifies server user)) (events-push h event)
      ∙ list_any-append (notifies server user) (events h) (next_event h event ∷ [])
      ∙ (λ i. before parts.0 i || (notice-unnamed server user (next_event h event) unsaid i || false))

  unnoticed-other : (h : History) (input : Input) → IsNoEvent input → IsUnnoticed h → IsUnnoticed (with_input h input)
  unnoticed-other h input none before unnamed =
      ap (list_any (notifies server user)) (events-other h input none)
      ∙ before (ap (names user) (sym (events_of-other h input none)) ∙ unnamed)

  unnoticed-more : (h : History) (input : Input) → IsUnnoticed h → IsUnnoticed (with_input h input)
  unnoticed-more h (Event event) before = unnoticed-event h event before
  unnoticed-more h (Edit editor edit) before =
      unnoticed-other h (Edit editor edit) (edit-no_event editor edit) before
  unnoticed-more h (Receipt reader room id private named) before =
      unnoticed-other h (Receipt reader room id private named) (receipt-no_event reader room id private named) before
  unnoticed-more h (Pusher spec) before = unnoticed-other h (Pusher spec) (pusher-no_event spec) before

  unnoticed-outcome : (h : History) (outcome : Outcome) → IsUnnoticed h → IsUnnoticed (with_outcome h outcome)
  unnoticed-outcome h outcome before unnamed =
      ap (list_any (notifies server user)) (events-outcome h outcome)
      ∙ before (ap (names user) (sym (events_of-outcome h outcome)) ∙ unnamed)

  unnoticed-none : IsUnnoticed []
  unfolding events additions_after
  unnoticed-none unnamed = refl

  unnoticed : (h : History) → IsUnnoticed h
  unnoticed h = by_end IsUnnoticed unnoticed-none unnoticed-more unnoticed-outcome h

-- ---- what is kept of a user in a room

room_rows-none : (server : List ℕ) (h : History) (user room : List ℕ) → unread server h user room ≡ []
    → some_rows (room_rows server h user room) ≡ None
unfolding threads_of
room_rows-none server h user room none =
    ap (λ (xs : List Happening). some_rows (rows_by_thread (rows_of server h user room) (each_once (map thread_in xs))))
    none

-- the rooms in which there are rows are among these
abbrev pub AreRoomsOf : (List ℕ → RoomRows) → List (List ℕ) → Type 0
AreRoomsOf rows rooms = IsCovered (λ room. some_rows (rows room)) rooms

-- in a room without events nothing is unread
room-covered : (server : List ℕ) (h : History) (user : List ℕ)
    → AreRoomsOf (room_rows server h user) (map room_id_of (events_of h))
room-covered server h user room = by (list_any (λ (x : Happening). is_in room x.event) (events h)) refl
  where
    same : list_any (bytes_eq room) (map room_id_of (events_of h))
        ≡ list_any (λ (x : Happening). is_in room x.event) (events h)
    same =
        any-map (bytes_eq room) room_id_of (events_of h)
        ∙ any-map (λ event. bytes_eq room (room_id_of event)) (λ (x : Happening). x.event) (events h)
        ∙ (λ i. list_any (λ (x : Happening). bytes_eq-flip room (room_id_of x.event) i) (events h))

    by : (b : Bool) → list_any (λ (x : Happening). is_in room x.event) (events h) ≡ b
        → (some_rows (room_rows server h user room) ≡ None)
        ⊎ (list_any (bytes_eq room) (map room_id_of (events_of h)) ≡ true)
    by true is = inr (same ∙ is)
    by false is = inl (room_rows-none server h user room
        (filter-none (is_unread server h user room) (λ (x : Happening). is_in room x.event) (events h)
        (λ x out. and_second _ _ (and_first (is_in room x.event) (notifies server user x) out)) is))

-- of whom nothing is unread nothing is kept
some_rooms-none : (rooms : Texts RoomRows) → ((room : List ℕ) → get rooms room ≡ None) → some_rooms rooms ≡ None
some_rooms-none rooms none =
    ap some_rooms (same_texts rooms empty (λ room. none room ∙ sym (get-empty (slice_cmp nat_cmp) room)))
    ∙ ap (λ n. cond (nat_eq n 0) None (Some empty)) (len-empty (slice_cmp nat_cmp) RoomRows)

-- ---- rows by user and room

unwrap-some_rooms : (rooms : Texts RoomRows) → unwrap_or (some_rooms rooms) empty ≡ rooms
unwrap-some_rooms rooms = by (nat_eq (len rooms) 0) refl
  where
    by : (b : Bool) → nat_eq (len rooms) 0 ≡ b → unwrap_or (cond b None (Some rooms)) empty ≡ rooms
    by true is = sym (empty_of_len rooms (eqb-true (len rooms) 0 is))
    by false is = refl

unwrap-some_rows : (rows : RoomRows) → unwrap_or (some_rows rows) [] ≡ rows
unwrap-some_rows [] = refl
unwrap-some_rows (first ∷ others) = refl

-- the users who have rows in a room are among these
abbrev pub AreUsersOf : (List ℕ → List ℕ → RoomRows) → List (List ℕ) → Type 0
AreUsersOf rows users =
    (user : List ℕ) → ((room : List ℕ) → some_rows (rows user room) ≡ None) ⊎ (list_any (bytes_eq user) users ≡ true)

some_rows-itself : (found : RoomRows) (rows : RoomRows) → some_rows found ≡ Some rows → some_rows rows ≡ Some rows
some_rows-itself [] rows is = absurd cc
some_rows-itself (first ∷ others) rows is = subst (λ (l : RoomRows). some_rows l ≡ Some l) (same_Some _ _ is) refl

some_rooms-is : (found rooms : Texts RoomRows) → some_rooms found ≡ Some rooms → found ≡ rooms
some_rooms-is found rooms is = by (nat_eq (len found) 0) is
  where
    by : (b : Bool) → cond b None (Some found) ≡ Some rooms → found ≡ rooms
    by true is = absurd cc
    by false is = same_Some _ _ is

module _ (rows : List ℕ → List ℕ → RoomRows) (rooms : List ℕ → List (List ℕ)) (users : List (List ℕ))
    (are_rooms : (user : List ℕ) → AreRoomsOf (rows user) (rooms user)) (are_users : AreUsersOf rows users) where
  get-by_room : (user room : List ℕ) → get (by_room (rows user) (rooms user)) room ≡ some_rows (rows user room)
  get-by_room user room = get-table (λ room. some_rows (rows user room)) (rooms user) (are_rooms user) room

  users-covered : IsCovered (λ user. some_rooms (by_room (rows user) (rooms user))) users
  users-covered user =
      ⊎_elim
      (λ none. inl (some_rooms-none (by_room (rows user) (rooms user)) (λ room. get-by_room user room ∙ none room)))
      (λ among. inr among) (are_users user)

  get-by_user : (user : List ℕ)
      → get (by_user rows rooms users) user ≡ some_rooms (by_room (rows user) (rooms user))
  get-by_user user =
      get-table (λ user. some_rooms (by_room (rows user) (rooms user))) users users-covered user

  -- they are there, each where it is
  pub rows_at-by_user : (user room : List ℕ) → rows_at (by_user rows rooms users) user room ≡ rows user room
  rows_at-by_user user room =
      ap (λ (found : Option (Texts RoomRows)). unwrap_or (get (unwrap_or found empty) room) []) (get-by_user user)
      ∙ ap (λ (found : Texts RoomRows). unwrap_or (get found room) [])
      (unwrap-some_rooms (by_room (rows user) (rooms user)))
      ∙ ap (λ (found : Option RoomRows). unwrap_or found []) (get-by_room user room)
      ∙ unwrap-some_rows (rows user room)

  -- and nothing that is empty
  pub have-by_user : HaveRooms (by_user rows rooms users)
  have-by_user = record {
    some = λ user found is.
        let here = sym (get-by_user user) ∙ is in
        ap some_rooms (sym (some_rooms-is (by_room (rows user) (rooms user)) found here)) ∙ here;
    rows = λ user found is room listed has.
        let here = some_rooms-is (by_room (rows user) (rooms user)) found (sym (get-by_user user) ∙ is) in
        some_rows-itself (rows user room) listed
        (sym (get-by_room user room) ∙ ap (λ (r : Texts RoomRows). get r room) here ∙ has);
  }

kept_rows : (o : Option RoomRows) → ((rows : RoomRows) → o ≡ Some rows → some_rows rows ≡ Some rows)
    → o ≡ some_rows (unwrap_or o [])
kept_rows None some = refl
kept_rows (Some rows) some = sym (some rows refl)

kept_rooms : (o : Option (Texts RoomRows))
    → ((rooms : Texts RoomRows) → o ≡ Some rooms → some_rooms rooms ≡ Some rooms)
    → o ≡ some_rooms (unwrap_or o empty)
kept_rooms None some = sym (some_rooms-none empty (λ room. get-empty (slice_cmp nat_cmp) room))
kept_rooms (Some rooms) some = sym (some rooms refl)

have_rows : (o : Option (Texts RoomRows)) → ((rooms : Texts RoomRows) → o ≡ Some rooms → HaveRows rooms)
    → HaveRows (unwrap_or o empty)
have_rows None rows room at is =
    absurd (let none : None ≡ Some at = sym (get-empty (slice_cmp nat_cmp) room) ∙ is in cc)
have_rows (Some rooms) rows room at is = rows rooms refl room at is

-- maps that keep the same of each user in each room, and nothing that is empty, are equal
pub same_rows : (m n : Texts (Texts RoomRows)) → HaveRooms m → HaveRooms n
    → ((user room : List ℕ) → rows_at m user room ≡ rows_at n user room) → m ≡ n
same_rows m n of_m of_n alike =
    same_texts m n (λ user.
    kept_rooms (get m user) (of_m.some user)
    ∙ ap some_rooms (rooms user)
    ∙ sym (kept_rooms (get n user) (of_n.some user)))
  where
    rooms : (user : List ℕ) → unwrap_or (get m user) empty ≡ unwrap_or (get n user) empty
    rooms user = same_texts (unwrap_or (get m user) empty) (unwrap_or (get n user) empty) (λ room.
        kept_rows (get (unwrap_or (get m user) empty) room) (have_rows (get m user) (of_m.rows user) room)
        ∙ ap some_rows (alike user room)
        ∙ sym (kept_rows (get (unwrap_or (get n user) empty) room) (have_rows (get n user) (of_n.rows user) room)))

-- ---- what is kept of all users

user-covered : (server : List ℕ) (h : History)
    → AreUsersOf (room_rows server h) (filter_map named_by (events_of h))
user-covered server h user = by (names user (events_of h)) refl
  where
    by : (b : Bool) → names user (events_of h) ≡ b
        → ((room : List ℕ) → some_rows (room_rows server h user room) ≡ None) ⊎ (names user (events_of h) ≡ true)
    by true is = inr is
    by false is = inl (λ room.
        room_rows-none server h user room
        (filter-none (is_unread server h user room) (notifies server user) (events h)
        (λ x out. and_second _ _ (and_second (is_in room x.event) (notifies server user x) out))
        (unnoticed server user h is)))

-- what is kept of a user in a room are the rows of the user there
pub rows_at-unread : (server : List ℕ) (h : History) (user room : List ℕ)
    → rows_at (unread_rows server h) user room ≡ room_rows server h user room
unfolding unread_rows
rows_at-unread server h user room =
    rows_at-by_user (room_rows server h) (λ user. map room_id_of (events_of h)) (filter_map named_by (events_of h))
    (room-covered server h) (user-covered server h) user room

-- and nothing that is empty
pub unread_rows-kept : (server : List ℕ) (h : History) → HaveRooms (unread_rows server h)
unfolding unread_rows
unread_rows-kept server h =
    have-by_user (room_rows server h) (λ user. map room_id_of (events_of h)) (filter_map named_by (events_of h))
    (room-covered server h) (user-covered server h)

-- a map that keeps nothing empty, and of each user in each room the rows there, is what is kept
pub unread_rows-only : (server : List ℕ) (h : History) (unread : Texts (Texts RoomRows)) → HaveRooms unread
    → ((user room : List ℕ) → rows_at unread user room ≡ room_rows server h user room)
    → unread ≡ unread_rows server h
unread_rows-only server h unread kept alike =
    same_rows unread (unread_rows server h) kept (unread_rows-kept server h)
    (λ user room. alike user room ∙ sym (rows_at-unread server h user room))

-- ---- the rows of a room, by thread

thread_rows-listed : (list : ThreadKey → List Row) (threads : List ThreadKey) (t : ThreadKey)
    → thread_rows t (rows_by_thread list threads) ≡ cond (has_thread t threads) (list t) []
thread_rows-listed list [] t = refl
thread_rows-listed list (u ∷ threads) t =
    by (thread_rows-listed list threads t) (same_thread t u) refl
  where
    by : thread_rows t (rows_by_thread list threads) ≡ cond (has_thread t threads) (list t) []
        → (b : Bool) → same_thread t u ≡ b
        → cond b (list u) (thread_rows t (rows_by_thread list threads)) ≡ cond (b || has_thread t threads) (list t) []
    by rest true is = ap list (sym (same_thread-same t u is))
    by rest false is = rest

no_rows : (rows : List Row) → has_rows rows ≡ false → rows ≡ []
no_rows [] none = refl
no_rows (row ∷ rows) none = absurd (false≢true (sym none))

-- each list is that of its thread
pub thread_rows-of : (list : ThreadKey → List Row) (threads : List ThreadKey)
    → ((t : ThreadKey) → has_thread t threads ≡ has_rows (list t)) → (t : ThreadKey)
    → thread_rows t (rows_by_thread list threads) ≡ list t
thread_rows-of list threads has t =
    thread_rows-listed list threads t ∙ ap (λ b. cond b (list t) []) (has t) ∙ by (has_rows (list t)) refl
  where
    by : (b : Bool) → has_rows (list t) ≡ b → cond b (list t) [] ≡ list t
    by true is = refl
    by false is = sym (no_rows (list t) is)

-- the rows of a room tell those of each thread
pub thread_rows-room : (server : List ℕ) (h : History) (user room : List ℕ) (t : ThreadKey)
    → thread_rows t (room_rows server h user room) ≡ rows_of server h user room t
thread_rows-room server h user room t =
    thread_rows-of (rows_of server h user room) (threads_of server h user room) (has-threads_of server h user room) t

-- lists that are kept as those of a room are the lists of its threads
pub room_rows-lists : (server : List ℕ) (h : History) (user room : List ℕ)
    → (list : ThreadKey → List Row) (threads : List ThreadKey)
    → ((t : ThreadKey) → has_thread t threads ≡ has_rows (list t))
    → rows_by_thread list threads ≡ room_rows server h user room
    → (t : ThreadKey) → list t ≡ rows_of server h user room t
room_rows-lists server h user room list threads has kept t =
    sym (thread_rows-of list threads has t) ∙ ap (thread_rows t) kept ∙ thread_rows-room server h user room t

-- the lists of the threads of a room, in the order of their first rows, are its rows
pub room_rows-only : (server : List ℕ) (h : History) (user room : List ℕ)
    → (list : ThreadKey → List Row) (threads : List ThreadKey) → IsDistinct same_thread threads
    → ((t : ThreadKey) → has_thread t threads ≡ has_rows (list t)) → are_in_order list threads ≡ true
    → ((t : ThreadKey) → list t ≡ rows_of server h user room t)
    → rows_by_thread list threads ≡ room_rows server h user room
room_rows-only server h user room list threads once has order alike =
    let lists : list ≡ rows_of server h user room = λ i t. alike t i in
    let same = threads_of-only server h user room threads once (λ t. has t ∙ ap has_rows (alike t))
    (ap (λ (l : ThreadKey → List Row). are_in_order l threads) (sym lists) ∙ order) in
    λ i. rows_by_thread (lists i) (same i)
