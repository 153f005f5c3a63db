-- What is known of a history, as a state keeps it: lists of rows by thread; and what questions are answered by them.
use Rattle.std.proofs.Common.{◌≡◌, ℕ, ◌+◌, ◌≤◌, zero-le, nat_lt, nat_le, Bool, true, false, ◌&&◌, List, [], ◌∷◌, map}
use Rattle.std.proofs.Common.{filter, length, refl, ap, sym, ◌∙◌, arith}
use Rattle.std.specs.List.{IsDistinct, list_all, sum_by}
use Rattle.std.proofs.Common.{length-append}
use Rattle.std.proofs.lemmas.Bool.{and_parts, false≢true, leb-true, ltb-true}
use Rattle.std.proofs.lemmas.List.{length-map}
use Rattle.std.proofs.lemmas.List.Sums.{count_by-le-length, length-filter, sum_by-cons}
use Rattle.std.proofs.lemmas.Map.Views.{any-filter_same}
use Rattle.mx_rows.specs.declared.counts.Counts.{Counts}
use Rattle.mx_rows.specs.declared.row.Row.{Row}
use Rattle.mx_rows.specs.declared.thread_key.ThreadKey.{ThreadKey}
use Rattle.mx_rows.specs.Rows.{are_in_order, counts_in, has_rows, is_rising, with_rows}
use Rattle.mx_rows.specs.Threads.{has_thread, same_thread}
use Rattle.mx_records.specs.declared.entry.Outcome.{Outcome}
use Rattle.mx_records.specs.declared.input.Input.{Input}
use Rattle.mx_records.specs.declared.input.Input.TheVariants.{Event, Edit, Receipt, Pusher}
use Rattle.mx_records.specs.Counting.{counts_of, is_unread, room_counts_of, row_of, rows_of, threads_of, thread_in}
use Rattle.mx_records.specs.Counting.{unread, unread_in}
use Rattle.mx_records.specs.History.{Happening, History, additions_after, events, inputs_of, with_input, with_outcome}
use Rattle.mx_records.specs.KeptRows.{thread_rows}
use Rattle.mx_records.specs.Snapshot.{RoomRows, Snapshot, ThreadRows, room_rows, rows_at, rows_by_thread, snapshot_of}
use Rattle.mx_records.proofs.HistoryLemmas.{by_end, edit-no_event, events-other, events-outcome, events-push}
use Rattle.mx_records.proofs.HistoryLemmas.{inputs_of-outcome, inputs_of-push, next_event, receipt-no_event}
use Rattle.mx_records.proofs.HistoryLemmas.{pusher-no_event}
use Rattle.mx_records.proofs.KeptLemmas.{room_rows-lists, room_rows-only, rows_at-unread, thread_rows-room}
use Rattle.mx_records.proofs.ThreadLemmas.{distinct-filter, room_counts_of-threads}
use Rattle.mx_records.proofs.UnreadLemmas.{same_thread-same}

-- ---- lists of rows, as `Rows` has them

-- each thread that has rows is among these, and those stand in the order of their first rows
pub record AreLists (list : ThreadKey → List Row) (threads : List ThreadKey) : Type 0 where
  pub kept : (t : ThreadKey) → has_rows (list t) ≡ true → has_thread t threads ≡ true
  pub once : IsDistinct same_thread threads
  pub order : are_in_order list (with_rows list threads) ≡ true

-- no rows at all
pub no_lists : AreLists (λ t. []) []
unfolding IsDistinct
no_lists = record { kept = λ t has. absurd (false≢true has); once = tt; order = refl }

pub has-with_rows : (list : ThreadKey → List Row) (threads : List ThreadKey) → AreLists list threads → (t : ThreadKey)
    → has_thread t (with_rows list threads) ≡ has_rows (list t)
has-with_rows list threads are t =
    any-filter_same (same_thread t) (λ (u : ThreadKey). has_rows (list u)) (has_rows (list t))
    (λ u same. ap (λ (v : ThreadKey). has_rows (list v)) (sym (same_thread-same t u same))) threads
    ∙ by (has_rows (list t)) refl
  where
    by : (b : Bool) → has_rows (list t) ≡ b → (b && has_thread t threads) ≡ b
    by true is = are.kept t is
    by false is = refl

module _ (server : List ℕ) (h : History) (user room : List ℕ) where
  -- lists that are the rows of the threads are the rows of the room
  pub shown-from_lists : (list : ThreadKey → List Row) (threads : List ThreadKey) → AreLists list threads
      → ((t : ThreadKey) → list t ≡ rows_of server h user room t)
      → rows_by_thread list (with_rows list threads) ≡ room_rows server h user room
  shown-from_lists list threads are alike =
      room_rows-only server h user room list (with_rows list threads)
      (distinct-filter (λ (t : ThreadKey). has_rows (list t)) threads are.once) (has-with_rows list threads are)
      are.order alike

  -- lists that are the rows of the room are the rows of the threads
  pub lists-from_shown : (list : ThreadKey → List Row) (threads : List ThreadKey) → AreLists list threads
      → rows_by_thread list (with_rows list threads) ≡ room_rows server h user room
      → (t : ThreadKey) → list t ≡ rows_of server h user room t
  lists-from_shown list threads are shown =
      room_rows-lists server h user room list (with_rows list threads) (has-with_rows list threads are) shown

  -- where nothing is kept there are no rows
  pub rows_of-unkept : room_rows server h user room ≡ [] → (t : ThreadKey) → rows_of server h user room t ≡ []
  rows_of-unkept none t = sym (lists-from_shown (λ t. []) [] no_lists (sym none) t)

  -- where there are no rows nothing is kept
  pub room_rows-empty : ((t : ThreadKey) → rows_of server h user room t ≡ []) → room_rows server h user room ≡ []
  room_rows-empty none = sym (shown-from_lists (λ t. []) [] no_lists (λ t. sym (none t)))

-- ---- answers

pub map-threads : (list : ThreadKey → List Row) (threads : List ThreadKey)
    → map (λ (rows : ThreadRows). rows.thread) (rows_by_thread list threads) ≡ threads
map-threads list [] = refl
map-threads list (t ∷ threads) = ap (λ ts. t ∷ ts) (map-threads list threads)

sum-rows : (f : List Row → ℕ) (list : ThreadKey → List Row) (threads : List ThreadKey)
    → sum_by (λ (rows : ThreadRows). f rows.rows) (rows_by_thread list threads) ≡ sum_by (λ t. f (list t)) threads
sum-rows f list [] = refl
sum-rows f list (t ∷ threads) =
    let rest = sum-rows f list threads in
    let rows = sum_by-cons (λ (rows : ThreadRows). f rows.rows) (record { thread = t; rows = list t })
    (rows_by_thread list threads) in
    let lists = sum_by-cons (λ t. f (list t)) t threads in
    omega arith

-- the counts of all threads of a room together
abbrev pub counts_together : RoomRows → Counts
counts_together rooms = record {
  notify = sum_by (λ (rows : ThreadRows). (counts_in rows.rows).notify) rooms;
  highlight = sum_by (λ (rows : ThreadRows). (counts_in rows.rows).highlight) rooms;
}

module _ (server : List ℕ) (h : History) (shown : Snapshot) (is : shown ≡ snapshot_of server h)
    (user room : List ℕ) where
  -- the rows of a user in a room
  pub shown-rows : rows_at shown.unread user room ≡ room_rows server h user room
  unfolding snapshot_of
  shown-rows = ap (λ (s : Snapshot). rows_at s.unread user room) is ∙ rows_at-unread server h user room

  -- those of a thread
  pub shown-thread_rows : (t : ThreadKey)
      → thread_rows t (rows_at shown.unread user room) ≡ rows_of server h user room t
  shown-thread_rows t = ap (thread_rows t) shown-rows ∙ thread_rows-room server h user room t

  -- how many are unread in a thread
  pub shown-counts : (t : ThreadKey)
      → counts_in (thread_rows t (rows_at shown.unread user room)) ≡ counts_of server h user room t
  unfolding counts_of
  shown-counts t = ap counts_in (shown-thread_rows t)

  -- the threads that have any
  pub shown-threads : map (λ (rows : ThreadRows). rows.thread) (rows_at shown.unread user room)
      ≡ threads_of server h user room
  shown-threads =
      ap (map (λ (rows : ThreadRows). rows.thread)) shown-rows
      ∙ map-threads (rows_of server h user room) (threads_of server h user room)

  -- how many are unread in the room
  pub shown-room_counts : counts_together (rows_at shown.unread user room) ≡ room_counts_of server h user room
  unfolding counts_of
  shown-room_counts =
      ap counts_together shown-rows
      ∙ (λ i. record {
        notify = sum-rows (λ rows. (counts_in rows).notify) (rows_of server h user room)
            (threads_of server h user room) i;
        highlight = sum-rows (λ rows. (counts_in rows).highlight) (rows_of server h user room)
            (threads_of server h user room) i;
      })
      ∙ sym (room_counts_of-threads server h user room)

-- ---- no more than there are inputs

-- rows that rise, from above one position up to another
pub length-rising : (low high : ℕ) (rows : List Row) → low ≤ high → is_rising rows ≡ true
    → list_all (λ (row : Row). nat_lt low row.position) rows ≡ true
    → list_all (λ (row : Row). nat_le row.position high) rows ≡ true → low + length rows ≤ high
length-rising low high [] between rising above below = omega arith
length-rising low high (row ∷ rows) between rising above below =
    let over = ltb-true low row.position
    (and_parts (nat_lt low row.position) (list_all (λ (row : Row). nat_lt low row.position) rows) above).0 in
    let under = and_parts (nat_le row.position high) (list_all (λ (row : Row). nat_le row.position high) rows) below in
    let first = leb-true row.position high under.0 in
    let later = and_parts (list_all (λ (after : Row). nat_lt row.position after.position) rows) (is_rising rows)
    rising in
    let rest = length-rising row.position high rows first later.1 later.0 under.1 in
    omega arith

abbrev AreFewer : History → Type 0
AreFewer h = length (events h) ≤ inputs_of h

fewer-more : (h : History) (input : Input) → AreFewer h → AreFewer (with_input h input)
fewer-more h (Event event) few =
    let longer = inputs_of-push h (Event event) in
    let more = ap length (events-push h event) ∙ length-append (events h) (next_event h event ∷ []) in
    omega arith
fewer-more h (Edit editor edit) few =
    let longer = inputs_of-push h (Edit editor edit) in
    let same = ap length (events-other h (Edit editor edit) (edit-no_event editor edit)) in
    omega arith
fewer-more h (Receipt user room id private named) few =
    let longer = inputs_of-push h (Receipt user room id private named) in
    let same = ap length (events-other h (Receipt user room id private named)
    (receipt-no_event user room id private named)) in
    omega arith
fewer-more h (Pusher spec) few =
    let longer = inputs_of-push h (Pusher spec) in
    let same = ap length (events-other h (Pusher spec) (pusher-no_event spec)) in
    omega arith

fewer-outcome : (h : History) (outcome : Outcome) → AreFewer h → AreFewer (with_outcome h outcome)
fewer-outcome h outcome few =
    let long = inputs_of-outcome h outcome in
    let same = ap length (events-outcome h outcome) in
    omega arith

fewer-none : AreFewer []
unfolding events additions_after
fewer-none = zero-le

-- a history has no more events than inputs
pub events-le : (h : History) → length (events h) ≤ inputs_of h
events-le h = by_end AreFewer fewer-none fewer-more fewer-outcome h

filter-le : {X : Type 0} (p : X → Bool) (xs : List X) → length (filter p xs) ≤ length xs
filter-le p xs =
    let same = length-filter p xs in
    let less = count_by-le-length p xs in
    omega arith

bounded : (rows : List Row) (n : ℕ) → length rows ≤ n
    → ((counts_in rows).notify ≤ n) × ((counts_in rows).highlight ≤ n)
bounded rows n few = let loud = count_by-le-length (λ (row : Row). row.highlight) rows in (few, omega arith)

-- no count is greater than the number of inputs
pub room_counts_of-le : (server : List ℕ) (h : History) (user room : List ℕ)
    → ((room_counts_of server h user room).notify ≤ inputs_of h)
    × ((room_counts_of server h user room).highlight ≤ inputs_of h)
unfolding room_counts_of
room_counts_of-le server h user room =
    let whole = length-map (unread server h user room) (row_of server user) in
    let some = filter-le (is_unread server h user room) (events h) in
    let all = events-le h in
    bounded (map (row_of server user) (unread server h user room)) (inputs_of h) (omega arith)

pub counts_of-le : (server : List ℕ) (h : History) (user room : List ℕ) (t : ThreadKey)
    → ((counts_of server h user room t).notify ≤ inputs_of h)
    × ((counts_of server h user room t).highlight ≤ inputs_of h)
unfolding counts_of rows_of
counts_of-le server h user room t =
    let whole = length-map (unread_in server h user room t) (row_of server user) in
    let here = filter-le (λ (x : Happening). same_thread t (thread_in x)) (unread server h user room) in
    let some = filter-le (is_unread server h user room) (events h) in
    let all = events-le h in
    bounded (map (row_of server user) (unread_in server h user room t)) (inputs_of h) (omega arith)
