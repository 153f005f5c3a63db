-- The counts of a room's threads add up to those of the room, and no history has more than inputs.
use Rattle.std.proofs.Common.{◌≡◌, ℕ, ◌+◌, ◌*◌, ◌≤◌, ◌⊎◌, inl, inr, min, not, Bool, List, [], ◌∷◌, length, map, filter}
use Rattle.std.proofs.Common.{suc, take, Option, None, Some, zero-le, refl, ap, sym, ◌∙◌, arith}
use Rattle.std.specs.Prelude.{slice_get}
use Rattle.std.specs.List.{count_by, sum_by}
use Rattle.std.proofs.lemmas.List.{length-map, take_all}
use Rattle.std.proofs.lemmas.List.Sums.{count_by-le-length, length-filter, sum_by_more}
use Rattle.std.proofs.lemmas.Option.{get_or_from_slice_get, slice_get_cases, slice_get_within}
use Rattle.mx_rows.specs.declared.counts.Counts.{Counts}
use Rattle.mx_rows.specs.declared.row.Row.{Row}
use Rattle.mx_rows.specs.declared.thread_key.ThreadKey.{ThreadKey}
use Rattle.mx_rows.specs.Rows.{counts_in}
use Rattle.mx_rows.specs.Threads.{same_thread}
use Rattle.mx_records.specs.Counting.{counts_of, each_once, is_unread, room_counts_of, row_of, rows_of, thread_in}
use Rattle.mx_records.specs.Counting.{threads_of, unread}
use Rattle.mx_records.specs.History.{Happening, History, events, inputs_of}
use Rattle.mx_records.specs.Refusing.{most_inputs}
use Rattle.mx_records.proofs.ShownLemmas.{events-le}
use Rattle.mx_records.proofs.ThreadLemmas.{room_counts_of-threads}
use Rattle.mx_engine.specs.Totals.{totals}

-- ---- how long lists are

length-filter-le : {A : Type 0} (p : A → Bool) (xs : List A) → length (filter p xs) ≤ length xs
length-filter-le p xs =
    let counted = count_by-le-length p xs in
    let long = length-filter p xs in
    omega (arith, counted, long)

unread-few : (server : List ℕ) (h : History) (user room : List ℕ) → length (unread server h user room) ≤ inputs_of h
unread-few server h user room =
    let some = length-filter-le (is_unread server h user room) (events h) in
    let few = events-le h in
    omega (arith, some, few)

once-few : (threads : List ThreadKey) → length (each_once threads) ≤ length threads
once-few [] = zero-le
once-few (t ∷ threads) =
    let rest = once-few threads in
    let some = length-filter-le (λ other. not (same_thread t other)) (each_once threads) in
    omega (arith, rest, some)

-- a history has no more threads with rows in a room than inputs
threads-few : (server : List ℕ) (h : History) (user room : List ℕ)
    → length (threads_of server h user room) ≤ inputs_of h
unfolding threads_of
threads-few server h user room =
    let once = once-few (map thread_in (unread server h user room)) in
    let long = length-map (unread server h user room) thread_in in
    let few = unread-few server h user room in
    omega (arith, once, long, few)

-- ---- the counts of a room

-- the counts of a room are within the inputs
room-few : (server : List ℕ) (h : History) (user room : List ℕ)
    → ((room_counts_of server h user room).notify ≤ inputs_of h)
    × ((room_counts_of server h user room).highlight ≤ inputs_of h)
unfolding room_counts_of
room-few server h user room =
    let rows : List Row = map (row_of server user) (unread server h user room) in
    let long = length-map (unread server h user room) (row_of server user) in
    let few = unread-few server h user room in
    let some = count_by-le-length (λ (row : Row). row.highlight) rows in
    (omega (arith, long, few), omega (arith, long, few, some))

-- counts that are bounded by the most inputs
abbrev pub bounded : Counts → Counts
bounded counts = record { notify = min counts.notify most_inputs; highlight = min counts.highlight most_inputs }

min-few : (n : ℕ) → n ≤ most_inputs → min n most_inputs ≡ n
min-few n few = omega (arith, few)

bounded-few : (counts : Counts) → counts.notify ≤ most_inputs → counts.highlight ≤ most_inputs
    → bounded counts ≡ counts
bounded-few counts notify highlight =
    λ i. record { notify = min-few counts.notify notify i; highlight = min-few counts.highlight highlight i }

-- the counts of all threads, bounded by the most inputs, are those of the room
pub totals-room : (server : List ℕ) (h : History) (user room : List ℕ)
    → (list : ThreadKey → List Row) (threads : List ThreadKey) → inputs_of h ≤ most_inputs
    → ((t : ThreadKey) → list t ≡ rows_of server h user room t) → threads ≡ threads_of server h user room
    → bounded (totals list (take most_inputs threads)) ≡ room_counts_of server h user room
unfolding counts_of
totals-room server h user room list threads few alike same =
    let lists : list ≡ rows_of server h user room = λ i t. alike t i in
    let some = threads-few server h user room in
    let all : take most_inputs threads ≡ threads_of server h user room =
    ap (take most_inputs) same ∙ take_all most_inputs (threads_of server h user room) (omega (arith, few, some)) in
    let total : totals list (take most_inputs threads) ≡ room_counts_of server h user room =
    (λ i. totals (lists i) (all i)) ∙ sym (room_counts_of-threads server h user room) in
    let within = room-few server h user room in
    let notify = within.0 in
    let highlight = within.1 in
    ap bounded total
    ∙ bounded-few (room_counts_of server h user room) (omega (arith, few, notify)) (omega (arith, few, highlight))

-- a room without rows counts none
pub totals-none : (server : List ℕ) (h : History) (user room : List ℕ) → threads_of server h user room ≡ []
    → record { notify = 0; highlight = 0 } ≡ room_counts_of server h user room
totals-none server h user room none =
    sym (room_counts_of-threads server h user room
    ∙ (λ i. record {
      notify = sum_by (λ t. (counts_of server h user room t).notify) (none i);
      highlight = sum_by (λ t. (counts_of server h user room t).highlight) (none i);
    }))

-- ---- one thread more

no_more : (threads : List ThreadKey) (k : ℕ) → None ≡ slice_get threads k → length threads ≤ k
no_more threads k none =
    elim ((slice_get_cases threads k).1) [
      | inl there ↦ absurd (let e : None ≡ Some there.0 = none ∙ there.2 in cc)
      | inr past ↦ past.0
    ]

-- past the last thread all are counted
pub totals-ended : (list : ThreadKey → List Row) (threads : List ThreadKey) (k : ℕ) (counts : Counts)
    → counts ≡ totals list (take k threads) → None ≡ slice_get threads k → k ≤ most_inputs
    → counts ≡ totals list (take most_inputs threads)
totals-ended list threads k counts is none within =
    let few = no_more threads k none in
    is ∙ ap (totals list) (take_all k threads few ∙ sym (take_all most_inputs threads (omega (arith, few, within))))

module _ (list : ThreadKey → List Row) (threads : List ThreadKey) (k : ℕ) (t : ThreadKey)
    (there : Some t ≡ slice_get threads k) where
  pub one-more : k + 1 ≤ length threads
  one-more = let within = slice_get_within threads k t (sym there) in omega (arith, within)

  sum-more : (f : ThreadKey → ℕ) → sum_by f (take k threads) + f t ≡ sum_by f (take (k + 1) threads)
  sum-more f =
      sym (sum_by_more f threads k t (slice_get_within threads k t (sym there))
      ∙ ap (λ (s : ThreadKey). sum_by f (take k threads) + f s) (get_or_from_slice_get threads k t t (sym there)))

  pub totals-more : (counts more sum : Counts) → counts ≡ totals list (take k threads) → more ≡ counts_in (list t)
      → sum.notify ≡ counts.notify + more.notify → sum.highlight ≡ counts.highlight + more.highlight
      → sum ≡ totals list (take (k + 1) threads)
  totals-more counts more sum so_far is notify highlight =
      λ i. record {
        notify = (notify ∙ (λ i. (so_far i).notify + (is i).notify) ∙ sum-more (λ s. (counts_in (list s)).notify)) i;
        highlight = (highlight
            ∙ (λ i. (so_far i).highlight + (is i).highlight) ∙ sum-more (λ s. (counts_in (list s)).highlight)) i;
      }

-- each count grows by no more than the most inputs
pub within-more : (k counted more sum : ℕ) → counted ≤ k * most_inputs → more ≤ most_inputs → sum ≡ counted + more
    → sum ≤ (k + 1) * most_inputs
within-more k counted more sum within few is = omega (arith, within, few, is)

pub highlight-few : (rows : List Row) → length rows ≤ most_inputs → (counts_in rows).highlight ≤ most_inputs
highlight-few rows few =
    let some = count_by-le-length (λ (row : Row). row.highlight) rows in
    omega (arith, few, some)
