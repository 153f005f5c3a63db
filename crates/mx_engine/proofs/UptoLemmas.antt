-- The rows of a thread are no more than the inputs, and none stands above the last of these.
use Rattle.std.proofs.Common.{◌≡◌, ℕ, ◌+◌, ◌≤◌, ◌<◌, nat_le, nat_lt, Bool, true, false, cond, ◌&&◌, List, [], ◌∷◌, ◌++◌}
use Rattle.std.proofs.Common.{length, filter, All, Option, Some, None, unwrap_or, zero-le, refl, ap, subst, sym, ◌∙◌}
use Rattle.std.proofs.Common.{arith, length-append}
use Rattle.std.specs.Cmp.Lexicographic.{slice_cmp}
use Rattle.std.specs.FinMap.{empty, get, get-empty}
use Rattle.std.specs.List.{count_by, list_all}
use Rattle.std.specs.Option.{option_map_or}
use Rattle.std.specs.Ordering.{nat_cmp}
use Rattle.std.specs.Str.{bytes_eq}
use Rattle.std.proofs.lemmas.Bool.{and_from, le-leb, leb-true}
use Rattle.std.proofs.lemmas.List.{append-nil}
use Rattle.std.proofs.lemmas.List.Sums.{AllPass-from_list_all, count_by-le-length, length-filter}
use Rattle.mx_room.specs.Texts.{Texts}
use Rattle.mx_rows.specs.declared.row.Row.{Row}
use Rattle.mx_rows.specs.declared.thread_key.ThreadKey.{ThreadKey}
use Rattle.mx_rows.specs.Rows.{above, counts_in}
use Rattle.mx_rows.specs.Threads.{same_thread}
use Rattle.mx_rows.proofs.RowLemmas.{list_all-filter}
use Rattle.mx_records.specs.Cuts.{reaches}
use Rattle.mx_records.specs.Refusing.{most_inputs}
use Rattle.mx_records.specs.Snapshot.{RoomRows}
use Rattle.mx_engine.specs.KeptRows.{is_users_room, list_at, list_in}
use Rattle.mx_engine.specs.Planning.{AreUpto, PlannedEvent, PlannedRead, row_added, row_said, rows_moved}
use Rattle.mx_engine.specs.Planning.{rows_with_event, rows_with_read}
use Rattle.mx_engine.proofs.RowsShown.{upto-added}
use Rattle.mx_engine.proofs.UnreadLemmas.{list_in-empty}

-- ---- what holds of such rows

pub upto-below : (n : ℕ) (position : ℕ) (rows : List Row) → position ≡ n + 1 → AreUpto n rows
    → All (λ (row : Row). row.position < position) rows
upto-below n position rows next are k d within =
    let le = leb-true _ _ (AllPass-from_list_all (λ (row : Row). nat_le row.position n) rows are.upto k d within) in
    omega (arith, next, le)

pub notify-upto : (n : ℕ) (rows : List Row) → n ≤ most_inputs → AreUpto n rows → (counts_in rows).notify ≤ most_inputs
notify-upto n rows few are = let less = are.few in omega (arith, few, less)

pub highlight-upto : (n : ℕ) (rows : List Row) → n ≤ most_inputs → AreUpto n rows
    → (counts_in rows).highlight ≤ most_inputs
highlight-upto n rows few are =
    let less = are.few in
    let highlighted = count_by-le-length (λ (row : Row). row.highlight) rows in
    omega (arith, few, less, highlighted)

-- ---- how they come about

pub upto-empty : (unread : Texts (Texts RoomRows)) → unread ≡ empty → (u r : List ℕ) (t : ThreadKey)
    → AreUpto 0 (list_at unread u r t)
upto-empty unread is u r t =
    let none : list_at unread u r t ≡ [] =
    ap (λ (m : Texts (Texts RoomRows)). list_at m u r t) is
    ∙ ap (λ (o : Option (Texts RoomRows)). list_by o) (get-empty (slice_cmp nat_cmp) u)
    ∙ list_in-empty r t in
    subst (AreUpto 0) (sym none) (record { upto = refl; few = zero-le })
  where
    list_by : Option (Texts RoomRows) → List Row
    list_by o = list_in (unwrap_or o empty) r t

upto-more : (n : ℕ) (rows : List Row) → AreUpto n rows → AreUpto (n + 1) rows
upto-more n rows are =
    let few = are.few in
    record {
      upto = subst (λ l. list_all (λ (row : Row). nat_le row.position (n + 1)) l ≡ true) (append-nil rows)
          (upto-added n rows [] are.upto refl);
      few = omega (arith, few);
    }

upto-above : (n position : ℕ) (rows : List Row) → AreUpto n rows → AreUpto n (above position rows)
upto-above n position rows are =
    let few = are.few in
    let less = count_by-le-length (λ (row : Row). nat_lt position row.position) rows in
    let long = length-filter (λ (row : Row). nat_lt position row.position) rows in
    record {
      upto = list_all-filter (λ (row : Row). nat_lt position row.position) (λ (row : Row). nat_le row.position n) rows
          are.upto;
      few = omega (arith, few, less, long);
    }

upto-cut : (b : Bool) (n position : ℕ) (rows : List Row) → AreUpto n rows
    → AreUpto n (cond b (above position rows) rows)
upto-cut true n position rows are = upto-above n position rows are
upto-cut false n position rows are = are

upto-said : (n : ℕ) (b : Bool) (said : Option Bool)
    → (list_all (λ (row : Row). nat_le row.position (n + 1)) (cond b (row_said (n + 1) said) []) ≡ true)
    × (length (cond b (row_said (n + 1) said) []) ≤ 1)
upto-said n true None = (refl, zero-le)
upto-said n true (Some highlight) = (and_from _ _ (le-leb (n + 1) (n + 1) (omega arith)) refl, omega arith)
upto-said n false said = (refl, zero-le)

event-upto : (n : ℕ) (plan : PlannedEvent) (u r : List ℕ) (t : ThreadKey) (rows : List Row) → AreUpto n rows
    → AreUpto (n + 1) (rows_with_event (n + 1) plan u r t rows)
event-upto n plan u r t rows are =
    let added = row_added (n + 1) plan.room.id plan.thread (get plan.users) u r t in
    let one = upto-said n (bytes_eq plan.room.id r && same_thread plan.thread t) (get plan.users u) in
    let few = are.few in
    let long = length-append rows added in
    let short : length added ≤ 1 = one.1 in
    upto-cut (option_map_or (λ moved. is_users_room moved plan.room.id u r) plan.mover false) (n + 1) (n + 1)
    (rows ++ added)
    (record { upto = upto-added n rows added are.upto one.0; few = omega (arith, few, long, short) })

-- after an event
pub upto-event : (n position : ℕ) (plan : PlannedEvent) (u r : List ℕ) (t : ThreadKey) (rows new : List Row)
    → position ≡ n + 1 → new ≡ rows_with_event position plan u r t rows → AreUpto n rows → AreUpto position new
upto-event n position plan u r t rows new next is are =
    subst (λ p. AreUpto p new) (sym next)
    (subst (AreUpto (n + 1)) (sym (is ∙ ap (λ p. rows_with_event p plan u r t rows) next))
    (event-upto n plan u r t rows are))

-- after a receipt
pub upto-read : (n position : ℕ) (plan : PlannedRead) (u r : List ℕ) (t : ThreadKey) (rows new : List Row)
    → position ≡ n + 1 → new ≡ rows_with_read plan u r t rows → AreUpto n rows → AreUpto position new
upto-read n position plan u r t rows new next is are =
    subst (λ p. AreUpto p new) (sym next)
    (subst (AreUpto (n + 1)) (sym is)
    (upto-cut (is_users_room plan.user plan.room u r && reaches plan.thread t) (n + 1) plan.upto rows
    (upto-more n rows are)))

-- after an edit
pub upto-next : (n position : ℕ) (rows : List Row) → position ≡ n + 1 → AreUpto n rows → AreUpto position rows
upto-next n position rows next are = subst (λ p. AreUpto p rows) (sym next) (upto-more n rows are)
