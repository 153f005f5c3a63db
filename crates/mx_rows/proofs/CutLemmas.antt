-- A cut of every thread: what stays true from one thread to the next, and what is left at the end.
use Rattle.std.proofs.Common.{◌≡◌, ℕ, ◌+◌, ◌<◌, ◌≤◌, min, nat_lt, nat_le, true, List, [], ◌∷◌, length, count_by, get_or}
use Rattle.std.proofs.Common.{Option, Some, None, refl, sym, ap, ◌∙◌, subst, arith}
use Rattle.std.proofs.lemmas.Bool.{and_parts, and_from, cond-true, cond-false, cond_both, le-leb, lt-leb, lt-ltb}
use Rattle.std.proofs.lemmas.Bool.{ltb-true}
use Rattle.std.proofs.lemmas.List.Sums.{sum_by-le}
use Rattle.std.proofs.lemmas.Map.Entries.{place_from_lookup}
use Rattle.std.proofs.lemmas.Option.{slice_get_within}
use Rattle.std.specs.List.{IsDistinct, list_all}
use Rattle.std.specs.Map.{keys_of, lookup}
use Rattle.std.specs.Option.{option_map_or}
use Rattle.mx_rows.specs.declared.counts.Counts.{Counts}
use Rattle.mx_rows.specs.declared.row.Row.{Row}
use Rattle.mx_rows.specs.declared.thread_key.ThreadKey.{ThreadKey}
use Rattle.mx_rows.specs.declared.thread_rows.ThreadRows.{ThreadRows}
use Rattle.mx_rows.specs.Plain.{are_needed, AreDistinct, Entries, InOrder, highlights_left_to_cut, reserved_in, rows_in}
use Rattle.mx_rows.specs.Plain.{rows_left_to_cut, start_at}
use Rattle.mx_rows.specs.Rows.{above, is_rising, largest_count, start_of, upto}
use Rattle.mx_rows.specs.Threads.{same_thread}
use Rattle.mx_rows.proofs.EntryLemmas.{get_or_of_slice_get}

-- after some threads were cut, the rest of the work is what a cut of every thread still does
pub record CutsOn (position : ℕ) (old now : Entries) (dropped : Counts) : Type 0 where
  pub order : InOrder now
  pub once : AreDistinct now
  pub needed : are_needed now ≡ true
  pub rows : (t : ThreadKey) → above position (rows_in now t) ≡ above position (rows_in old t)
  pub capacity : (t : ThreadKey) → reserved_in now t ≡ reserved_in old t
  pub notify : min (dropped.notify + rows_left_to_cut position now) largest_count ≡ min
      (rows_left_to_cut position old) largest_count
  pub highlight : min (dropped.highlight + highlights_left_to_cut position now) largest_count ≡ min
      (highlights_left_to_cut position old) largest_count
  pub notify_fits : dropped.notify ≤ largest_count
  pub highlight_fits : dropped.highlight ≤ largest_count

-- ---- rows

pub above-all : (p : ℕ) (rows : List Row) → list_all (λ row. nat_lt p row.position) rows ≡ true → above p rows ≡ rows
above-all p [] all = refl
above-all p (row ∷ rows) all =
    let parts = and_parts (nat_lt p row.position) (list_all (λ row. nat_lt p row.position) rows) all in
    cond-true _ _ _ parts.0 ∙ ap (λ l. row ∷ l) (above-all p rows parts.1)

pub upto-none : (p : ℕ) (rows : List Row) → list_all (λ row. nat_lt p row.position) rows ≡ true → upto p rows ≡ []
upto-none p [] all = refl
upto-none p (row ∷ rows) all =
    let parts = and_parts (nat_lt p row.position) (list_all (λ row. nat_lt p row.position) rows) all in
    cond-false _ _ _ (lt-leb _ _ (ltb-true _ _ parts.0)) ∙ upto-none p rows parts.1

all_above-above : (p : ℕ) (rows : List Row) → list_all (λ row. nat_lt p row.position) (above p rows) ≡ true
all_above-above p [] = refl
all_above-above p (row ∷ rows) =
    let rest = all_above-above p rows in
    cond_both (nat_lt p row.position) (row ∷ above p rows) (above p rows)
    (λ l. list_all (λ row. nat_lt p row.position) l ≡ true)
    (λ over. and_from _ _ over rest) (λ _. rest)

pub above-above : (p : ℕ) (rows : List Row) → above p (above p rows) ≡ above p rows
above-above p rows = above-all p (above p rows) (all_above-above p rows)

all_above_more : (p n : ℕ) (rows : List Row) → p < n → list_all (λ row. nat_lt n row.position) rows ≡ true
    → list_all (λ row. nat_lt p row.position) rows ≡ true
all_above_more p n [] below all = refl
all_above_more p n (row ∷ rows) below all =
    let parts = and_parts (nat_lt n row.position) (list_all (λ row. nat_lt n row.position) rows) all in
    let over = ltb-true _ _ parts.0 in
    and_from _ _ (lt-ltb p row.position (omega arith)) (all_above_more p n rows below parts.1)

-- rows that rise stand above a position where the first does
pub all_above_start : (p : ℕ) (rows : List Row) → is_rising rows ≡ true → p < start_of rows
    → list_all (λ row. nat_lt p row.position) rows ≡ true
all_above_start p [] rising below = refl
all_above_start p (row ∷ rows) rising below =
    let parts = and_parts (list_all (λ later. nat_lt row.position later.position) rows) (is_rising rows) rising in
    and_from _ _ (lt-ltb p row.position below) (all_above_more p row.position rows below parts.0)

-- where the first row is at or below a position, a cut there drops something
pub some_upto : (p : ℕ) (rows : List Row) → start_of rows ≤ p → p < 18446744073709551616 → 0 < length (upto p rows)
some_upto p [] starts small = absurd (omega arith)
some_upto p (row ∷ rows) starts small =
    subst (λ l. 0 < length l)
    (sym (cond-true (nat_le row.position p) (row ∷ upto p rows) (upto p rows) (le-leb _ _ starts))) (omega arith)

-- ---- threads that all start above the position

module _ (p : ℕ) (es : Entries)
    (over : (k : ℕ) (d : ThreadKey × ThreadRows) → k < length es → p < start_at (get_or es k d)) where
  all_over : (e : ThreadKey × ThreadRows) → p < start_at e
      → list_all (λ row. nat_lt p row.position) e.1.rows.items ≡ true
  all_over e starts = all_above_start p e.1.rows.items e.1.rising starts

  pub above-rows_in : (t : ThreadKey) → above p (rows_in es t) ≡ rows_in es t
  above-rows_in t = by (lookup (same_thread t) es) refl
    where
      by : (o : Option ThreadRows) → lookup (same_thread t) es ≡ o
          → above p (option_map_or (λ kept. kept.rows.items) o []) ≡ option_map_or (λ kept. kept.rows.items) o []
      by None is = refl
      by (Some v) is =
          let place = place_from_lookup (same_thread t) es v is in
          let e : ThreadKey × ThreadRows = (place.1, v) in
          let starts = over place.0 e (slice_get_within es place.0 e place.2) in
          above-all p v.rows.items
          (all_over e (subst (λ x. p < start_at x) (get_or_of_slice_get es place.0 e place.2) starts))

  pub no_rows_left : rows_left_to_cut p es ≡ 0
  no_rows_left =
      let none = sum_by-le (λ (e : ThreadKey × ThreadRows). length (upto p e.1.rows.items)) 0 es
      (λ k d within. let gone = ap length
      (upto-none p (get_or es k d).1.rows.items (all_over (get_or es k d) (over k d within))) in omega arith) in
      omega arith

  pub no_highlights_left : highlights_left_to_cut p es ≡ 0
  no_highlights_left =
      let none = sum_by-le
      (λ (e : ThreadKey × ThreadRows). count_by (λ (row : Row). row.highlight) (upto p e.1.rows.items)) 0 es
      (λ k d within. let gone = ap (count_by (λ (row : Row). row.highlight))
      (upto-none p (get_or es k d).1.rows.items (all_over (get_or es k d) (over k d within))) in omega arith) in
      omega arith
