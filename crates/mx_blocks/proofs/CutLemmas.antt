-- A cut of every thread: what stays true from one thread to the next, and what is left at the end.
use Rattle.std.proofs.Common.{◌≡◌, ℕ, ◌+◌, ◌<◌, ◌≤◌, min, nat_lt, true, [], length, count_by, get_or, Option, Some}
use Rattle.std.proofs.Common.{None, refl, ap, subst, arith}
use Rattle.std.proofs.lemmas.List.Sums.{sum_by-le}
use Rattle.std.proofs.lemmas.Map.Entries.{place_from_lookup}
use Rattle.std.proofs.lemmas.Option.{slice_get_within}
use Rattle.std.specs.List.{list_all}
use Rattle.std.specs.Map.{lookup}
use Rattle.std.specs.Option.{option_map_or}
use Rattle.mx_rows.specs.declared.counts.Counts.{Counts}
use Rattle.mx_rows.specs.declared.row.Row.{Row}
use Rattle.mx_rows.specs.declared.thread_key.ThreadKey.{ThreadKey}
use Rattle.mx_blocks.specs.declared.thread_rows.ThreadRows.{ThreadRows}
use Rattle.mx_rows.proofs.CutLemmas.{above-all, all_above_start, upto-none}
use Rattle.mx_rows.proofs.EntryLemmas.{get_or_of_slice_get}
use Rattle.mx_blocks.specs.Entries.{are_needed, AreDistinct, Entries, highlights_left_to_cut, hot_in, InOrder}
use Rattle.mx_blocks.specs.Entries.{reserved_in, rows_in, rows_left_to_cut, start_at, thread_rows, threads_left_to_cut}
use Rattle.mx_rows.specs.Rows.{above, largest_count, upto}
use Rattle.mx_rows.specs.Threads.{same_thread}

-- after some threads were cut, the rest of the work is what a cut of every thread still does
pub record CutsOn (position : ℕ) (old now : Entries) (dropped : Counts) (opened_before opened_now : ℕ) : Type 0 where
  pub order : InOrder now
  pub once : AreDistinct now
  pub needed : are_needed now ≡ true
  pub rows : (t : ThreadKey) → above position (rows_in now t) ≡ above position (rows_in old t)
  pub capacity : (t : ThreadKey) → reserved_in now t ≡ reserved_in old t
  pub cool : (t : ThreadKey) → length (hot_in now t) ≤ length (hot_in old t)
  pub notify : min (dropped.notify + rows_left_to_cut position now) largest_count ≡ min
      (rows_left_to_cut position old) largest_count
  pub highlight : min (dropped.highlight + highlights_left_to_cut position now) largest_count ≡ min
      (highlights_left_to_cut position old) largest_count
  pub notify_fits : dropped.notify ≤ largest_count
  pub highlight_fits : dropped.highlight ≤ largest_count
  pub opened : opened_now + threads_left_to_cut position now ≤ opened_before + threads_left_to_cut position old

-- ---- rows

-- ---- threads that all start above the position

module _ (p : ℕ) (es : Entries)
    (over : (k : ℕ) (d : ThreadKey × ThreadRows) → k < length es → p < start_at (get_or es k d)) where
  all_over : (e : ThreadKey × ThreadRows) → p < start_at e
      → list_all (λ row. nat_lt p row.position) (thread_rows e.1) ≡ true
  all_over e starts = all_above_start p (thread_rows e.1) e.1.rising starts

  pub above-rows_in : (t : ThreadKey) → above p (rows_in es t) ≡ rows_in es t
  above-rows_in t = by (lookup (same_thread t) es) refl
    where
      by : (o : Option ThreadRows) → lookup (same_thread t) es ≡ o
          → above p (option_map_or (λ kept. (thread_rows kept)) o []) ≡ option_map_or (λ kept. (thread_rows kept)) o []
      by None is = refl
      by (Some v) is =
          let place = place_from_lookup (same_thread t) es v is in
          let e : ThreadKey × ThreadRows = (place.1, v) in
          let starts = over place.0 e (slice_get_within es place.0 e place.2) in
          above-all p (thread_rows v)
          (all_over e (subst (λ x. p < start_at x) (get_or_of_slice_get es place.0 e place.2) starts))

  pub no_rows_left : rows_left_to_cut p es ≡ 0
  no_rows_left =
      let none = sum_by-le (λ (e : ThreadKey × ThreadRows). length (upto p (thread_rows e.1))) 0 es
      (λ k d within. let gone = ap length
      (upto-none p (thread_rows (get_or es k d).1) (all_over (get_or es k d) (over k d within))) in omega arith) in
      omega arith

  pub no_highlights_left : highlights_left_to_cut p es ≡ 0
  no_highlights_left =
      let none = sum_by-le
      (λ (e : ThreadKey × ThreadRows). count_by (λ (row : Row). row.highlight) (upto p (thread_rows e.1))) 0 es
      (λ k d within. let gone = ap (count_by (λ (row : Row). row.highlight))
      (upto-none p (thread_rows (get_or es k d).1) (all_over (get_or es k d) (over k d within))) in omega arith) in
      omega arith
