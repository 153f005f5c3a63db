use Rattle.std.proofs.Common.{◌+◌, List, nat_lt, nat_le, cond, ◌≡◌, ◌<◌, ◌≤◌, length, refl, sym, ap, subst, ◌∙◌, arith}
use Rattle.std.proofs.lemmas.Bool.{cond_both, cond-true, le-leb}
use Rattle.std.proofs.lemmas.List.Sums.{count_by-le-length, length-filter}
use Rattle.mx_rows.specs.declared.row.Row.{Row}
use Rattle.mx_rows.specs.declared.counts.Counts.{Counts}
use Rattle.mx_rows.specs.declared.thread_key.ThreadKey.{ThreadKey}
use Rattle.mx_blocks.specs.declared.thread_rows.ThreadRows.{ThreadRows}
use Rattle.mx_blocks.specs.Entries.{hot_in, rows_in, rows_left_to_cut, start_at, thread_rows, threads_left_to_cut}
use Rattle.mx_rows.specs.Rows.{above, upto}
use Rattle.mx_rows.specs.Threads.{same_thread}
use Rattle.mx_rows.proofs.CutLemmas.{above-above, some_upto}
use Rattle.mx_blocks.proofs.CutLemmas.{above-rows_in, no_highlights_left, no_rows_left}
use Rattle.mx_rows.proofs.EntryLemmas.{get_or_of_slice_get, some_at}
use Rattle.mx_blocks.proofs.cutting.cut_every.Goals as goal

fewer_above : (p : _) (rows : List Row) → length (above p rows) ≤ length rows
fewer_above p rows =
    let filtered = length-filter (λ (row : Row). nat_lt p row.position) rows in
    let few = count_by-le-length (λ (row : Row). nat_lt p row.position) rows in
    omega arith

pub loop-index-smaller : goal.loop-index-smaller
loop-index-smaller c =
    let es = c.loop-index.threads.entries in
    let here = some_at es c.in-Some.index c.in-Some.ensures.within in
    let e = here.0 in
    let starts : start_at e ≤ c.args.position
    = subst (λ (x : ThreadKey × ThreadRows). start_at x ≤ c.args.position)
    (get_or_of_slice_get es c.in-Some.index e here.1) (c.in-Some.ensures.some e) in
    let some = some_upto c.args.position (thread_rows e.1) starts (omega arith) in
    let dropped : c.cut_at.result.notify ≡ length (upto c.args.position (thread_rows e.1))
    = ap (λ (counts : Counts). counts.notify) (c.cut_at.ensures.dropped e here.1) in
    let fewer = c.cut_at.ensures.fewer_rows in
    let smaller : rows_left_to_cut c.args.position c.cut_at.new.threads.entries
    < rows_left_to_cut c.args.position es = omega arith in
    smaller

pub loop-index-preserved : goal.loop-index-preserved
loop-index-preserved c =
    let es = c.loop-index.threads.entries in
    let before = c.loop-index.invariant in
    let here = some_at es c.in-Some.index c.in-Some.ensures.within in
    let e = here.0 in
    record {
      order = c.cut_at.ensures.order;
      once = c.cut_at.ensures.once;
      needed = c.cut_at.ensures.needed;
      rows = λ t. ap (above c.args.position) (c.cut_at.ensures.rows e t here.1)
          ∙ cond_both (same_thread e.0 t) (above c.args.position (rows_in es t)) (rows_in es t)
          (λ l. above c.args.position l ≡ above c.args.position (rows_in es t))
          (λ _. above-above c.args.position (rows_in es t)) (λ _. refl)
          ∙ before.rows t;
      capacity = λ t. c.cut_at.ensures.capacity t ∙ before.capacity t;
      notify = let sum = c.plus-dropped.ensures.notify in let fewer = c.cut_at.ensures.fewer_rows in let total =
          before.notify in omega arith;
      highlight = let sum = c.plus-dropped.ensures.highlight in let fewer =
          c.cut_at.ensures.fewer_highlights in let total = before.highlight in omega arith;
      cool = λ t. let hot = ap length (c.cut_at.ensures.hot e t here.1) in
          let fewer = cond_both (same_thread e.0 t) (above c.args.position (hot_in es t)) (hot_in es t)
          (λ l. length l ≤ length (hot_in es t)) (λ _. fewer_above c.args.position (hot_in es t)) (λ _. omega arith) in
          let so_far = before.cool t in omega arith;
      opened = let starts : start_at e ≤ c.args.position
          = subst (λ (x : ThreadKey × ThreadRows). start_at x ≤ c.args.position)
          (get_or_of_slice_get es c.in-Some.index e here.1) (c.in-Some.ensures.some e) in
          let one : cond (nat_le (start_at e) c.args.position) 1 0 ≡ 1 = cond-true _ _ _ (le-leb _ _ starts) in
          let fewer = ap (λ n. threads_left_to_cut c.args.position c.cut_at.new.threads.entries + n) (sym one)
          ∙ c.cut_at.ensures.fewer_threads e here.1 in
          let more = c.cut_at.ensures.opened in
          let so_far = before.opened in
          omega arith;
      notify_fits = let sum = c.plus-dropped.ensures.notify in omega arith;
      highlight_fits = let sum = c.plus-dropped.ensures.highlight in omega arith;
    }

pub returns-clause-rows : goal.returns-clause-rows
returns-clause-rows c = λ t.
    sym (above-rows_in c.args.position c.loop-index.threads.entries c.in_default.ensures.none t)
    ∙ c.loop-index.invariant.rows t

pub returns-clause-notify : goal.returns-clause-notify
returns-clause-notify c =
    let none = no_rows_left c.args.position c.loop-index.threads.entries c.in_default.ensures.none in
    let total = c.loop-index.invariant.notify in
    let fits = c.loop-index.invariant.notify_fits in
    omega arith

pub returns-clause-highlight : goal.returns-clause-highlight
returns-clause-highlight c =
    let none = no_highlights_left c.args.position c.loop-index.threads.entries c.in_default.ensures.none in
    let total = c.loop-index.invariant.highlight in
    let fits = c.loop-index.invariant.highlight_fits in
    omega arith
