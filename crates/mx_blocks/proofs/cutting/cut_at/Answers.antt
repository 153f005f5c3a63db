use Rattle.std.proofs.Common.{ℕ, nat_le, cond, map, slice_get, ◌≡◌, true, ◌+◌, Some, length, count_by, sum_by, sym}
use Rattle.std.proofs.Common.{subst, ◌∙◌, ap, arith}
use Rattle.std.proofs.lemmas.Bool.{cond-false, lt-leb}
use Rattle.std.specs.List.Sorted.{IsPartitionedBy}
use Rattle.indexmap.specs.IndexMap.{set_value_at}
use Rattle.mx_blocks.proofs.StartLemmas.{above_starts, parted_written, place-written, start_grows}
use Rattle.mx_rows.specs.declared.counts.Counts.{Counts}
use Rattle.mx_rows.specs.declared.row.Row.{Row}
use Rattle.mx_rows.specs.declared.thread_key.ThreadKey.{ThreadKey}
use Rattle.mx_blocks.specs.declared.thread_rows.ThreadRows.{ThreadRows}
use Rattle.mx_blocks.specs.Entries.{Entries, Entry, InOrder, is_spent, IsPlace, start_at, thread_rows}
use Rattle.mx_rows.specs.Rows.{start_of, upto}
use Rattle.mx_rows.proofs.EntryLemmas.{some_at}
use Rattle.mx_blocks.proofs.EntryLemmas.{InOrder-settled, settled, slice_get-set_value_at, sum_by-settled, value_at}
use Rattle.mx_rows.proofs.RowLemmas.{upto-above}
use Rattle.mx_blocks.specs.Entries.{are_needed}
use Rattle.mx_blocks.proofs.NeededLemmas.{needed-settled}
use Rattle.mx_blocks.proofs.cutting.cut_at.Goals as goal

pub settle-requires-clause-from : goal.settle-requires-clause-from
settle-requires-clause-from c = let long = c.cut_in_place-dropped.ensures.long in let within =
    c.requires.within in omega arith

pub settle-requires-clause-to : goal.settle-requires-clause-to
settle-requires-clause-to c = let long = c.cut_in_place-dropped.ensures.long in let within =
    c.place_of-to.ensures.within in omega arith

-- the thread that was cut starts where the call says that it does
starts : (es written : Entries) (i : ℕ) (e : Entry) (w v : ThreadRows) (start : ℕ) → slice_get es i ≡ Some e
    → written ≡ set_value_at es i w → slice_get (map (λ (x : Entry). x.1) written) i ≡ Some v → start
    ≡ start_of (thread_rows v)
    → start ≡ start_at (e.0, w)
starts es written i e w v start is write value at =
    at ∙ ap (λ (x : ThreadRows). start_of (thread_rows x)) (value_at written i (e.0, w) v
    (ap (λ l. slice_get l i) write ∙ slice_get-set_value_at es i e w is) value)

pub place_of-to-requires-clause-order : goal.place_of-to-requires-clause-order
place_of-to-requires-clause-order c =
    let es = c.args.threads.now.entries in
    let here = some_at es c.args.index c.requires.within in
    let e = here.0 in
    let cut = c.cut_in_place-dropped.ensures.entries e here.1 in
    let grows = start_grows c.args.position (thread_rows e.1) e.1.rising e.1.in_range in
    let left = ap start_of cut.2 in
    let start = starts es c.cut_in_place-dropped.new.threads.entries c.args.index e cut.0 c.index.result.now
    c.start.result here.1 cut.1 c.index.ensures c.start.ensures in
    subst (λ n. IsPartitionedBy (λ x. nat_le (start_at x) n) c.cut_in_place-dropped.new.threads.entries) (sym start)
    (subst (IsPartitionedBy (λ x. nat_le (start_at x) (start_at (e.0, cut.0)))) (sym cut.1)
    (parted_written es c.args.index e cut.0 here.1 c.requires.order (omega arith)))

pub place_of-to-requires-clause-within : goal.place_of-to-requires-clause-within
place_of-to-requires-clause-within c =
    let long = c.cut_in_place-dropped.ensures.long in let within = c.requires.within in omega arith

pub returns-clause-order : goal.returns-clause-order
returns-clause-order c =
    let es = c.args.threads.now.entries in
    let here = some_at es c.args.index c.requires.within in
    let e = here.0 in
    let cut = c.cut_in_place-dropped.ensures.entries e here.1 in
    let start = starts es c.cut_in_place-dropped.new.threads.entries c.args.index e cut.0 c.index.result.now
    c.start.result here.1 cut.1 c.index.ensures c.start.ensures in
    let place = place-written es c.args.index c.start.result c.place_of-to.result cut.0
    (subst (λ l. IsPlace l c.args.index c.start.result c.place_of-to.result) cut.1 c.place_of-to.ensures) in
    subst InOrder (sym
    (settled es c.cut_in_place-dropped.new.threads.entries c.settle.new.threads.entries
    c.args.index c.place_of-to.result e cut.0 here.1 cut.1 c.settle.ensures.entries))
    (InOrder-settled es c.args.index c.place_of-to.result c.start.result (e.0, cut.0)
    (is_spent cut.0) c.requires.within c.requires.order place (sym start))

pub returns-clause-fewer_threads : goal.returns-clause-fewer_threads
returns-clause-fewer_threads c = λ e is.
    let es = c.args.threads.now.entries in
    let cut = c.cut_in_place-dropped.ensures.entries e is in
    let f : Entry → _ = λ entry. cond (nat_le (start_at entry) c.args.position) 1 0 in
    let over = above_starts c.args.position (thread_rows e.1) (omega arith) in
    let left = ap start_of cut.2 in
    let none : f (e.0, cut.0) ≡ 0 = cond-false _ _ _ (lt-leb (start_at (e.0, cut.0)) c.args.position (omega arith)) in
    ap (λ l. sum_by f l + f e)
    (settled es c.cut_in_place-dropped.new.threads.entries c.settle.new.threads.entries
    c.args.index c.place_of-to.result e cut.0 is cut.1 c.settle.ensures.entries)
    ∙ sum_by-settled f es c.args.index c.place_of-to.result e (e.0, cut.0) (is_spent cut.0) is none

pub returns-clause-fewer_rows : goal.returns-clause-fewer_rows
returns-clause-fewer_rows c =
    let es = c.args.threads.now.entries in
    let here = some_at es c.args.index c.requires.within in
    let e = here.0 in
    let cut = c.cut_in_place-dropped.ensures.entries e here.1 in
    let f : ThreadKey × ThreadRows → _ = λ entry. length (upto c.args.position (thread_rows entry.1)) in
    let none : f (e.0, cut.0) ≡ 0 = ap (λ rows. length (upto c.args.position rows)) cut.2
    ∙ ap length (upto-above c.args.position (thread_rows e.1)) in
    let dropped : c.cut_in_place-dropped.result.notify ≡ f e
    = ap (λ (counts : Counts). counts.notify) (c.cut_in_place-dropped.ensures.dropped e here.1) in
    ap (λ n. sum_by f c.settle.new.threads.entries + n) dropped
    ∙ ap (λ l. sum_by f l + f e)
    (settled es c.cut_in_place-dropped.new.threads.entries c.settle.new.threads.entries
    c.args.index c.place_of-to.result e cut.0 here.1 cut.1 c.settle.ensures.entries)
    ∙ sum_by-settled f es c.args.index c.place_of-to.result e (e.0, cut.0) (is_spent cut.0) here.1 none

pub returns-clause-fewer_highlights : goal.returns-clause-fewer_highlights
returns-clause-fewer_highlights c =
    let es = c.args.threads.now.entries in
    let here = some_at es c.args.index c.requires.within in
    let e = here.0 in
    let cut = c.cut_in_place-dropped.ensures.entries e here.1 in
    let f : ThreadKey × ThreadRows
    → _ = λ entry. count_by (λ (row : Row). row.highlight) (upto c.args.position (thread_rows entry.1)) in
    let none : f (e.0, cut.0) ≡ 0
    = ap (λ rows. count_by (λ (row : Row). row.highlight) (upto c.args.position rows)) cut.2
    ∙ ap (count_by (λ (row : Row). row.highlight)) (upto-above c.args.position (thread_rows e.1)) in
    let dropped : c.cut_in_place-dropped.result.highlight ≡ f e
    = ap (λ (counts : Counts). counts.highlight) (c.cut_in_place-dropped.ensures.dropped e here.1) in
    ap (λ n. sum_by f c.settle.new.threads.entries + n) dropped
    ∙ ap (λ l. sum_by f l + f e)
    (settled es c.cut_in_place-dropped.new.threads.entries c.settle.new.threads.entries
    c.args.index c.place_of-to.result e cut.0 here.1 cut.1 c.settle.ensures.entries)
    ∙ sum_by-settled f es c.args.index c.place_of-to.result e (e.0, cut.0) (is_spent cut.0) here.1 none

pub returns-clause-needed : goal.returns-clause-needed
returns-clause-needed c =
    let es = c.args.threads.now.entries in
    let here = some_at es c.args.index c.requires.within in
    let e = here.0 in
    let cut = c.cut_in_place-dropped.ensures.entries e here.1 in
    let written = c.cut_in_place-dropped.new.threads.entries in
    subst (λ l. are_needed l ≡ true)
    (sym (settled es written c.settle.new.threads.entries c.args.index c.place_of-to.result e cut.0 here.1 cut.1
    c.settle.ensures.entries))
    (needed-settled es c.args.index c.place_of-to.result (e.0, cut.0) c.requires.needed)
