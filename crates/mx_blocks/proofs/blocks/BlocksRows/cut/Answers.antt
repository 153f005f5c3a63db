use Rattle.std.proofs.Common.{◌≤◌, nat_lt, Bool, true, false, cond, List, length, sym, subst, ◌∙◌, ap, arith}
use Rattle.std.proofs.lemmas.List.Sums.{count_by-le-length, length-filter}
use Rattle.mx_rows.specs.declared.row.Row.{Row}
use Rattle.mx_rows.specs.Threads.{same_thread}
use Rattle.mx_rows.specs.Rows.{above, counts_in, upto}
use Rattle.mx_blocks.specs.Entries.{hot_in, rows_in}
use Rattle.mx_rows.proofs.EntryLemmas.{by_found}
use Rattle.mx_blocks.proofs.EntryLemmas.{entry_found, rows_found}
use Rattle.mx_blocks.proofs.OrderLemmas.{are_in_order-entries}
use Rattle.mx_blocks.proofs.blocks.BlocksRows.cut.Goals as goal

pub invariant_of-self : goal.invariant_of-self
invariant_of-self c = record {
  once = c.cut_at.ensures.once;
  needed = c.cut_at.ensures.needed;
  order = c.cut_at.ensures.order;
  with_rows_in_order = are_in_order-entries c.cut_at.new.threads.entries c.cut_at.ensures.once c.cut_at.ensures.order;
}

pub returns-in-Some-clause-lists : goal.returns-in-Some-clause-lists
returns-in-Some-clause-lists c = λ t.
    let es = c.args.self.now.threads.entries in
    let found = entry_found es c.args.thread.now c.in-Some.index c.in-Some.ensures.index in
    c.cut_at.ensures.rows found.0 t found.1
    ∙ by_found c.args.thread.now found.0.0 t (above c.args.position (rows_in es t)) (rows_in es t) found.2

pub returns-in-Some-clause-dropped : goal.returns-in-Some-clause-dropped
returns-in-Some-clause-dropped c =
    let es = c.args.self.now.threads.entries in
    let found = entry_found es c.args.thread.now c.in-Some.index c.in-Some.ensures.index in
    c.cut_at.ensures.dropped found.0 found.1
    ∙ ap (λ rows. counts_in (upto c.args.position rows))
    (rows_found es c.args.thread.now c.in-Some.index found.0 c.args.self.now.once found.1 found.2)

shrinks : (b : Bool) (p : _) (rows : List Row) → length (cond b (above p rows) rows) ≤ length rows
shrinks true p rows =
    let filtered = length-filter (λ (row : Row). nat_lt p row.position) rows in
    let few = count_by-le-length (λ (row : Row). nat_lt p row.position) rows in
    omega arith
shrinks false p rows = omega arith

pub returns-in-Some-clause-cool : goal.returns-in-Some-clause-cool
returns-in-Some-clause-cool c = λ t.
    let es = c.args.self.now.threads.entries in
    let found = entry_found es c.args.thread.now c.in-Some.index c.in-Some.ensures.index in
    subst (λ n. n ≤ length (hot_in es t))
    (sym (ap length (c.cut_at.ensures.hot found.0 t found.1
    ∙ by_found c.args.thread.now found.0.0 t (above c.args.position (hot_in es t)) (hot_in es t) found.2)))
    (shrinks (same_thread c.args.thread.now t) c.args.position (hot_in es t))
