use Rattle.std.proofs.Common.{◌+◌, ◌≤◌, Bool, true, cond, List, length, length-append, sym, subst, ap, arith, [], ◌∷◌}
use Rattle.std.proofs.Common.{◌++◌, false, ◌∙◌}
use Rattle.mx_rows.specs.declared.row.Row.{Row}
use Rattle.mx_rows.specs.Threads.{same_thread}
use Rattle.mx_blocks.specs.Entries.{hot_in, reserved_in, rows_in}
use Rattle.mx_rows.proofs.EntryLemmas.{by_found}
use Rattle.mx_blocks.proofs.EntryLemmas.{entry_found}
use Rattle.mx_blocks.proofs.OrderLemmas.{are_in_order-entries}
use Rattle.mx_blocks.proofs.blocks.BlocksRows.push.Goals as goal

pub invariant_of-self : goal.invariant_of-self
invariant_of-self c = record {
  once = c.push_at.ensures.once;
  needed = c.push_at.ensures.needed;
  order = c.push_at.ensures.order;
  with_rows_in_order =
      are_in_order-entries c.push_at.new.threads.entries c.push_at.ensures.once c.push_at.ensures.order;
}

pub returns-clause-lists : goal.returns-clause-lists
returns-clause-lists c = λ t.
    let es = c.args.self.now.threads.entries in
    let found = entry_found es c.args.thread.now c.in-Some.index c.in-Some.ensures.index in
    c.push_at.ensures.rows found.0 t found.1
    ∙ by_found c.args.thread.now found.0.0 t
    (rows_in es t ++ record { position = c.args.position; highlight = c.args.highlight } ∷ [])
    (rows_in es t) found.2

pub returns-clause-capacity : goal.returns-clause-capacity
returns-clause-capacity c = λ t.
    let es = c.args.self.now.threads.entries in
    let found = entry_found es c.args.thread.now c.in-Some.index c.in-Some.ensures.index in
    c.push_at.ensures.capacity found.0 t found.1
    ∙ by_found c.args.thread.now found.0.0 t false (reserved_in es t) found.2

grows : (b : Bool) (rows : List Row) (row : Row) → length (cond b (rows ++ row ∷ []) rows) ≤ length rows + cond b 1 0
grows true rows row = omega (arith, length-append rows (row ∷ []))
grows false rows row = omega arith

pub returns-clause-cool : goal.returns-clause-cool
returns-clause-cool c = λ t.
    let es = c.args.self.now.threads.entries in
    let found = entry_found es c.args.thread.now c.in-Some.index c.in-Some.ensures.index in
    let row : Row = record { position = c.args.position; highlight = c.args.highlight } in
    subst (λ n. n ≤ length (hot_in es t) + cond (same_thread c.args.thread.now t) 1 0)
    (sym (ap length (c.push_at.ensures.hot found.0 t found.1
    ∙ by_found c.args.thread.now found.0.0 t (hot_in es t ++ row ∷ []) (hot_in es t) found.2)))
    (grows (same_thread c.args.thread.now t) (hot_in es t) row)
