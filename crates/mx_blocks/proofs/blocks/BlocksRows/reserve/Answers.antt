use Rattle.std.proofs.Common.{◌&&◌, ◌||◌, is_ok, sym, ◌∙◌, ap}
use Rattle.mx_blocks.specs.Entries.{reserved_in}
use Rattle.mx_rows.specs.Threads.{same_thread-equiv}
use Rattle.mx_blocks.proofs.EntryLemmas.{entry_found}
use Rattle.mx_blocks.proofs.OrderLemmas.{are_in_order-entries}
use Rattle.mx_blocks.proofs.blocks.BlocksRows.reserve.Goals as goal

pub invariant_of-self : goal.invariant_of-self
invariant_of-self c = record {
  once = c.reserve_at.ensures.once;
  needed = c.reserve_at.ensures.needed;
  order = c.reserve_at.ensures.order;
  with_rows_in_order =
      are_in_order-entries c.reserve_at.new.threads.entries c.reserve_at.ensures.once c.reserve_at.ensures.order;
}

pub invariant_of-self-in-None : goal.invariant_of-self-in-None
invariant_of-self-in-None c = record {
  once = c.keep_reserved.ensures.once;
  needed = c.keep_reserved.ensures.needed;
  order = c.keep_reserved.ensures.order;
  with_rows_in_order =
      are_in_order-entries c.keep_reserved.new.threads.entries
      c.keep_reserved.ensures.once c.keep_reserved.ensures.order;
}

pub returns-in-Some-clause-capacity : goal.returns-in-Some-clause-capacity
returns-in-Some-clause-capacity c = λ t.
    let es = c.args.self.now.threads.entries in
    let found = entry_found es c.args.thread.now c.in-Some.index c.in-Some.ensures.index in
    c.reserve_at.ensures.capacity found.0 t found.1
    ∙ ap (λ b. reserved_in es t || (is_ok c.reserve_at.result && b))
    (sym (same_thread-equiv.congr c.args.thread.now found.0.0 t found.2))
