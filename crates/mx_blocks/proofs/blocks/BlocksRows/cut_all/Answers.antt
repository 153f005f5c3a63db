use Rattle.std.proofs.Common.{arith, sym, ◌∙◌, ap}
use Rattle.mx_rows.specs.Rows.{saturated}
use Rattle.mx_blocks.proofs.OrderLemmas.{are_in_order-entries, counts_in-all, left-le-with_rows}
use Rattle.mx_blocks.proofs.blocks.BlocksRows.cut_all.Goals as goal

pub invariant_of-self : goal.invariant_of-self
invariant_of-self c = record {
  once = c.cut_every.ensures.once;
  needed = c.cut_every.ensures.needed;
  order = c.cut_every.ensures.order;
  with_rows_in_order =
      are_in_order-entries c.cut_every.new.threads.entries c.cut_every.ensures.once c.cut_every.ensures.order;
}

pub returns-clause-dropped : goal.returns-clause-dropped
returns-clause-dropped c =
    (λ i. record { notify = c.cut_every.ensures.notify i; highlight = c.cut_every.ensures.highlight i })
    ∙ sym (ap saturated (counts_in-all c.args.position c.args.self.now.threads.entries c.args.self.now.once))

pub returns-clause-opened : goal.returns-clause-opened
returns-clause-opened c =
    let self = c.args.self.now in
    let few = left-le-with_rows c.args.position self.threads.entries (omega arith) self.once in
    let opened = c.cut_every.ensures.opened in
    omega arith
