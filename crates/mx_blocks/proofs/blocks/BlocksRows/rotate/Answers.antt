use Rattle.std.proofs.Common.{◌≡◌, nat_le, cond, length, drop, IfOk, subst, ◌∙◌}
use Rattle.std.specs.Result.{result_unwrap_or}
use Rattle.mx_rows.specs.Rows.{upto}
use Rattle.mx_rows.proofs.EntryLemmas.{by_found}
use Rattle.mx_blocks.specs.Entries.{hot_in}
use Rattle.mx_blocks.proofs.EntryLemmas.{entry_found, hot_found}
use Rattle.mx_blocks.proofs.OrderLemmas.{are_in_order-entries}
use Rattle.mx_blocks.proofs.blocks.BlocksRows.rotate.Goals as goal

pub invariant_of-self : goal.invariant_of-self
invariant_of-self c = record {
  once = c.rotate_at.ensures.once;
  needed = c.rotate_at.ensures.needed;
  order = c.rotate_at.ensures.order;
  with_rows_in_order =
      are_in_order-entries c.rotate_at.new.threads.entries c.rotate_at.ensures.once c.rotate_at.ensures.order;
}

pub returns-in-Some-clause-answer : goal.returns-in-Some-clause-answer
returns-in-Some-clause-answer c =
    let es = c.args.self.now.threads.entries in
    let found = entry_found es c.args.thread.now c.in-Some.index c.in-Some.ensures.index in
    subst (λ rows. IfOk c.rotate_at.result (λ n. n ≡ cond (nat_le 256 (length (upto c.args.last rows))) 256 0))
    (hot_found es c.args.thread.now c.in-Some.index found.0 c.args.self.now.once found.1 found.2)
    (c.rotate_at.ensures.answer found.0 found.1)

pub returns-in-Some-clause-packs : goal.returns-in-Some-clause-packs
returns-in-Some-clause-packs c = λ t.
    let es = c.args.self.now.threads.entries in
    let found = entry_found es c.args.thread.now c.in-Some.index c.in-Some.ensures.index in
    c.rotate_at.ensures.hot found.0 t found.1
    ∙ by_found c.args.thread.now found.0.0 t (drop (result_unwrap_or c.rotate_at.result 0) (hot_in es t))
    (hot_in es t) found.2
