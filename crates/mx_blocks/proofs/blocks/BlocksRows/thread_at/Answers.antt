use Rattle.std.proofs.Common.{◌≡◌, Some, None, true, false, option_map, sym, ◌∙◌, ap}
use Rattle.std.proofs.lemmas.Bool.{cond-false, cond-true}
use Rattle.mx_rows.specs.declared.thread_key.ThreadKey.{ThreadKey}
use Rattle.mx_blocks.specs.Entries.{thread_rows}
use Rattle.mx_blocks.specs.declared.thread_rows.ThreadRows.{ThreadRows}
use Rattle.mx_rows.specs.Rows.{has_rows}
use Rattle.mx_blocks.proofs.OrderLemmas.{if_it_has_rows, slice_get-with_rows}
use Rattle.mx_blocks.proofs.blocks.BlocksRows.thread_at.Goals as goal

pub returns-then-has_rows : goal.returns-then-has_rows
returns-then-has_rows c =
    let self = c.args.self.now in
    let e : ThreadKey × ThreadRows = (c.in-Some.thread.now, c.in-Some.kept.now) in
    let some : has_rows (thread_rows e.1) ≡ true = sym c.has_rows.ensures ∙ c.if-has_rows.true in
    sym (slice_get-with_rows self.threads.entries c.args.k self.once self.order
    ∙ ap (λ o. option_map (λ (x : ThreadKey × ThreadRows). x.0) (if_it_has_rows o)) (sym c.in-Some.ensures.entry)
    ∙ ap (option_map (λ (x : ThreadKey × ThreadRows). x.0)) (cond-true (has_rows (thread_rows e.1)) (Some e) None some))

pub returns-else-has_rows : goal.returns-else-has_rows
returns-else-has_rows c =
    let self = c.args.self.now in
    let e : ThreadKey × ThreadRows = (c.in-Some.thread.now, c.in-Some.kept.now) in
    let none : has_rows (thread_rows e.1) ≡ false = sym c.has_rows.ensures ∙ c.if-has_rows.false in
    sym (slice_get-with_rows self.threads.entries c.args.k self.once self.order
    ∙ ap (λ o. option_map (λ (x : ThreadKey × ThreadRows). x.0) (if_it_has_rows o)) (sym c.in-Some.ensures.entry)
    ∙ ap (option_map (λ (x : ThreadKey × ThreadRows). x.0))
    (cond-false (has_rows (thread_rows e.1)) (Some e) None none))

pub returns-in-None : goal.returns-in-None
returns-in-None c =
    let self = c.args.self.now in
    sym (slice_get-with_rows self.threads.entries c.args.k self.once self.order
    ∙ ap (λ o. option_map (λ (x : ThreadKey × ThreadRows). x.0) (if_it_has_rows o)) (sym c.in-None.ensures.entry))
