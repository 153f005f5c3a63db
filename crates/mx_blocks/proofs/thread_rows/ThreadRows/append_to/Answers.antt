use Rattle.std.proofs.Common.{◌≡◌, ◌+◌, [], ◌∷◌, ◌++◌, take, Result, Ok, Err, OnErr, append-nil, append_assoc, sym, ap}
use Rattle.std.proofs.Common.{◌∙◌, arith}
use Rattle.std.proofs.lemmas.List.{take_more}
use Rattle.mx_blocks.specs.Block.{block_rows, packed_rows}
use Rattle.mx_blocks.proofs.ThreadLemmas.{packed_rows-append}
use Rattle.mx_blocks.proofs.thread_rows.ThreadRows.append_to.Goals as goal

on_err : {T E P : Type 0} (r : Result T E) → P → OnErr r P
on_err (Ok x) p = tt
on_err (Err e) p = p

pub returns-in_err-rows_into-clause-err : goal.returns-in_err-rows_into-clause-err
returns-in_err-rows_into-clause-err c =
    let more = c.in_err-rows_into.ensures.err in
    let old = c.args.out.now.items in
    let packed = packed_rows (take c.loop-k.k c.args.self.now.blocks.items) in
    on_err c.from_residual.result
    (packed ++ more.0, more.1 ∙ ap (λ l. l ++ more.0) c.loop-k.invariant ∙ append_assoc old packed more.0)

pub loop-k-preserved : goal.loop-k-preserved
loop-k-preserved c =
    let old = c.args.out.now.items in
    let blocks = c.args.self.now.blocks.items in
    let b = c.index.result.now in
    let h = c.index.ensures in
    let step : take (c.loop-k.k + 1) blocks ≡ take c.loop-k.k blocks ++ b ∷ []
    = take_more blocks c.loop-k.k b (omega arith) ∙ ap (λ x. take c.loop-k.k blocks ++ x ∷ []) (sym h) in
    c.in_ok-rows_into.ensures.ok ∙ ap (λ l. l ++ block_rows b) c.loop-k.invariant
    ∙ append_assoc old (packed_rows (take c.loop-k.k blocks)) (block_rows b)
    ∙ ap (λ l. old ++ l) (ap (λ l. packed_rows (take c.loop-k.k blocks) ++ l) (sym (append-nil (block_rows b)))
    ∙ sym (packed_rows-append (take c.loop-k.k blocks) (b ∷ [])) ∙ ap packed_rows (sym step))
