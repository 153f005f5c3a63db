use Rattle.std.proofs.Common.{sym, ◌∙◌}
use Rattle.mx_rows.proofs.RowLemmas.{counts_in-upto}
use Rattle.mx_blocks.proofs.counting.counts_upto.Goals as goal

pub returns : goal.returns
returns c = (λ i. record { notify = c.rows_upto.ensures i; highlight = c.highlights_upto.ensures i })
    ∙ sym (counts_in-upto c.args.position c.args.rows.now)
