use Rattle.std.proofs.Common.{◌≡◌, ◌≤◌, ◌∙◌, ap, subst, sym, take, arith}
use Rattle.mx_rows.specs.declared.counts.Counts.{Counts}
use Rattle.mx_rows.specs.Rows.{with_rows}
use Rattle.mx_records.specs.Refusing.{most_inputs}
use Rattle.mx_engine.specs.Totals.{totals}
use Rattle.mx_engine.proofs.TotalsLemmas.{highlight-few, one-more, totals-ended, totals-more, within-more}
use Rattle.mx_engine.proofs.totals.totals.Goals as goal

pub returns-in_default : goal.returns-in_default
returns-in_default g c =
    let list = g.R.Rows.list c.args.rows.now in
    let threads = with_rows list (g.R.Rows.threads c.args.rows.now) in
    totals-ended list threads c.loop-k.k c.loop-k.counts c.loop-k.invariant.0 c.in_default.ensures (omega arith)

pub loop-k-preserved : goal.loop-k-preserved
loop-k-preserved g c =
    let list = g.R.Rows.list c.args.rows.now in
    let threads = with_rows list (g.R.Rows.threads c.args.rows.now) in
    let t = c.in-Some.thread.now in
    let few = c.requires t in (
      totals-more list threads c.loop-k.k t c.in-Some.ensures c.loop-k.counts c.counts.result c.sum-counts.result
          c.loop-k.invariant.0 c.counts.ensures c.sum-counts.ensures.notify c.sum-counts.ensures.highlight,
      one-more list threads c.loop-k.k t c.in-Some.ensures,
      within-more c.loop-k.k c.loop-k.counts.notify c.counts.result.notify c.sum-counts.result.notify
          c.loop-k.invariant.2
          (subst (λ (counts : Counts). counts.notify ≤ most_inputs) (sym c.counts.ensures) few)
          c.sum-counts.ensures.notify,
      within-more c.loop-k.k c.loop-k.counts.highlight c.counts.result.highlight c.sum-counts.result.highlight
          c.loop-k.invariant.3
          (subst (λ (counts : Counts). counts.highlight ≤ most_inputs) (sym c.counts.ensures)
          (highlight-few (list t) few))
          c.sum-counts.ensures.highlight,
    )

pub returns : goal.returns
returns g c =
    let list = g.R.Rows.list c.args.rows.now in
    let threads = with_rows list (g.R.Rows.threads c.args.rows.now) in
    let ended : c.loop-k.k ≡ most_inputs = omega arith in
    c.loop-k.invariant.0 ∙ ap (λ k. totals list (take k threads)) ended
