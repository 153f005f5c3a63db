use Rattle.std.proofs.Common.{◌≡◌, ◌≤◌, ◌*◌, take, length}
use Rattle.mx_records.specs.Refusing.{most_inputs}
use Rattle.mx_rows.specs.Rows.{with_rows}
use Rattle.mx_engine.specs.Totals.{totals}
use Rattle.mx_engine.proofs.totals.totals.Given as goal

abbrev pub invariant-loop-k : goal.invariant-loop-k
invariant-loop-k g l =
    (l.counts ≡ totals (g.R.Rows.list l.rows) (take l.k (with_rows (g.R.Rows.list l.rows) (g.R.Rows.threads l.rows))))
    × (l.k ≤ length (with_rows (g.R.Rows.list l.rows) (g.R.Rows.threads l.rows)))
    × (l.counts.notify ≤ l.k * most_inputs)
    × (l.counts.highlight ≤ l.k * most_inputs)
