-- Counts of several threads together; for private clauses.
use Rattle.std.specs.Prelude.{ℕ, List}
use Rattle.std.specs.List.{sum_by}
use Rattle.mx_rows.specs.declared.counts.Counts.{Counts}
use Rattle.mx_rows.specs.declared.row.Row.{Row}
use Rattle.mx_rows.specs.declared.thread_key.ThreadKey.{ThreadKey}
use Rattle.mx_rows.specs.Rows.{counts_in}

-- the counts of the rows of these threads, added up
abbrev pub totals : (ThreadKey → List Row) → List ThreadKey → Counts
totals list threads = record {
  notify = sum_by (λ thread. (counts_in (list thread)).notify) threads;
  highlight = sum_by (λ thread. (counts_in (list thread)).highlight) threads;
}
