use Rattle.std.proofs.Common.{◌≤◌, All}
use Rattle.mx_rows.specs.declared.row.Row.{Row}
use Rattle.mx_rows.specs.declared.thread_key.ThreadKey.TheVariants.{Main}
use Rattle.mx_blocks.specs.Lists.{list_of}
use Rattle.blocks_bench.proofs.fill.Given as goal

abbrev pub invariant-loop-row : goal.invariant-loop-row
invariant-loop-row l = All (λ (row : Row). row.position ≤ l.last) (list_of l.rows Main)
