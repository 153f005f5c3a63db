use Rattle.std.proofs.Common.{◌≡◌, ◌++◌, take}
use Rattle.mx_blocks.specs.Block.{packed_rows}
use Rattle.mx_blocks.proofs.thread_rows.ThreadRows.append_to.Given as goal

abbrev pub invariant-loop-k : goal.invariant-loop-k
invariant-loop-k l = l.out.items ≡ l.fn.out.items ++ packed_rows (take l.k l.self.blocks.items)
