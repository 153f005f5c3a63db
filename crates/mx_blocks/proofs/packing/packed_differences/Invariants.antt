use Rattle.mx_blocks.proofs.PackLemmas.{PacksOn}
use Rattle.mx_blocks.proofs.packing.packed_differences.Given as goal

abbrev pub invariant-loop-i : goal.invariant-loop-i
invariant-loop-i l = PacksOn l.rows l.packed.items l.i
