use Rattle.std.proofs.Common.{◌≡◌, List, ◌++◌}
use Rattle.mx_blocks.proofs.DifferenceLemmas.{IsDifference}
use Rattle.mx_blocks.proofs.difference.push_difference.Given as goal

abbrev pub invariant-loop-rest : goal.invariant-loop-rest
invariant-loop-rest l =
    (tail : List _) → IsDifference tail l.rest
    → (bytes : List _) × (l.out.items ++ tail ≡ l.fn.out.items ++ bytes) × IsDifference bytes l.difference

abbrev pub decreases-loop-rest : goal.decreases-loop-rest
decreases-loop-rest l = l.rest
