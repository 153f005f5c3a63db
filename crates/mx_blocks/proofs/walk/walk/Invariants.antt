use Rattle.std.proofs.Common.{◌-◌, length}
use Rattle.mx_blocks.proofs.BlockLemmas.{WalksOn}
use Rattle.mx_blocks.proofs.walk.walk.Given as goal

abbrev pub invariant-loop-last : goal.invariant-loop-last
invariant-loop-last l = WalksOn l.first l.packed l.position l.last l.passed l.at

abbrev pub decreases-loop-last : goal.decreases-loop-last
decreases-loop-last l = length l.packed - l.at
