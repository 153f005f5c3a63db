use Rattle.std.proofs.Common.{◌-◌, length}
use Rattle.mx_blocks.proofs.UnpackLemmas.{UnpacksOn}
use Rattle.mx_blocks.proofs.unpacking.unpack.Given as goal

abbrev pub invariant-loop-at : goal.invariant-loop-at
invariant-loop-at l = UnpacksOn l.first l.packed l.marks l.gone l.fn.out.items l.out.items l.position l.row l.at

abbrev pub decreases-loop-at : goal.decreases-loop-at
decreases-loop-at l = length l.packed - l.at
