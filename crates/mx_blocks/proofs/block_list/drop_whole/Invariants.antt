use Rattle.std.proofs.Common.{length}
use Rattle.mx_blocks.proofs.ThreadLemmas.{DropsOn}
use Rattle.mx_blocks.proofs.block_list.drop_whole.Given as goal

abbrev pub invariant-loop-blocks : goal.invariant-loop-blocks
invariant-loop-blocks l = DropsOn l.position l.fn.blocks.items l.blocks.items l.dropped

abbrev pub decreases-loop-blocks : goal.decreases-loop-blocks
decreases-loop-blocks l = length l.blocks.items
