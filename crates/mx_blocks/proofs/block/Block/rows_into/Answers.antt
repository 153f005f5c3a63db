use Rattle.std.proofs.Common.{length, ap, arith}
use Rattle.mx_blocks.specs.Differences.{differences, total}
use Rattle.mx_blocks.proofs.BlockLemmas.{length-positions}
use Rattle.mx_blocks.proofs.block.Block.rows_into.Goals as goal

pub unpack-requires-clause-small : goal.unpack-requires-clause-small
unpack-requires-clause-small c =
    let sum = ap (λ l. total (differences l)) c.deref.ensures.value in
    let last = c.self.invariant.last in
    let small = c.self.invariant.small in
    omega arith

pub unpack-requires-clause-few : goal.unpack-requires-clause-few
unpack-requires-clause-few c =
    let same = ap (λ l. length (differences l)) c.deref.ensures.value in
    let count = c.self.invariant.count in
    let long = length-positions c.self.inside.first (differences c.self.inside.packed.items) in
    omega arith
