use Rattle.std.proofs.Common.{length, ap, ◌∙◌, arith}
use Rattle.mx_blocks.specs.Differences.{differences}
use Rattle.mx_blocks.proofs.BlockLemmas.{length-positions}
use Rattle.mx_blocks.proofs.block.Block.differences.Goals as goal

pub returns-clause-count : goal.returns-clause-count
returns-clause-count c =
    let count = c.self.invariant.count in
    let long = length-positions c.self.inside.first (differences c.self.inside.packed.items) in
    ap (λ l. length (differences l)) c.deref.ensures.value ∙ omega arith
