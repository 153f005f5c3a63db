use Rattle.std.proofs.Common.{ap, arith}
use Rattle.mx_rows.specs.declared.counts.Counts.{Counts}
use Rattle.mx_blocks.specs.Block.{packed_rows}
use Rattle.mx_blocks.proofs.ThreadLemmas.{upto_fits}
use Rattle.mx_blocks.proofs.block_list.cut_blocks.Goals as goal

pub plus-requires-clause-notify : goal.plus-requires-clause-notify
plus-requires-clause-notify c =
    let fits = upto_fits c.args.position (packed_rows c.args.blocks.now.items) in
    let part = ap (λ (n : Counts). n.notify) c.cut_first-part.ensures.dropped in
    let whole = c.drop_whole-whole.ensures.notify in
    let few = c.requires.few in
    omega (arith, fits.0)

pub plus-requires-clause-highlight : goal.plus-requires-clause-highlight
plus-requires-clause-highlight c =
    let fits = upto_fits c.args.position (packed_rows c.args.blocks.now.items) in
    let part = ap (λ (n : Counts). n.highlight) c.cut_first-part.ensures.dropped in
    let whole = c.drop_whole-whole.ensures.highlight in
    let few = c.requires.few in
    omega (arith, fits.1)
