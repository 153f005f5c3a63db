use Rattle.std.proofs.Common.{sym, ap, arith}
use Rattle.mx_rows.specs.Rows.{counts_in}
use Rattle.mx_rows.proofs.CutLemmas.{above-all, all_above_start, upto-none}
use Rattle.mx_blocks.specs.Block.{block_rows}
use Rattle.mx_blocks.proofs.block_list.cut_block.Goals as goal

pub returns-then-from-start-clause-rows : goal.returns-then-from-start-clause-rows
returns-then-from-start-clause-rows c =
    let rows = block_rows c.args.block.now in
    let starts = c.start.ensures in let at = c.from.ensures in let over = c.if-from-start.true in
    sym (above-all c.args.position rows (all_above_start c.args.position rows c.requires (omega arith)))

pub returns-then-from-start-clause-dropped : goal.returns-then-from-start-clause-dropped
returns-then-from-start-clause-dropped c =
    let rows = block_rows c.args.block.now in
    let starts = c.start.ensures in let at = c.from.ensures in let over = c.if-from-start.true in
    ap counts_in (sym (upto-none c.args.position rows (all_above_start c.args.position rows c.requires (omega arith))))
