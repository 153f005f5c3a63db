use Rattle.std.proofs.Common.{false, arith}
use Rattle.mx_rows.specs.declared.row.Row.{Row}
use Rattle.mx_blocks.proofs.PackLemmas.{PacksOn-first, PacksOn-more, rising_before}
use Rattle.mx_blocks.proofs.packing.packed_differences.Goals as goal

abbrev none : Row
none = record { position = 0; highlight = false }

pub loop-i-init : goal.loop-i-init
loop-i-init c = PacksOn-first c.args.rows.now _ c.requires.some c.new-packed.ensures.items

pub overflow_sub-rows : goal.overflow_sub-rows
overflow_sub-rows c =
    let over = rising_before c.args.rows.now c.loop-i.i none c.requires.rising (omega arith) (omega arith) in
    omega arith

pub loop-i-preserved : goal.loop-i-preserved
loop-i-preserved c =
    PacksOn-more c.args.rows.now c.loop-i.packed.items _ c.loop-i.i none c.loop-i.invariant c.requires.rising
    (omega arith) (omega arith) c.in_ok-push_difference.ensures.packed c.in_ok-push_difference.ensures.reads
