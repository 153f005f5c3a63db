-- Each turn marks one more.
use Rattle.std.proofs.Common.{◌∙◌, arith}
use Rattle.mx_outside.proofs.Marks.{marked_over, marked_end}
use Rattle.mx_outside.proofs.memory.disk_image.mark.Goals as goal
use Rattle.mx_outside.proofs.memory.disk_image.mark.Goals.{then-index-len, else-index-len}

pub loop-index-preserved : goal.loop-index-preserved
loop-index-preserved c =
    let at = c.args.at in
    let index = c.loop-index.index in
    let first = c.args.marks.now.items in
    let marks = c.loop-index.marks.items in
    elim c.if-index-len.branch [
      | then-index-len w ↦ rw w.marks-is (
        marked_over at index first marks (omega arith) (omega arith)
            c.loop-index.invariant.0 (omega arith),
        omega arith,
      )
      | else-index-len w ↦
          rw w.marks-is (
            w.push_reserved.ensures.items
                ∙ marked_end at index first marks (omega arith) (omega arith) c.loop-index.invariant.0 (omega arith),
            omega arith,
          )
    ]
