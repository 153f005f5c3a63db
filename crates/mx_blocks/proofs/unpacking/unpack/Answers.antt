use Rattle.std.proofs.Common.{◌≡◌, ◌-◌, [], ◌∷◌, ◌++◌, drop, length, append_assoc, sym, ap, ◌∙◌, arith}
use Rattle.std.proofs.Math.Seq.{drop-length}
use Rattle.mx_blocks.specs.Block.{rows_from}
use Rattle.mx_blocks.specs.Differences.{differences, positions}
use Rattle.mx_blocks.specs.Walk.{rows_left}
use Rattle.mx_blocks.proofs.UnpackLemmas.{rows_left-from}
use Rattle.mx_blocks.proofs.unpacking.unpack.Goals as goal

pub returns-clause-ok : goal.returns-clause-ok
unfolding differences
returns-clause-ok c =
    let before = c.loop-at.invariant in
    let m = c.args.marks.now in
    let g = c.args.gone in
    let old = c.args.out.now.items in
    let all = positions c.args.first (differences c.args.packed.now) in
    let end : c.loop-at.at ≡ length c.args.packed.now = let within = before.within in omega arith in
    let none : drop c.loop-at.at c.args.packed.now ≡ []
    = ap (λ n. drop n c.args.packed.now) end ∙ drop-length c.args.packed.now in
    let whole : g - 0 ≡ g = omega arith in
    c.in_ok-push_left-2.ensures.ok
    ∙ ap (λ l. l ++ rows_left m g c.loop-at.row (c.loop-at.position ∷ [])) before.begins
    ∙ append_assoc old before.done (rows_left m g c.loop-at.row (c.loop-at.position ∷ []))
    ∙ ap (λ l. old ++ l)
    (ap (λ l. before.done ++ rows_left m g c.loop-at.row (positions c.loop-at.position (differences l))) (sym none)
    ∙ before.parts ∙ rows_left-from m g 0 all (omega arith) ∙ ap (λ n. rows_from m g (drop n all)) whole)
