use Rattle.std.proofs.Common.{◌%◌, ◌+◌, [], ◌∷◌, ◌++◌, append_assoc, sym, subst, ap, ◌∙◌, arith}
use Rattle.mx_blocks.specs.Differences.{differences, IsPacked}
use Rattle.mx_blocks.proofs.DifferenceLemmas.{difference_last, difference_more, differences-append, IsPacked-append}
use Rattle.mx_blocks.proofs.difference.push_difference.Goals as goal

pub loop-rest-preserved : goal.loop-rest-preserved
loop-rest-preserved c = λ tail is.
    let byte = c.loop-rest.rest % 128 + 128 in
    let before = c.loop-rest.invariant (byte ∷ tail) (difference_more tail c.loop-rest.rest (omega arith) is) in (
      before.0,
      ap (λ l. l ++ tail) c.in_ok-push.ensures.items ∙ append_assoc c.loop-rest.out.items (byte ∷ []) tail
          ∙ before.1,
      before.2,
    )

pub returns-clause-packed : goal.returns-clause-packed
returns-clause-packed c =
    let all = c.loop-rest.invariant (c.loop-rest.rest ∷ []) (difference_last c.loop-rest.rest (omega arith)) in
    subst IsPacked (sym (c.in_ok-push-2.ensures.items ∙ all.1))
    (IsPacked-append c.args.out.now.items all.0 c.requires all.2.packed)

pub returns-clause-reads : goal.returns-clause-reads
returns-clause-reads c =
    let all = c.loop-rest.invariant (c.loop-rest.rest ∷ []) (difference_last c.loop-rest.rest (omega arith)) in
    ap differences (c.in_ok-push-2.ensures.items ∙ all.1)
    ∙ differences-append c.args.out.now.items all.0 c.requires
    ∙ ap (λ l. differences c.args.out.now.items ++ l) all.2.reads
