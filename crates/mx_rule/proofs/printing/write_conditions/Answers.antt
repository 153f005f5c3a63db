use Rattle.std.proofs.Common.{◌∙◌, ◌+◌, ◌++◌, [], codes, drop, arith, ap}
use Rattle.mx_json.specs.Canonical.{canonical}
use Rattle.mx_rule.specs.Printed.{separated}
use Rattle.mx_rule.proofs.PrintLemmas.{separated-more, separated-written}
use Rattle.mx_rule.proofs.printing.write_conditions.Goals as goal

pub loop-condition-preserved : goal.loop-condition-preserved
loop-condition-preserved c =
    ap (λ text. text ++ separated (codes ",") (drop (c.loop-condition.condition-index + 1) c.args.conditions.now))
    (c.in_ok-canonical_into.ensures.ok
    ∙ (λ j. c.in_ok-extend_from_slice.ensures.items j ++ canonical (c.json.ensures.whole j)))
    ∙ separated-more c.loop-condition.out.items c.loop-condition.separator.now c.args.conditions.now
    c.loop-condition.condition-index c.condition-item.result (omega arith) c.condition-item.is
    ∙ c.loop-condition.invariant

pub returns : goal.returns
returns c =
    c.in_ok-push-2.ensures.items
    ∙ separated-written c.args.out.now.items c.loop-condition.out.items c.loop-condition.separator.now
    c.args.conditions.now c.loop-condition.condition-index (omega arith)
    (c.loop-condition.invariant ∙ ap (λ text. text ++ separated [] c.args.conditions.now) c.in_ok-push.ensures.items)
