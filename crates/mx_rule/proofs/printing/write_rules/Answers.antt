use Rattle.std.proofs.Common.{◌∙◌, ◌+◌, ◌++◌, [], codes, drop, arith, ap}
use Rattle.mx_rule.specs.Printed.{printed}
use Rattle.mx_rule.proofs.PrintLemmas.{rules-more, rules-written, rules_text}
use Rattle.mx_rule.proofs.printing.write_rules.Goals as goal

pub loop-rule-preserved : goal.loop-rule-preserved
loop-rule-preserved c =
    let index = c.loop-rule.rule-index in
    ap (λ text. text ++ rules_text (codes ",") (drop (index + 1) c.args.rules.now))
    (c.in_ok-write_rule.ensures
    ∙ ap (λ text. text ++ printed c.rule-item.result) c.in_ok-extend_from_slice.ensures.items)
    ∙ rules-more c.loop-rule.out.items c.loop-rule.separator.now c.args.rules.now index c.rule-item.result (omega arith)
    c.rule-item.is
    ∙ c.loop-rule.invariant

pub returns : goal.returns
returns c =
    c.in_ok-push-2.ensures.items
    ∙ rules-written c.args.out.now.items c.loop-rule.out.items c.loop-rule.separator.now c.args.rules.now
    c.loop-rule.rule-index (omega arith)
    (c.loop-rule.invariant ∙ ap (λ text. text ++ rules_text [] c.args.rules.now) c.in_ok-push.ensures.items)
