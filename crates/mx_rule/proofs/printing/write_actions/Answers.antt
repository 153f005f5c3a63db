use Rattle.std.proofs.Common.{◌∙◌, ◌+◌, ◌++◌, [], codes, drop, arith, ap}
use Rattle.mx_json.specs.Canonical.{canonical}
use Rattle.mx_rule.specs.Printed.{separated}
use Rattle.mx_rule.proofs.PrintLemmas.{separated-more, separated-written}
use Rattle.mx_rule.proofs.printing.write_actions.Goals as goal

pub loop-action-preserved : goal.loop-action-preserved
loop-action-preserved c =
    ap (λ text. text ++ separated (codes ",") (drop (c.loop-action.action-index + 1) c.args.actions.now))
    (c.in_ok-canonical_into.ensures.ok
    ∙ ap (λ text. text ++ canonical c.action-item.result) c.in_ok-extend_from_slice.ensures.items)
    ∙ separated-more c.loop-action.out.items c.loop-action.separator.now c.args.actions.now c.loop-action.action-index
    c.action-item.result (omega arith) c.action-item.is
    ∙ c.loop-action.invariant

pub returns : goal.returns
returns c =
    c.in_ok-push-2.ensures.items
    ∙ separated-written c.args.out.now.items c.loop-action.out.items c.loop-action.separator.now c.args.actions.now
    c.loop-action.action-index (omega arith)
    (c.loop-action.invariant ∙ ap (λ text. text ++ separated [] c.args.actions.now) c.in_ok-push.ensures.items)
