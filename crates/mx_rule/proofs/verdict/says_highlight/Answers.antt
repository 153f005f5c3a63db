use Rattle.std.proofs.Common.{arith, ap₂, sym, ◌∙◌}
use Rattle.std.specs.Option.{option_or}
use Rattle.mx_rule.specs.Actions.{highlight_in}
use Rattle.mx_rule.proofs.ActionLemmas.{last_said-more}
use Rattle.mx_rule.proofs.verdict.says_highlight.Goals as goal

pub loop-action-preserved : goal.loop-action-preserved
loop-action-preserved c =
    let more = last_said-more highlight_in c.args.actions.now c.loop-action.action-index c.action-item.result
    (omega arith) c.action-item.is in
    c.or-said.ensures ∙ ap₂ option_or c.highlight_in.ensures c.loop-action.invariant ∙ sym more
