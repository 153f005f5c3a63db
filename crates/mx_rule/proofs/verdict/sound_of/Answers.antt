use Rattle.std.proofs.Common.{option_map, arith, ap, ap₂, sym, ◌∙◌}
use Rattle.std.specs.Option.{option_copied, option_or}
use Rattle.mx_rule.specs.Actions.{sound_in}
use Rattle.mx_rule.proofs.ActionLemmas.{last_said-more, option_map-option_or}
use Rattle.mx_rule.proofs.verdict.sound_of.Goals as goal

pub loop-action-preserved : goal.loop-action-preserved
loop-action-preserved c =
    let more = last_said-more sound_in c.args.actions.now c.loop-action.action-index c.action-item.result
    (omega arith) c.action-item.is in
    ap (option_map option_copied) c.or-said.ensures
    ∙ option_map-option_or option_copied c.sound_in.result c.loop-action.said
    ∙ ap₂ option_or c.sound_in.ensures c.loop-action.invariant
    ∙ sym more
