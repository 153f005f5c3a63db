use Rattle.std.proofs.Common.{◌≡◌, None, MatchResult, subst, ap, ◌∙◌}
use Rattle.mx_edit.specs.Planning.{Tells}
use Rattle.mx_rule.specs.Editing.{refusal_of_edit}
use Rattle.mx_rule.specs.Ruleset.{PushRuleset}
use Rattle.mx_engine.specs.KeptRules.{RulesView}
use Rattle.mx_engine.proofs.RulesLemmas.{rules_among-made}
use Rattle.mx_engine.proofs.rules.UserRules.plan.Goals as goal

pub returns-clause-refused : goal.returns-clause-refused
returns-clause-refused c =
    let view = c.args.self.now in
    let name = c.as_str.result.now in
    let named : name ≡ view.server
    = c.as_str.ensures.value ∙ ap (λ (view : RulesView). view.server) c.self.view_is in
    subst (λ (rules : PushRuleset). MatchResult c.prepare-2.result (λ _. refusal_of_edit rules c.args.edit.now ≡ None)
    (Tells (refusal_of_edit rules c.args.edit.now)))
    (rules_among-made view.server view.edited c.args.user.now name c.in_ok-rules.rules c.kept.result named
    c.in_ok-rules.ensures c.in_default.is c.kept.ensures)
    c.prepare-2.ensures.refused
