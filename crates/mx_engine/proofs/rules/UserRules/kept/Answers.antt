use Rattle.std.proofs.Common.{sym, ap, ◌∙◌}
use Rattle.std.specs.String.{string_bytes}
use Rattle.mx_rule.specs.Predefined.{predefined_rules}
use Rattle.mx_records.specs.Rules.{rules_among}
use Rattle.mx_engine.specs.KeptRules.{RulesView}
use Rattle.mx_engine.proofs.RulesLemmas.{rules_among-found, rules_among-none}
use Rattle.mx_engine.proofs.rules.UserRules.kept.Goals as goal

pub returns-in-Some : goal.returns-in-Some
returns-in-Some c =
    ap (λ (view : RulesView). rules_among view.server view.edited c.args.user.now) (sym c.self.view_is)
    ∙ rules_among-found (string_bytes c.self.inside.server) c.self.inside.kept.entries c.args.user.now
    c.in-Some.kept.now c.self.invariant (sym c.in-Some.ensures.value)

pub returns-in-None : goal.returns-in-None
returns-in-None c =
    ap (λ (view : RulesView). rules_among view.server view.edited c.args.user.now) (sym c.self.view_is)
    ∙ rules_among-none (string_bytes c.self.inside.server) c.self.inside.kept.entries c.args.user.now
    c.self.invariant (sym c.in-None.ensures.value)
    ∙ ap (λ (view : RulesView). predefined_rules view.server c.args.user.now) c.self.view_is
