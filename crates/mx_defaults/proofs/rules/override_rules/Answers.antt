use Rattle.std.proofs.Common.{◌≡◌, ◌∙◌}
use Rattle.std.proofs.lemmas.Result.{IfOk-weaker}
use Rattle.mx_rule.specs.Predefined.{override_table}
use Rattle.mx_defaults.proofs.rules.override_rules.Goals as goal

pub returns : goal.returns
returns c =
    IfOk-weaker c.of.result (λ rules. rules ≡ c.in_ok-rules_of.field-0.items)
    (λ rules. rules ≡ override_table c.args.owner.now) (λ rules is. is ∙ c.in_ok-rules_of.ensures) c.of.ensures
