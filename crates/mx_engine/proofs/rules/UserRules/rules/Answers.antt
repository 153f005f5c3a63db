use Rattle.std.proofs.Common.{option_and_then, sym, ap, ◌∙◌}
use Rattle.std.specs.FinMap.{get}
use Rattle.std.specs.String.{string_bytes}
use Rattle.mx_engine.specs.KeptRules.{RulesView, shown_rules}
use Rattle.mx_engine.proofs.RulesLemmas.{get-shown}
use Rattle.mx_engine.proofs.rules.UserRules.rules.Goals as goal

pub returns-in-Some : goal.returns-in-Some
returns-in-Some c =
    c.edited.ensures ∙ ap (option_and_then shown_rules) c.in-Some.ensures.value
    ∙ sym (get-shown (string_bytes c.self.inside.server) c.self.inside.kept.entries c.args.user.now c.self.invariant)
    ∙ ap (λ (view : RulesView). get view.edited c.args.user.now) c.self.view_is

pub returns-in-None : goal.returns-in-None
returns-in-None c =
    ap (option_and_then shown_rules) c.in-None.ensures.value
    ∙ sym (get-shown (string_bytes c.self.inside.server) c.self.inside.kept.entries c.args.user.now c.self.invariant)
    ∙ ap (λ (view : RulesView). get view.edited c.args.user.now) c.self.view_is
