use Rattle.std.proofs.Common.{Option}
use Rattle.mx_cond.specs.Facts.{told_by}
use Rattle.mx_rule.specs.declared.kind.RulePlace.{RulePlace}
use Rattle.mx_rule.specs.Ruleset.{by_importance, kinds, placed}
use Rattle.mx_rule.proofs.FirstMatchLemmas.{IsFirstOf}
use Rattle.mx_rule.proofs.ruleset.Ruleset.decide.Given as goal

abbrev pub invariant-loop-kind : goal.invariant-loop-kind
invariant-loop-kind l =
    (found : Option RulePlace)
    → IsFirstOf (told_by l.facts) (λ kind. by_importance kind (placed kind l.self)) kinds l.kind-index found
    → IsFirstOf (told_by l.facts) (λ kind. by_importance kind (placed kind l.self)) kinds 0 found
