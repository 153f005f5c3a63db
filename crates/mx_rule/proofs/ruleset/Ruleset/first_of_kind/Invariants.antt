use Rattle.std.proofs.Common.{Option}
use Rattle.mx_cond.specs.Facts.{told_by}
use Rattle.mx_rule.specs.declared.kind.RulePlace.{RulePlace}
use Rattle.mx_rule.proofs.FirstMatchLemmas.{IsFirstFrom}
use Rattle.mx_rule.proofs.ruleset.Ruleset.first_of_kind.Given as goal

abbrev pub invariant-loop-index : goal.invariant-loop-index
invariant-loop-index l =
    (found : Option RulePlace) → IsFirstFrom (told_by l.facts) l.kind l.rule-items l.index found
    → IsFirstFrom (told_by l.facts) l.kind l.rule-items 0 found
