use Rattle.std.proofs.Common.{List, arith}
use Rattle.mx_cond.specs.Facts.{told_by}
use Rattle.mx_rule.specs.declared.kind.Kind.{Kind}
use Rattle.mx_rule.specs.Ruleset.{Placed, by_importance, flat, kinds, placed}
use Rattle.mx_rule.proofs.FirstMatchLemmas.{IsFirstOf-found, IsFirstOf-passed}
use Rattle.mx_rule.proofs.ruleset.Ruleset.decide.Goals as goal

pub returns-in-Some : goal.returns-in-Some
unfolding flat
returns-in-Some c =
    let rules_of : Kind → List Placed = λ kind. by_importance kind (placed kind c.args.self.now) in
    let found = rw c.in-Some.is at c.in_ok-place.ensures in
    c.loop-kind.invariant _ (IsFirstOf-found (told_by c.args.facts.now) rules_of kinds c.loop-kind.kind-index _
    (omega arith) c.in-Some.place found)

pub loop-kind-preserved : goal.loop-kind-preserved
loop-kind-preserved c = λ found later.
    let rules_of : Kind → List Placed = λ kind. by_importance kind (placed kind c.args.self.now) in
    let none = rw c.in_default.is at c.in_ok-place.ensures in
    c.loop-kind.invariant found
    (IsFirstOf-passed (told_by c.args.facts.now) rules_of kinds c.loop-kind.kind-index _ (omega arith) none found later)
