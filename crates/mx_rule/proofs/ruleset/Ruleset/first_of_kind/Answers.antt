use Rattle.std.proofs.Common.{arith}
use Rattle.mx_cond.specs.Facts.{told_by}
use Rattle.mx_rule.specs.Rule.{MayDecide}
use Rattle.mx_rule.proofs.FirstMatchLemmas.{IsFirstFrom-found, IsFirstFrom-over, IsFirstFrom-passed}
use Rattle.mx_rule.proofs.OrderLemmas.{by_importance-placed}
use Rattle.mx_rule.proofs.ruleset.Ruleset.first_of_kind.Goals as goal

pub returns-then-branch : goal.returns-then-branch
returns-then-branch c =
    let facts = told_by c.args.facts.now in
    let rules = c.rules-rule-items.result.now in
    let may : MayDecide c.rule-item.result facts = c.in_ok-may_decide.ensures.meaning.0 c.if-branch.true in
    let found = c.loop-index.invariant _ (IsFirstFrom-found facts c.args.kind rules c.loop-index.index
    c.rule-item.result (omega arith) c.rule-item.is may) in
    rw (
      ← c.rules-rule-items.ensures.rules,
      by_importance-placed c.args.kind rules c.rules-rule-items.ensures.ordered,
    ) found

pub loop-index-preserved : goal.loop-index-preserved
loop-index-preserved c = λ found later.
    let facts = told_by c.args.facts.now in
    let not : ¬ MayDecide c.rule-item.result facts = λ may. let e = c.in_ok-may_decide.ensures.meaning.1 may in
    let f = c.if-branch.false in cc in
    c.loop-index.invariant found
    (IsFirstFrom-passed facts c.args.kind c.rules-rule-items.result.now c.loop-index.index c.rule-item.result
    (omega arith) c.rule-item.is not found later)

pub returns : goal.returns
returns c =
    let facts = told_by c.args.facts.now in
    let rules = c.rules-rule-items.result.now in
    let none = c.loop-index.invariant _ (IsFirstFrom-over facts c.args.kind rules c.loop-index.index (omega arith)) in
    rw (
      ← c.rules-rule-items.ensures.rules,
      by_importance-placed c.args.kind rules c.rules-rule-items.ensures.ordered,
    ) none
