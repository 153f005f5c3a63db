use Rattle.std.proofs.Common.{◌≡◌, ◌↔◌, IfOk, IsTrue, true, false, sym, ◌∙◌, subst, true≢false, rules}
use Rattle.mx_cond.specs.Facts.{told_by}
use Rattle.mx_rule.specs.Rule.{PushRule, is_passed_over, MayDecide}
use Rattle.mx_rule.proofs.RuleLemmas.{MayDecide-exact, MayDecide-met, MayDecide-never}
use Rattle.mx_rule.proofs.rule.Rule.may_decide.Goals as goal
use Rattle.mx_rule.proofs.rule.Rule.may_decide.Goals.{then-not-self-via-then-not-self}
use Rattle.mx_rule.proofs.rule.Rule.may_decide.Goals.{then-not-self-via-else-not-self+then-is_passed_over}

pub returns-then-not-self-clause-exact : goal.returns-then-not-self-clause-exact
returns-then-not-self-clause-exact c =
    let fields = c.self.inside in
    let rule : PushRule = record {
      id = fields.id;
      predefined = fields.predefined;
      enabled = fields.enabled;
      actions = fields.actions;
      criterion = fields.criterion;
    } in
    let facts = told_by c.args.facts.now in
    let never : ¬ MayDecide rule facts = λ may.
    elim c.then-not-self.branch [
      | then-not-self-via-then-not-self w ↦
          let disabled : fields.enabled ≡ false = search rules in
          true≢false (sym may.0 ∙ disabled)
      | then-not-self-via-else-not-self+then-is_passed_over w ↦
          let passed_over : is_passed_over fields.id facts.event ≡ true = search rules in
          true≢false (sym passed_over ∙ may.1.0)
    ] in
    MayDecide-never c.args.self.now facts (subst (λ (r : PushRule). ¬ MayDecide r facts) c.self.view_is never)

pub returns-clause-meaning : goal.returns-clause-meaning
returns-clause-meaning c =
    let fields = c.self.inside in
    let rule : PushRule = record {
      id = fields.id;
      predefined = fields.predefined;
      enabled = fields.enabled;
      actions = fields.actions;
      criterion = fields.criterion;
    } in
    let facts = told_by c.args.facts.now in
    let P : PushRule → Type 0 = λ rule. IfOk c.is_met.result (λ may. IsTrue may ↔ MayDecide rule facts) in
    let enabled : fields.enabled ≡ true = search rules in
    let tried : is_passed_over fields.id facts.event ≡ false = search rules in
    subst P c.self.view_is
    (MayDecide-met rule facts c.is_met.result enabled tried (rw c.as_str.ensures at c.is_met.ensures))

pub returns-clause-exact : goal.returns-clause-exact
returns-clause-exact c =
    MayDecide-exact c.args.self.now (told_by c.args.facts.now) c.is_met.result (returns-clause-meaning c)
