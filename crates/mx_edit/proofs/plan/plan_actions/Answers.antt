use Rattle.std.proofs.Common.{◌∙◌, ap, sym}
use Rattle.std.proofs.lemmas.Result.{err_from_is_err_and}
use Rattle.mx_json.specs.declared.value.JsonList.{JsonList}
use Rattle.mx_rule.specs.declared.edit.Edit.TheVariants as edit
use Rattle.mx_rule.specs.declared.list_change.ListChange.TheVariants as change
use Rattle.mx_rule.specs.Editing.{changed_at, refusal_of_absence, with_actions}
use Rattle.mx_rule.specs.Ruleset.{rules_of_kind}
use Rattle.mx_rule.proofs.ChangeLemmas.{changed-by_place}
use Rattle.mx_rule.proofs.EditLemmas.{AreRules-from}
use Rattle.mx_edit.specs.Planning.{refusal_of_actions}
use Rattle.mx_edit.proofs.PlanLemmas.{passed-first, refusal-SetActions, told, told-first, told-same, tries-told}
use Rattle.mx_edit.proofs.PlanLemmas.{IsPlanOf-by}
use Rattle.mx_edit.proofs.plan.plan_actions.Goals as goal

pub returns-in_err-check_actions : goal.returns-in_err-check_actions
returns-in_err-check_actions c =
    let rules = c.args.rules.now in
    let p = err_from_is_err_and c.from_residual.result c.from_residual.ensures.1 in
    let steps = refusal-SetActions rules c.args.kind c.args.id.now c.args.actions.now in
    tries-told _ _ c.from_residual.result p.0 p.1
    (told-same _ _ p.0 steps (told-first (refusal_of_actions c.args.actions.now.items)
    (refusal_of_absence c.args.kind c.args.id.now rules) p.0 (told _ _ p.0 c.in_err-check_actions.ensures p.2)))

pub returns-in_err-index : goal.returns-in_err-index
returns-in_err-index c =
    let rules = c.args.rules.now in
    let p = err_from_is_err_and c.from_residual-in_err-index.result c.from_residual-in_err-index.ensures.1 in
    let steps = refusal-SetActions rules c.args.kind c.args.id.now c.args.actions.now in
    let passed = passed-first (refusal_of_actions c.args.actions.now.items)
    (refusal_of_absence c.args.kind c.args.id.now rules) c.in_ok-check_actions.ensures in
    tries-told _ _ c.from_residual-in_err-index.result p.0 p.1
    (told _ _ p.0 (steps ∙ passed ∙ c.in_err-index.ensures) p.2)

pub returns : goal.returns
returns c =
    let rules = c.args.rules.now in
    let kind = c.args.kind in
    let id = c.args.id.now in
    let actions = c.args.actions.now in
    let list = rules_of_kind kind rules in
    let steps = refusal-SetActions rules kind id actions in
    let passed = passed-first (refusal_of_actions actions.items)
    (refusal_of_absence kind id rules) c.in_ok-check_actions.ensures in
    let none = steps ∙ passed ∙ c.in_ok-index.ensures.0 in
    let are = c.in_ok-index.ensures.2 in
    let distinct = (AreRules-from kind list are).distinct in
    let read = c.in_ok-actions.ensures ∙ ap (λ (given : JsonList). given.items) c.in_ok-copied.ensures in (
      none,
      IsPlanOf-by rules (edit.SetActions kind id actions)
          (change.SetActions c.in_ok-index.index c.in_ok-actions.actions) none are
          (ap (λ given. changed_at c.in_ok-index.index (with_actions given) list) read
          ∙ sym (changed-by_place id (with_actions actions.items) list c.in_ok-index.index distinct
          c.in_ok-index.ensures.1)),
    )
