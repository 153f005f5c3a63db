use Rattle.std.proofs.Common.{◌∙◌, sym}
use Rattle.std.proofs.lemmas.Result.{err_from_is_err_and}
use Rattle.mx_rule.specs.declared.edit.Edit.TheVariants as edit
use Rattle.mx_rule.specs.declared.list_change.ListChange.TheVariants as change
use Rattle.mx_rule.specs.Editing.{with_enabled}
use Rattle.mx_rule.specs.Ruleset.{rules_of_kind}
use Rattle.mx_rule.proofs.ChangeLemmas.{changed-by_place}
use Rattle.mx_rule.proofs.EditLemmas.{AreRules-from}
use Rattle.mx_edit.proofs.PlanLemmas.{refusal-Enable, told, tries-told, IsPlanOf-by}
use Rattle.mx_edit.proofs.plan.plan_enable.Goals as goal

pub returns-in_err-index : goal.returns-in_err-index
returns-in_err-index c =
    let p = err_from_is_err_and c.from_residual.result c.from_residual.ensures.1 in
    let is = refusal-Enable c.args.rules.now c.args.kind c.args.id.now c.args.enabled ∙ c.in_err-index.ensures in
    tries-told _ _ c.from_residual.result p.0 p.1 (told _ _ p.0 is p.2)

pub returns : goal.returns
returns c =
    let rules = c.args.rules.now in
    let kind = c.args.kind in
    let id = c.args.id.now in
    let enabled = c.args.enabled in
    let list = rules_of_kind kind rules in
    let none = refusal-Enable rules kind id enabled ∙ c.in_ok-index.ensures.0 in
    let are = c.in_ok-index.ensures.2 in
    let distinct = (AreRules-from kind list are).distinct in (
      none,
      IsPlanOf-by rules (edit.Enable kind id enabled) (change.Enable c.in_ok-index.index enabled) none are
          (sym (changed-by_place id (with_enabled enabled) list c.in_ok-index.index distinct c.in_ok-index.ensures.1)),
    )
