use Rattle.std.proofs.Common.{◌≡◌, ◌∙◌, true, false, refl, sym}
use Rattle.std.proofs.lemmas.Result.{err_from_is_err_and}
use Rattle.mx_rule.specs.declared.edit.Edit.TheVariants.{Delete}
use Rattle.mx_rule.specs.declared.edit.EditRefusal.TheVariants.{RuleReserved}
use Rattle.mx_rule.specs.declared.list_change.ListChange.TheVariants.{Remove}
use Rattle.mx_rule.specs.Editing.{is_reserved}
use Rattle.mx_rule.specs.Ruleset.{rules_of_kind}
use Rattle.mx_rule.proofs.ChangeLemmas.{without-by_place}
use Rattle.mx_rule.proofs.EditLemmas.{AreRules-from}
use Rattle.mx_edit.proofs.PlanLemmas.{refusal-Delete, refusal-Delete_reserved, told, tries-told, IsPlanOf-by}
use Rattle.mx_edit.proofs.plan.plan_delete.Goals as goal

pub returns-then-is_reserved : goal.returns-then-is_reserved
returns-then-is_reserved c =
    let reserved : is_reserved c.args.id.now ≡ true = cc in
    told _ RuleReserved _ (refusal-Delete_reserved c.args.rules.now c.args.kind c.args.id.now reserved) refl

pub returns-in_err-index : goal.returns-in_err-index
returns-in_err-index c =
    let free : is_reserved c.args.id.now ≡ false = cc in
    let p = err_from_is_err_and c.from_residual.result c.from_residual.ensures.1 in
    let is = refusal-Delete c.args.rules.now c.args.kind c.args.id.now free ∙ c.in_err-index.ensures in
    tries-told _ _ c.from_residual.result p.0 p.1 (told _ _ p.0 is p.2)

pub returns : goal.returns
returns c =
    let rules = c.args.rules.now in
    let kind = c.args.kind in
    let id = c.args.id.now in
    let free : is_reserved id ≡ false = cc in
    let none = refusal-Delete rules kind id free ∙ c.in_ok-index.ensures.0 in
    let are = c.in_ok-index.ensures.2 in
    let distinct = (AreRules-from kind (rules_of_kind kind rules) are).distinct in (
      none,
      IsPlanOf-by rules (Delete kind id) (Remove c.in_ok-index.index) none are
          (sym (without-by_place id (rules_of_kind kind rules) c.in_ok-index.index distinct c.in_ok-index.ensures.1)),
    )
