use Rattle.std.proofs.Common.{◌∙◌, ap, subst, sym}
use Rattle.std.specs.Option.{option_or}
use Rattle.std.proofs.lemmas.Result.{err_from_is_err_and}
use Rattle.mx_rule.specs.Editing.{refusal_of_place}
use Rattle.mx_edit.specs.Planning.{refusal_of_actions, refusal_of_criterion, refusal_of_id, Tells}
use Rattle.mx_edit.proofs.PlanLemmas.{passed-first, refusal-Put, told, told-first, told-same, tries-told}
use Rattle.mx_edit.proofs.put.accepted.Goals as goal

pub returns-in_err-check_id : goal.returns-in_err-check_id
returns-in_err-check_id c =
    let rules = c.args.rules.now in
    let put = c.args.put.now in
    let steps = refusal-Put rules put.kind put.id.now put.pattern.now put.conditions.now put.actions.now
    put.before.now put.after.now in
    let of_id = refusal_of_id put.kind put.id.now in
    let id = c.as_str-id.ensures in
    let of_criterion = refusal_of_criterion put.kind put.pattern.now put.conditions.now in
    let of_actions = refusal_of_actions put.actions.now.items in
    let of_place = refusal_of_place put.kind put.id.now put.before.now put.after.now rules in
    let p = err_from_is_err_and c.from_residual.result c.from_residual.ensures.1 in
    let first = told-first of_id (option_or of_criterion (option_or of_actions of_place)) p.0
    (told _ _ p.0 (ap (refusal_of_id put.kind) (sym id) ∙ c.in_err-check_id.ensures) p.2) in
    tries-told _ _ c.from_residual.result p.0 p.1 (told-same _ _ p.0 steps first)

pub returns-in_err-criterion : goal.returns-in_err-criterion
returns-in_err-criterion c =
    let rules = c.args.rules.now in
    let put = c.args.put.now in
    let steps = refusal-Put rules put.kind put.id.now put.pattern.now put.conditions.now put.actions.now
    put.before.now put.after.now in
    let of_id = refusal_of_id put.kind put.id.now in
    let id = c.as_str-id.ensures in
    let of_criterion = refusal_of_criterion put.kind put.pattern.now put.conditions.now in
    let of_actions = refusal_of_actions put.actions.now.items in
    let of_place = refusal_of_place put.kind put.id.now put.before.now put.after.now rules in
    let p = err_from_is_err_and c.from_residual-in_err-criterion.result c.from_residual-in_err-criterion.ensures.1 in
    let passed = passed-first of_id (option_or of_criterion (option_or of_actions of_place))
    (ap (refusal_of_id put.kind) (sym id) ∙ c.in_ok-check_id.ensures) in
    let tells = subst (Tells of_criterion) (sym p.2) c.in_err-criterion.ensures in
    tries-told _ _ c.from_residual-in_err-criterion.result p.0 p.1
    (told-same _ _ p.0 (steps ∙ passed) (told-first of_criterion (option_or of_actions of_place) p.0 tells))

pub returns-in_err-check_actions : goal.returns-in_err-check_actions
returns-in_err-check_actions c =
    let rules = c.args.rules.now in
    let put = c.args.put.now in
    let steps = refusal-Put rules put.kind put.id.now put.pattern.now put.conditions.now put.actions.now
    put.before.now put.after.now in
    let of_id = refusal_of_id put.kind put.id.now in
    let id = c.as_str-id.ensures in
    let of_criterion = refusal_of_criterion put.kind put.pattern.now put.conditions.now in
    let of_actions = refusal_of_actions put.actions.now.items in
    let of_place = refusal_of_place put.kind put.id.now put.before.now put.after.now rules in
    let p = err_from_is_err_and c.from_residual-in_err-check_actions.result
    c.from_residual-in_err-check_actions.ensures.1 in
    let passed = passed-first of_id (option_or of_criterion (option_or of_actions of_place))
    (ap (refusal_of_id put.kind) (sym id) ∙ c.in_ok-check_id.ensures)
    ∙ passed-first of_criterion (option_or of_actions of_place) c.in_ok-criterion.ensures.0 in
    let first = told-first of_actions of_place p.0 (told _ _ p.0 c.in_err-check_actions.ensures p.2) in
    tries-told _ _ c.from_residual-in_err-check_actions.result p.0 p.1 (told-same _ _ p.0 (steps ∙ passed) first)

pub returns-in_err-check_place : goal.returns-in_err-check_place
returns-in_err-check_place c =
    let rules = c.args.rules.now in
    let put = c.args.put.now in
    let steps = refusal-Put rules put.kind put.id.now put.pattern.now put.conditions.now put.actions.now
    put.before.now put.after.now in
    let of_id = refusal_of_id put.kind put.id.now in
    let id = c.as_str-id.ensures in
    let of_criterion = refusal_of_criterion put.kind put.pattern.now put.conditions.now in
    let of_actions = refusal_of_actions put.actions.now.items in
    let of_place = refusal_of_place put.kind put.id.now put.before.now put.after.now rules in
    let p = err_from_is_err_and c.from_residual-in_err-check_place.result
    c.from_residual-in_err-check_place.ensures.1 in
    let passed = passed-first of_id (option_or of_criterion (option_or of_actions of_place))
    (ap (refusal_of_id put.kind) (sym id) ∙ c.in_ok-check_id.ensures)
    ∙ passed-first of_criterion (option_or of_actions of_place) c.in_ok-criterion.ensures.0
    ∙ passed-first of_actions of_place c.in_ok-check_actions.ensures in
    tries-told _ _ c.from_residual-in_err-check_place.result p.0 p.1
    (told _ _ p.0 (steps ∙ passed ∙ ap (λ id. refusal_of_place put.kind id put.before.now put.after.now rules)
    (sym id) ∙ c.in_err-check_place.ensures) p.2)

pub returns : goal.returns
returns c =
    let rules = c.args.rules.now in
    let put = c.args.put.now in
    let steps = refusal-Put rules put.kind put.id.now put.pattern.now put.conditions.now put.actions.now
    put.before.now put.after.now in
    let of_id = refusal_of_id put.kind put.id.now in
    let id = c.as_str-id.ensures in
    let of_criterion = refusal_of_criterion put.kind put.pattern.now put.conditions.now in
    let of_actions = refusal_of_actions put.actions.now.items in
    let of_place = refusal_of_place put.kind put.id.now put.before.now put.after.now rules in
    let passed = passed-first of_id (option_or of_criterion (option_or of_actions of_place))
    (ap (refusal_of_id put.kind) (sym id) ∙ c.in_ok-check_id.ensures)
    ∙ passed-first of_criterion (option_or of_actions of_place) c.in_ok-criterion.ensures.0
    ∙ passed-first of_actions of_place c.in_ok-check_actions.ensures in (
      steps ∙ passed ∙ ap (λ id. refusal_of_place put.kind id put.before.now put.after.now rules) (sym id)
          ∙ c.in_ok-check_place.ensures,
      c.in_ok-criterion.ensures.1,
    )
