use Rattle.std.proofs.Common.{[], ◌∷◌}
use Rattle.mx_records.specs.Forms.{actions_field, actions_in, rule_fields, rule_form}
use Rattle.mx_records.proofs.FormLemmas.{found-right, gives-refused, refused-first, refused-next}
use Rattle.mx_records.proofs.edit_form.read_set_actions.Goals as goal

pub returns-in_err-user-clause-input : goal.returns-in_err-user-clause-input
returns-in_err-user-clause-input c =
    let json = c.args.json.now in
    gives-refused _ _ _ c.from_residual.ensures
    (refused-first (rule_fields json) (actions_field json ∷ []) (rule_form json).value _ _ c.in_err-user.ensures)

pub returns-in_err-actions-clause-input : goal.returns-in_err-actions-clause-input
returns-in_err-actions-clause-input c =
    let json = c.args.json.now in
    let rule = found-right (rule_fields json) (rule_form json).value _ c.in_ok-user.ensures in
    gives-refused _ _ _ c.from_residual-in_err-actions.ensures
    (refused-next (rule_fields json) (actions_field json ∷ []) [] (actions_in json) _ _ rule.0
    c.in_err-actions.ensures.actions)
