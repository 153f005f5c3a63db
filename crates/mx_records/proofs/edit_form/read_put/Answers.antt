use Rattle.std.proofs.Common.{[], ◌∷◌, ◌++◌, List, Bool, codes, Ok, ◌∙◌}
use Rattle.mx_rule.specs.declared.edit.Edit.TheVariants.{Put}
use Rattle.mx_records.specs.declared.input.Input.TheVariants.{Edit}
use Rattle.mx_json.specs.declared.value.Json.{Json}
use Rattle.mx_json.specs.Json.{text_at}
use Rattle.mx_records.specs.declared.field_name.FieldName.{FieldName}
use Rattle.mx_records.specs.declared.field_name.FieldName.TheVariants.{Conditions, Pattern}
use Rattle.mx_records.specs.Forms.{actions_field, actions_in, anchor_fields, anchors_form, given_list, has_list_or_none}
use Rattle.mx_records.specs.Forms.{has_text_or_none, put_fields, put_form, rule_fields, rule_form}
use Rattle.mx_records.proofs.FormLemmas.{AreRight, found-right, given-right, gives-refused, refused-first, refused-next}
use Rattle.mx_records.proofs.FormLemmas.{right-both}
use Rattle.mx_records.proofs.edit_form.read_put.Goals as goal

-- the fields, one by one

abbrev actions : Json → List (FieldName × Bool)
actions json = actions_field json ∷ []

abbrev conditions : Json → List (FieldName × Bool)
conditions json = (Conditions, has_list_or_none (codes "conditions") json) ∷ []

abbrev pattern : Json → List (FieldName × Bool)
pattern json = (Pattern, has_text_or_none (codes "pattern") json) ∷ []

-- the fields as far as they were read, all right

abbrev to_actions : Json → List (FieldName × Bool)
to_actions json = rule_fields json ++ actions json

abbrev to_conditions : Json → List (FieldName × Bool)
to_conditions json = to_actions json ++ conditions json

abbrev to_pattern : Json → List (FieldName × Bool)
to_pattern json = to_conditions json ++ pattern json

module _ (json : Json) (rule : AreRight (rule_fields json)) (does : AreRight (actions json)) where
  right-actions : AreRight (to_actions json)
  right-actions = right-both (rule_fields json) (actions json) rule does

  right-conditions : AreRight (conditions json) → AreRight (to_conditions json)
  right-conditions asks = right-both (to_actions json) (conditions json) right-actions asks

  right-pattern : AreRight (conditions json) → AreRight (pattern json) → AreRight (to_pattern json)
  right-pattern asks seeks = right-both (to_conditions json) (pattern json) (right-conditions asks) seeks

  right-anchors : AreRight (conditions json) → AreRight (pattern json) → AreRight (anchor_fields json)
      → AreRight (put_fields json)
  right-anchors asks seeks stands =
      right-both (to_pattern json) (anchor_fields json) (right-pattern asks seeks) stands

pub returns-in_err-user-clause-input : goal.returns-in_err-user-clause-input
returns-in_err-user-clause-input c =
    let json = c.args.json.now in
    gives-refused _ _ _ c.from_residual.ensures
    (refused-first (rule_fields json) (actions json ++ conditions json ++ pattern json ++ anchor_fields json)
    (rule_form json).value _ _ c.in_err-user.ensures)

pub returns-in_err-actions-clause-input : goal.returns-in_err-actions-clause-input
returns-in_err-actions-clause-input c =
    let json = c.args.json.now in
    let rule = found-right (rule_fields json) (rule_form json).value _ c.in_ok-user.ensures in
    gives-refused _ _ _ c.from_residual-in_err-actions.ensures
    (refused-next (rule_fields json) (actions json) (conditions json ++ pattern json ++ anchor_fields json)
    (actions_in json) _ _ rule.0 c.in_err-actions.ensures.actions)

pub returns-in_err-conditions-clause-input : goal.returns-in_err-conditions-clause-input
returns-in_err-conditions-clause-input c =
    let json = c.args.json.now in
    let rule = found-right (rule_fields json) (rule_form json).value _ c.in_ok-user.ensures in
    let does = found-right (actions json) (actions_in json) _ c.in_ok-actions.ensures.actions in
    gives-refused _ _ _ c.from_residual-in_err-conditions.ensures
    (refused-next (to_actions json) (conditions json) (pattern json ++ anchor_fields json)
    (given_list (codes "conditions") json) _ _ (right-actions json rule.0 does.0) c.in_err-conditions.ensures.list)

pub returns-in_err-pattern-clause-input : goal.returns-in_err-pattern-clause-input
returns-in_err-pattern-clause-input c =
    let json = c.args.json.now in
    let rule = found-right (rule_fields json) (rule_form json).value _ c.in_ok-user.ensures in
    let does = found-right (actions json) (actions_in json) _ c.in_ok-actions.ensures.actions in
    let asks = found-right (conditions json) (given_list (codes "conditions") json) _ c.in_ok-conditions.ensures.list in
    gives-refused _ _ _ c.from_residual-in_err-pattern.ensures
    (refused-next (to_conditions json) (pattern json) (anchor_fields json)
    (text_at (codes "pattern") json) _ _ (right-conditions json rule.0 does.0 asks.0) c.in_err-pattern.ensures)

pub returns-in_err-before-clause-input : goal.returns-in_err-before-clause-input
returns-in_err-before-clause-input c =
    let json = c.args.json.now in
    let rule = found-right (rule_fields json) (rule_form json).value _ c.in_ok-user.ensures in
    let does = found-right (actions json) (actions_in json) _ c.in_ok-actions.ensures.actions in
    let asks = found-right (conditions json) (given_list (codes "conditions") json) _ c.in_ok-conditions.ensures.list in
    let seeks = found-right (pattern json) (text_at (codes "pattern") json) _ c.in_ok-pattern.ensures in
    gives-refused _ _ _ c.from_residual-in_err-before.ensures
    (refused-next (to_pattern json) (anchor_fields json) []
    (anchors_form json).value _ _ (right-pattern json rule.0 does.0 asks.0 seeks.0) c.in_err-before.ensures)

pub returns-clause-input : goal.returns-clause-input
returns-clause-input c =
    let json = c.args.json.now in
    let rule = found-right (rule_fields json) (rule_form json).value _ c.in_ok-user.ensures in
    let does = found-right (actions json) (actions_in json) _ c.in_ok-actions.ensures.actions in
    let asks = found-right (conditions json) (given_list (codes "conditions") json) _ c.in_ok-conditions.ensures.list in
    let seeks = found-right (pattern json) (text_at (codes "pattern") json) _ c.in_ok-pattern.ensures in
    let stands = found-right (anchor_fields json) (anchors_form json).value _ c.in_ok-before.ensures in
    given-right (put_fields json) (put_form json).value
    (right-anchors json rule.0 does.0 asks.0 seeks.0 stands.0)
    ∙ (λ i. Ok (Edit (rule.1 i).0 (Put (rule.1 i).1 (rule.1 i).2 (seeks.1 i) (asks.1 i) (does.1 i)
    (stands.1 i).0 (stands.1 i).1)))
