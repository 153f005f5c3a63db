use Rattle.std.proofs.Common.{is_some, [], ◌∷◌}
use Rattle.mx_json.specs.Ids.{is_user_id}
use Rattle.mx_records.specs.declared.field_name.FieldName.TheVariants.{User, Kind, RuleId}
use Rattle.mx_records.specs.Forms.{is_rule_id, kind_in, rule_id_in, user_in}
use Rattle.mx_records.proofs.FormLemmas.{gives-refused, refused-first}
use Rattle.mx_records.proofs.edit_form.read_rule.Goals as goal

pub returns-in_err-user : goal.returns-in_err-user
returns-in_err-user c =
    let json = c.args.json.now in
    gives-refused _ _ _ c.from_residual.ensures
    (refused-first ((User, is_user_id (user_in json)) ∷ [])
    ((Kind, is_some (kind_in json)) ∷ (RuleId, is_rule_id (rule_id_in json)) ∷ [])
    (user_in json) _ _ c.in_err-user.ensures)
