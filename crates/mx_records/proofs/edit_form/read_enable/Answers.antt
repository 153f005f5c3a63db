use Rattle.std.proofs.Common.{[], ◌∷◌, codes, is_some}
use Rattle.mx_json.specs.Json.{truth_at}
use Rattle.mx_records.specs.declared.field_name.FieldName.TheVariants.{Enabled}
use Rattle.mx_records.specs.Forms.{rule_fields, rule_form}
use Rattle.mx_records.proofs.FormLemmas.{gives-refused, refused-first}
use Rattle.mx_records.proofs.edit_form.read_enable.Goals as goal

pub returns-in_err-user-clause-input : goal.returns-in_err-user-clause-input
returns-in_err-user-clause-input c =
    let json = c.args.json.now in
    gives-refused _ _ _ c.from_residual.ensures
    (refused-first (rule_fields json) ((Enabled, is_some (truth_at (codes "enabled") json)) ∷ [])
    (rule_form json).value _ _ c.in_err-user.ensures)
