use Rattle.std.proofs.Common.{[], Ok, ◌∙◌}
use Rattle.mx_rule.specs.declared.edit.Edit.TheVariants.{Delete}
use Rattle.mx_records.specs.declared.input.Input.TheVariants.{Edit}
use Rattle.mx_records.specs.Forms.{delete_form, rule_fields, rule_form}
use Rattle.mx_records.proofs.FormLemmas.{found-right, given-right, gives-refused, refused-first}
use Rattle.mx_records.proofs.edit_form.read_delete.Goals as goal

pub returns-in_err-user-clause-input : goal.returns-in_err-user-clause-input
returns-in_err-user-clause-input c =
    let json = c.args.json.now in
    gives-refused _ _ _ c.from_residual.ensures
    (refused-first (rule_fields json) [] (rule_form json).value _ _ c.in_err-user.ensures)

pub returns-clause-input : goal.returns-clause-input
returns-clause-input c =
    let json = c.args.json.now in
    let rule = found-right (rule_fields json) (rule_form json).value _ c.in_ok-user.ensures in
    given-right (rule_fields json) (delete_form json).value rule.0
    ∙ (λ i. Ok (Edit (rule.1 i).0 (Delete (rule.1 i).1 (rule.1 i).2)))
