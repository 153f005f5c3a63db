use Rattle.std.proofs.Common.{[], ◌∷◌, codes}
use Rattle.mx_json.specs.Json.{text_at}
use Rattle.mx_records.specs.declared.field_name.FieldName.TheVariants.{After, Before}
use Rattle.mx_records.specs.Forms.{has_text_or_none}
use Rattle.mx_records.proofs.FormLemmas.{found-right, gives-refused, refused-next}
use Rattle.mx_records.proofs.edit_form.read_anchors.Goals as goal

pub returns-in_err-after : goal.returns-in_err-after
returns-in_err-after c =
    let json = c.args.json.now in
    let before = (Before, has_text_or_none (codes "before") json) ∷ [] in
    let after = (After, has_text_or_none (codes "after") json) ∷ [] in
    let stands = found-right before (text_at (codes "before") json) _ c.in_ok-before.ensures in
    gives-refused _ _ _ c.from_residual-in_err-after.ensures
    (refused-next before after [] (text_at (codes "after") json) _ _ stands.0 c.in_err-after.ensures)
