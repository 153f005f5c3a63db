use Rattle.std.proofs.Common.{[], ◌∷◌, ◌++◌, List, Bool, codes}
use Rattle.mx_json.specs.declared.value.Json.{Json}
use Rattle.mx_json.specs.Json.{truth_at}
use Rattle.mx_records.specs.declared.field_name.FieldName.{FieldName}
use Rattle.mx_records.specs.Forms.{append_field, data_fields, data_form, shown_fields, shown_form, ts_field}
use Rattle.mx_records.proofs.FormLemmas.{found-right, gives-refused, refused-first, refused-next, right-both}
use Rattle.mx_records.proofs.pusher_form.read_http.Goals as goal

abbrev append : Json → List (FieldName × Bool)
append json = append_field json ∷ []

abbrev ts : Json → List (FieldName × Bool)
ts json = ts_field json ∷ []

pub returns-in_err-app_display_name : goal.returns-in_err-app_display_name
returns-in_err-app_display_name c =
    let json = c.args.json.now in
    gives-refused _ _ _ c.from_residual.ensures
    (refused-first (shown_fields json) (data_fields json ++ (append json ++ ts json)) (shown_form json).value _ _
    c.in_err-app_display_name.ensures)

pub returns-in_err-details : goal.returns-in_err-details
returns-in_err-details c =
    let json = c.args.json.now in
    let shown = found-right (shown_fields json) (shown_form json).value _ c.in_ok-app_display_name.ensures in
    gives-refused _ _ _ c.from_residual-in_err-details.ensures
    (refused-next (shown_fields json) (data_fields json) (append json ++ ts json) (data_form json).value _ _ shown.0
    c.in_err-details.ensures)

pub returns-in_err-append : goal.returns-in_err-append
returns-in_err-append c =
    let json = c.args.json.now in
    let shown = found-right (shown_fields json) (shown_form json).value _ c.in_ok-app_display_name.ensures in
    let told = found-right (data_fields json) (data_form json).value _ c.in_ok-details.ensures in
    gives-refused _ _ _ c.from_residual-in_err-append.ensures
    (refused-next (shown_fields json ++ data_fields json) (append json) (ts json) (truth_at (codes "append") json) _ _
    (right-both (shown_fields json) (data_fields json) shown.0 told.0) c.in_err-append.ensures)
