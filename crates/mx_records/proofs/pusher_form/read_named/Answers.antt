use Rattle.std.proofs.Common.{[], ◌∷◌, List, Bool}
use Rattle.mx_json.specs.declared.value.Json.{Json}
use Rattle.mx_json.specs.Ids.{is_user_id}
use Rattle.mx_records.specs.declared.field_name.FieldName.{FieldName}
use Rattle.mx_records.specs.declared.field_name.FieldName.TheVariants.{User, Pushkey, AppId, Kind}
use Rattle.mx_records.specs.Forms.{app_id_in, has_pusher_kind, is_app_id, is_pushkey, pushkey_in, user_in}
use Rattle.mx_records.proofs.FormLemmas.{found-right, gives-refused, refused-first, refused-next}
use Rattle.mx_records.proofs.pusher_form.read_named.Goals as goal

abbrev user : Json → List (FieldName × Bool)
user json = (User, is_user_id (user_in json)) ∷ []

abbrev pushkey : Json → List (FieldName × Bool)
pushkey json = (Pushkey, is_pushkey (pushkey_in json)) ∷ []

abbrev rest : Json → List (FieldName × Bool)
rest json = (AppId, is_app_id (app_id_in json)) ∷ (Kind, has_pusher_kind json) ∷ []

pub returns-in_err-user : goal.returns-in_err-user
returns-in_err-user c =
    let json = c.args.json.now in
    gives-refused _ _ _ c.from_residual.ensures
    (refused-first (user json) ((Pushkey, is_pushkey (pushkey_in json)) ∷ rest json)
    (user_in json) _ _ c.in_err-user.ensures)

pub returns-in_err-pushkey : goal.returns-in_err-pushkey
returns-in_err-pushkey c =
    let json = c.args.json.now in
    let who = found-right (user json) (user_in json) _ c.in_ok-user.ensures in
    gives-refused _ _ _ c.from_residual-in_err-pushkey.ensures
    (refused-next (user json) (pushkey json) (rest json) (pushkey_in json) _ _ who.0 c.in_err-pushkey.ensures)
