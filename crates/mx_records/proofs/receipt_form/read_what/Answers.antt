use Rattle.std.proofs.Common.{[], ◌∷◌, ◌++◌, List, Bool}
use Rattle.mx_json.specs.declared.value.Json.{Json}
use Rattle.mx_json.specs.Ids.{is_event_id, is_room_id, is_user_id}
use Rattle.mx_records.specs.declared.field_name.FieldName.{FieldName}
use Rattle.mx_records.specs.declared.field_name.FieldName.TheVariants.{EventId, RoomId, User}
use Rattle.mx_records.specs.Forms.{event_id_in, room_id_in, user_in}
use Rattle.mx_records.proofs.FormLemmas.{found-right, gives-refused, refused-first, refused-next, right-both}
use Rattle.mx_records.proofs.receipt_form.read_what.Goals as goal

-- the fields, one by one

abbrev reader : Json → List (FieldName × Bool)
reader json = (User, is_user_id (user_in json)) ∷ []

abbrev room : Json → List (FieldName × Bool)
room json = (RoomId, is_room_id (room_id_in json)) ∷ []

abbrev event : Json → List (FieldName × Bool)
event json = (EventId, is_event_id (event_id_in json)) ∷ []

pub returns-in_err-user : goal.returns-in_err-user
returns-in_err-user c =
    let json = c.args.json.now in
    gives-refused _ _ _ c.from_residual.ensures
    (refused-first (reader json) (room json ++ event json) (user_in json) _ _ c.in_err-user.ensures)

pub returns-in_err-room : goal.returns-in_err-room
returns-in_err-room c =
    let json = c.args.json.now in
    let first = found-right (reader json) (user_in json) _ c.in_ok-user.ensures in
    gives-refused _ _ _ c.from_residual-in_err-room.ensures
    (refused-next (reader json) (room json) (event json) (room_id_in json) _ _ first.0 c.in_err-room.ensures)

pub returns-in_err-event : goal.returns-in_err-event
returns-in_err-event c =
    let json = c.args.json.now in
    let first = found-right (reader json) (user_in json) _ c.in_ok-user.ensures in
    let then = found-right (room json) (room_id_in json) _ c.in_ok-room.ensures in
    gives-refused _ _ _ c.from_residual-in_err-event.ensures
    (refused-next (reader json ++ room json) (event json) [] (event_id_in json) _ _
    (right-both (reader json) (room json) first.0 then.0) c.in_err-event.ensures)
