-- How the fields of an event, tested one by one, make it one.
use Rattle.std.proofs.Common.{◌≡◌, ◌⊎◌, inl, inr, ℕ, Bool, true, false, List, [], ◌∷◌, Option, Some, None, is_none}
use Rattle.std.proofs.Common.{option_and_then, unwrap_or, rules, codes, Result, Ok, Err, refl, sym, ap, ◌∙◌}
use Rattle.std.proofs.lemmas.Bool.{and_parts, cases_Bool}
use Rattle.std.specs.List.{list_all}
use Rattle.mx_json.specs.declared.value.Json.{Json, Null, the_lemmas}
use Rattle.mx_json.specs.Json.{is_valid, member, text_at, text_of}
use Rattle.mx_json.specs.Path.{look}
use Rattle.mx_json.specs.Ids.{is_event_id, is_room_id, is_user_id}
use Rattle.mx_event.specs.declared.error.EventError.{EventError}
use Rattle.mx_event.specs.declared.error.EventError.TheVariants.{BadEvent, OutOfMemory}
use Rattle.mx_event.specs.declared.error.EventField.{EventField}
use Rattle.mx_event.specs.declared.error.EventField.TheVariants.{EventId, RoomId, Sender}
use Rattle.mx_event.specs.declared.places.Places.{Places}
use Rattle.mx_event.specs.Event.{ArePlacesIn, body_of, checked, event_id_of, fields_after_the_ids, fields_of}
use Rattle.mx_event.specs.Event.{first_wrong, first_wrong_field, has_content, has_kind, HoldsEvent, is_event}
use Rattle.mx_event.specs.Event.{read_event, room_id_of, sender_of}

-- what a tested field tells
checked_right : {A : Type 0} (field : EventField) (is_right : Bool) (value found : A)
    → checked field is_right value ≡ Ok found → (is_right ≡ true) × (value ≡ found)
checked_right field true value found is = (refl, cc)
checked_right field false value found is = absurd cc

checked_wrong : {A : Type 0} (field : EventField) (is_right : Bool) (value : A) (error : EventError)
    → checked field is_right value ≡ Err error → (is_right ≡ false) × (error ≡ BadEvent field)
checked_wrong field true value error is = absurd cc
checked_wrong field false value error is = (refl, cc)

-- the first wrong field, by the fields
wrong_at_1 : (json : Json) → is_event_id (event_id_of json) ≡ false → read_event json ≡ Err (BadEvent EventId)
unfolding first_wrong_field fields_of
wrong_at_1 json wrong = rw wrong

wrong_at_2 : (json : Json) → is_event_id (event_id_of json) ≡ true → is_room_id (room_id_of json) ≡ false
    → read_event json ≡ Err (BadEvent RoomId)
unfolding first_wrong_field fields_of
wrong_at_2 json right wrong = rw (right, wrong)

wrong_at_3 : (json : Json) → is_event_id (event_id_of json) ≡ true → is_room_id (room_id_of json) ≡ true
    → is_user_id (sender_of json) ≡ false → read_event json ≡ Err (BadEvent Sender)
unfolding first_wrong_field fields_of
wrong_at_3 json right right_2 wrong = rw (right, right_2, wrong)

-- the answers of the tests, one after another
abbrev Tells : EventError → Result Json EventError → Type 0
Tells error expected = (expected ≡ Err error) ⊎ (error ≡ OutOfMemory)

pub tells_event_id : (json : Json) (error : EventError)
    → (checked EventId (is_event_id (event_id_of json)) (event_id_of json) ≡ Err error) ⊎ (error ≡ OutOfMemory)
    → Tells error (read_event json)
tells_event_id json error (inr memory) = inr memory
tells_event_id json error (inl is) =
    let told = checked_wrong EventId (is_event_id (event_id_of json)) (event_id_of json) error is in
    inl (wrong_at_1 json told.0 ∙ ap (λ e. Err e) (sym told.1))

pub tells_room_id : (json : Json) (event_id : List ℕ) (error : EventError)
    → checked EventId (is_event_id (event_id_of json)) (event_id_of json) ≡ Ok event_id
    → (checked RoomId (is_room_id (room_id_of json)) (room_id_of json) ≡ Err error) ⊎ (error ≡ OutOfMemory)
    → Tells error (read_event json)
tells_room_id json event_id error first (inr memory) = inr memory
tells_room_id json event_id error first (inl is) =
    let right = checked_right EventId (is_event_id (event_id_of json)) (event_id_of json) event_id first in
    let told = checked_wrong RoomId (is_room_id (room_id_of json)) (room_id_of json) error is in
    inl (wrong_at_2 json right.0 told.0 ∙ ap (λ e. Err e) (sym told.1))

pub tells_sender : (json : Json) (event_id room_id : List ℕ) (error : EventError)
    → checked EventId (is_event_id (event_id_of json)) (event_id_of json) ≡ Ok event_id
    → checked RoomId (is_room_id (room_id_of json)) (room_id_of json) ≡ Ok room_id
    → (checked Sender (is_user_id (sender_of json)) (sender_of json) ≡ Err error) ⊎ (error ≡ OutOfMemory)
    → Tells error (read_event json)
tells_sender json event_id room_id error first second (inr memory) = inr memory
tells_sender json event_id room_id error first second (inl is) =
    let right = checked_right EventId (is_event_id (event_id_of json)) (event_id_of json) event_id first in
    let right_2 = checked_right RoomId (is_room_id (room_id_of json)) (room_id_of json) room_id second in
    let told = checked_wrong Sender (is_user_id (sender_of json)) (sender_of json) error is in
    inl (wrong_at_3 json right.0 right_2.0 told.0 ∙ ap (λ e. Err e) (sym told.1))

-- the ids are right: the other fields decide
pub record HasIds (json : Json) (event_id room_id sender : List ℕ) : Type 0 where
  pub event : checked EventId (is_event_id (event_id_of json)) (event_id_of json) ≡ Ok event_id
  pub room : checked RoomId (is_room_id (room_id_of json)) (room_id_of json) ≡ Ok room_id
  pub from : checked Sender (is_user_id (sender_of json)) (sender_of json) ≡ Ok sender

pub first_wrong_field-after_the_ids : (json : Json) (event_id room_id sender : List ℕ)
    → HasIds json event_id room_id sender → first_wrong_field json ≡ first_wrong (fields_after_the_ids json)
unfolding first_wrong_field fields_of
first_wrong_field-after_the_ids json event_id room_id sender ids =
    let right = checked_right EventId (is_event_id (event_id_of json)) (event_id_of json) event_id ids.event in
    let right_2 = checked_right RoomId (is_room_id (room_id_of json)) (room_id_of json) room_id ids.room in
    let right_3 = checked_right Sender (is_user_id (sender_of json)) (sender_of json) sender ids.from in
    rw (right.0, right_2.0, right_3.0)

pub read_event-wrong : (json : Json) (event_id room_id sender : List ℕ) (field : EventField)
    → HasIds json event_id room_id sender → Some field ≡ first_wrong (fields_after_the_ids json)
    → read_event json ≡ Err (BadEvent field)
read_event-wrong json event_id room_id sender field ids is =
    rw (first_wrong_field-after_the_ids json event_id room_id sender ids, ← is)

pub read_event-right : (json : Json) (event_id room_id sender : List ℕ) → HasIds json event_id room_id sender
    → None ≡ first_wrong (fields_after_the_ids json) → read_event json ≡ Ok json
read_event-right json event_id room_id sender ids is =
    rw (first_wrong_field-after_the_ids json event_id room_id sender ids, ← is)

pub HoldsEvent-from : (json : Json) (event_id room_id sender : List ℕ) (places : Places) → is_valid json ≡ true
    → HasIds json event_id room_id sender → None ≡ first_wrong (fields_after_the_ids json) → ArePlacesIn json places
    → HoldsEvent json event_id room_id sender places
HoldsEvent-from json event_id room_id sender places valid ids is placed =
    let right = checked_right EventId (is_event_id (event_id_of json)) (event_id_of json) event_id ids.event in
    let right_2 = checked_right RoomId (is_room_id (room_id_of json)) (room_id_of json) room_id ids.room in
    let right_3 = checked_right Sender (is_user_id (sender_of json)) (sender_of json) sender ids.from in
    record {
      valid = valid;
      event = rw (first_wrong_field-after_the_ids json event_id room_id sender ids, ← is);
      event_id_is = sym right.1;
      room_id_is = sym right_2.1;
      sender_is = sym right_3.1;
      places_are = placed;
    }

-- an event has a content
all_right : (fields : List (EventField × Bool)) → is_none (first_wrong fields) ≡ true
    → list_all (λ field. field.1) fields ≡ true
all_right [] right = refl
all_right (field ∷ fields) right =
    elim (cases_Bool field.1) [
      | inl here ↦ rw here (all_right fields (rw here at right))
      | inr wrong ↦ let never : false ≡ true = rw wrong at right in absurd cc
    ]

pub has_content-from_event : (json : Json) → is_event json ≡ true → has_content json ≡ true
unfolding first_wrong_field fields_of
has_content-from_event json event =
    let all = all_right (fields_of json) event in
    let after_1 = and_parts (is_event_id (event_id_of json)) _ all in
    let after_2 = and_parts (is_room_id (room_id_of json)) _ after_1.1 in
    let after_3 = and_parts (is_user_id (sender_of json)) _ after_2.1 in
    let after_4 = and_parts (has_kind json) _ after_3.1 in
    (and_parts (has_content json) _ after_4.1).0

pub content-from_event : (json : Json) → is_event json ≡ true → member (codes "content") json ≡ None → ⊥
content-from_event json event none =
    let has = has_content-from_event json event in
    let never : false ≡ true = rw none at has in absurd cc

-- the body of a message is the text at its path
look_here : (found : Option Json) → option_and_then (look []) found ≡ found
look_here None = refl
look_here (Some json) = refl

body_of-content : (content : Option Json)
    → option_and_then text_of (option_and_then (look (codes "body" ∷ [])) content)
    ≡ text_at (codes "body") (unwrap_or content Null)
body_of-content None = search (rules, the_lemmas)
body_of-content (Some content) = ap (option_and_then text_of) (look_here (member (codes "body") content))

pub body_of-look : (json : Json)
    → option_and_then text_of (look (codes "content" ∷ codes "body" ∷ []) json) ≡ body_of json
body_of-look json = body_of-content (member (codes "content") json)
