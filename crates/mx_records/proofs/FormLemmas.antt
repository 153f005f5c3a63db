-- What the form of an event gives, by the first wrong field of the event, and what an input is by the form of its word.
use Rattle.std.proofs.Common.{◌≡◌, ◌⊎◌, inl, inr, Bool, true, false, cond, List, [], ◌∷◌, ◌++◌, map, Option, None, Some}
use Rattle.std.proofs.Common.{option_map, Result, Ok, Err, refl, ap, sym, ◌∙◌, subst}
use Rattle.std.proofs.lemmas.List.{append-nil}
use Rattle.std.specs.Option.{option_map_or, option_or}
use Rattle.std.specs.Prelude.{option_and_then}
use Rattle.std.specs.Result.{IsErr, IsErrAnd}
use Rattle.mx_json.specs.Gives.{Gives}
use Rattle.mx_json.specs.declared.value.Json.{Json}
use Rattle.mx_event.specs.declared.error.EventError.{EventError}
use Rattle.mx_event.specs.declared.error.EventError.TheVariants.{BadEvent, OutOfMemory}
use Rattle.mx_event.specs.declared.error.EventField.{EventField}
use Rattle.mx_event.specs.Event.{fields_of, first_wrong, first_wrong_field, read_event}
use Rattle.mx_records.specs.declared.field_name.FieldName.{FieldName}
use Rattle.mx_records.specs.declared.field_name.FieldName.TheVariants.{Cmd}
use Rattle.mx_records.specs.declared.input.Input.{Input}
use Rattle.mx_records.specs.declared.input.Input.TheVariants.{Event}
use Rattle.mx_records.specs.declared.input_error.InputError.{InputError}
use Rattle.mx_records.specs.declared.input_error.InputError.TheVariants.{BadField, OutOfMemory as WantOfMemory}
use Rattle.mx_records.specs.declared.input_word.InputWord.{InputWord}
use Rattle.mx_records.specs.InputWords.{input_word_in}
use Rattle.mx_records.specs.Forms.{Form, event_in, name_in_event, event_form, input_form_of, input_in, value_of_form}

first_or : (right : Bool) (field : EventField) (later : Option FieldName) (earlier : Option EventField)
    → later ≡ option_map name_in_event earlier
    → cond right later (Some (name_in_event field)) ≡ option_map name_in_event (cond right earlier (Some field))
first_or true field later earlier same = same
first_or false field later earlier same = refl

first_wrong-map : (fields : List (EventField × Bool))
    → first_wrong (map (λ field. (name_in_event field.0, field.1)) fields)
    ≡ option_map name_in_event (first_wrong fields)
first_wrong-map [] = refl
first_wrong-map (field ∷ fields) = first_or field.1 field.0 _ _ (first_wrong-map fields)

-- the input of an event's form, by the first field that is wrong
abbrev input_with : Option FieldName → Json → Result Input InputError
input_with wrong event = option_map_or (λ field. Err (BadField field)) wrong (Ok (Event event))

abbrev event_with : Option EventField → Json → Result Json EventError
event_with wrong event = option_map_or (λ field. Err (BadEvent field)) wrong (Ok event)

right : (wrong : Option EventField) (json event : Json) → event_with wrong json ≡ Ok event
    → input_with (option_map name_in_event wrong) json ≡ Ok (Event event)
right None json event is = cc
right (Some field) json event is = absurd cc

wrong_at : (wrong : Option EventField) (json : Json) (field : EventField) → event_with wrong json ≡ Err (BadEvent field)
    → input_with (option_map name_in_event wrong) json ≡ Err (BadField (name_in_event field))
wrong_at None json field is = absurd cc
wrong_at (Some first) json field is = cc

value-event : (json : Json)
    → value_of_form BadField (event_form json)
    ≡ input_with (option_map name_in_event (first_wrong_field (event_in json))) (event_in json)
unfolding first_wrong_field
value-event json = ap (λ wrong. input_with wrong (event_in json)) (first_wrong-map (fields_of (event_in json)))

-- an object with an event is that event
pub value-right : (json taken event : Json) → taken ≡ event_in json → read_event taken ≡ Ok event
    → value_of_form BadField (event_form json) ≡ Ok (Event event)
value-right json taken event same is =
    value-event json
    ∙ right (first_wrong_field (event_in json)) (event_in json) event (subst (λ of. read_event of ≡ Ok event) same is)

-- an object with no event is refused at the event's first wrong field
pub value-wrong : (json taken : Json) (error : EventError) (field : EventField)
    → taken ≡ event_in json → error ≡ BadEvent field
    → (read_event taken ≡ Err error) ⊎ (error ≡ OutOfMemory)
    → value_of_form BadField (event_form json) ≡ Err (BadField (name_in_event field))
value-wrong json taken error field same at (inr memory) = absurd cc
value-wrong json taken error field same at (inl is) =
    let told : read_event (event_in json) ≡ Err (BadEvent field) =
    subst (λ of. read_event of ≡ Err (BadEvent field)) same (is ∙ ap (λ e. Err e) at) in
    value-event json ∙ wrong_at (first_wrong_field (event_in json)) (event_in json) field told

-- ---- a form, read field by field

-- what fields and a value give
abbrev pub given : {A : Type 0} → List (FieldName × Bool) → A → Result A InputError
given fields value = value_of_form BadField (record { fields = fields; value = value })

-- the refusal is the one that is wanted, or memory was wanting
abbrev pub IsRefused : {A : Type 0} → Result A InputError → InputError → Type 0
IsRefused wanted error = (wanted ≡ Err error) ⊎ (error ≡ WantOfMemory)

-- no field is wrong
abbrev pub AreRight : List (FieldName × Bool) → Type 0
AreRight fields = first_wrong fields ≡ None

or_next : {A : Type 0} (right : Bool) (field : A) (xs ys : Option A)
    → cond right (option_or xs ys) (Some field) ≡ option_or (cond right xs (Some field)) ys
or_next true field xs ys = refl
or_next false field xs ys = refl

first_wrong-append : {A : Type 0} (xs ys : List (A × Bool))
    → first_wrong (xs ++ ys) ≡ option_or (first_wrong xs) (first_wrong ys)
first_wrong-append [] ys = refl
first_wrong-append (x ∷ xs) ys =
    ap (λ wrong. cond x.1 wrong (Some x.0)) (first_wrong-append xs ys)
    ∙ or_next x.1 x.0 (first_wrong xs) (first_wrong ys)

right_by : {A : Type 0} (wrong : Option FieldName) (value found : A)
    → option_map_or (λ field. Err (BadField field)) wrong (Ok value) ≡ Ok found → (wrong ≡ None) × (value ≡ found)
right_by None value found is = (refl, cc)
right_by (Some field) value found is = absurd cc

-- fields of which something is found are right, and it is their value
pub found-right : {A : Type 0} (xs : List (FieldName × Bool)) (value found : A) → given xs value ≡ Ok found
    → AreRight xs × (value ≡ found)
found-right xs value found is = right_by (first_wrong xs) value found is

pub right-both : (xs ys : List (FieldName × Bool)) → AreRight xs → AreRight ys → AreRight (xs ++ ys)
right-both xs ys first then =
    first_wrong-append xs ys ∙ ap (λ wrong. option_or wrong (first_wrong ys)) first ∙ then

-- fields that are right have their value
pub given-right : {A : Type 0} (xs : List (FieldName × Bool)) (value : A) → AreRight xs → given xs value ≡ Ok value
given-right xs value are_right =
    ap (λ wrong. option_map_or (λ field. Err (BadField field)) wrong (Ok value)) are_right

refused_by : {A B : Type 0} (wrong rest : Option FieldName) (value : A) (whole : B) (error : InputError)
    → IsRefused (option_map_or (λ field. Err (BadField field)) wrong (Ok value)) error
    → IsRefused (option_map_or (λ field. Err (BadField field)) (option_or wrong rest) (Ok whole)) error
refused_by None rest value whole error (inl is) = absurd cc
refused_by (Some field) rest value whole error (inl is) = inl cc
refused_by wrong rest value whole error (inr memory) = inr memory

-- fields that are refused are refused before those behind them
pub refused-first : {A B : Type 0} (xs ys : List (FieldName × Bool)) (value : A) (whole : B) (error : InputError)
    → IsRefused (given xs value) error → IsRefused (given (xs ++ ys) whole) error
refused-first xs ys value whole error is =
    subst (λ wrong. IsRefused (option_map_or (λ field. Err (BadField field)) wrong (Ok whole)) error)
    (sym (first_wrong-append xs ys)) (refused_by (first_wrong xs) (first_wrong ys) value whole error is)

-- and behind those that are right
pub refused-next : {A B : Type 0} (xs ys zs : List (FieldName × Bool)) (value : A) (whole : B) (error : InputError)
    → AreRight xs → IsRefused (given ys value) error → IsRefused (given (xs ++ (ys ++ zs)) whole) error
refused-next xs ys zs value whole error are_right is =
    subst (λ wrong. IsRefused (option_map_or (λ field. Err (BadField field)) wrong (Ok whole)) error)
    (sym (first_wrong-append xs (ys ++ zs) ∙ ap (λ wrong. option_or wrong (first_wrong (ys ++ zs))) are_right))
    (refused-first ys zs value whole error is)

-- the last fields are refused behind those that are right
pub refused-last : {A B : Type 0} (xs ys : List (FieldName × Bool)) (value : A) (whole : B) (error : InputError)
    → AreRight xs → IsRefused (given ys value) error → IsRefused (given (xs ++ ys) whole) error
refused-last xs ys value whole error are_right is =
    subst (λ zs. IsRefused (given (xs ++ zs) whole) error) (append-nil ys)
    (refused-next xs ys [] value whole error are_right is)

-- a refusal that is handed up
pub gives-refused : {A : Type 0} (result wanted : Result A InputError) (error : InputError)
    → IsErr result × IsErrAnd result (λ e. e ≡ error) → IsRefused wanted error → Gives WantOfMemory result wanted
gives-refused (Ok value) wanted error handed is = absurd handed.1
gives-refused (Err e) wanted error handed is = subst (λ e. IsRefused wanted e) (sym handed.1) is

-- what the form of a word gives, or the refusal of `cmd`
abbrev by_form : Option (Form Input) → Result Input InputError
by_form form = option_map_or (value_of_form BadField) form (Err (BadField Cmd))

-- an object whose word has a form is what the form gives
pub input_in-form : (json : Json) (word : InputWord) (form : Form Input)
    → input_word_in json ≡ Some word → input_form_of word json ≡ Some form
    → input_in json ≡ value_of_form BadField form
unfolding input_in
input_in-form json word form has is =
    ap (λ (found : Option InputWord). by_form (option_and_then (λ w. input_form_of w json) found)) has ∙ ap by_form is
