-- The object that stands for an input is read as that input again.
use Rattle.std.proofs.Common.{◌≡◌, ℕ, ◌==◌, ℤ, pos, Bool, true, false, cond, ◌&&◌, List, [], ◌∷◌, ◌++◌, map, codes}
use Rattle.std.proofs.Common.{Option, Some, None, is_some, option_map, option_and_then, unwrap_or, Ok, refl, ap, sym}
use Rattle.std.proofs.Common.{subst, ◌∙◌}
use Rattle.std.proofs.lemmas.Bool.{and_from, and_parts, eqb-true}
use Rattle.std.specs.List.{list_all}
use Rattle.std.specs.Option.{option_map_or, option_or}
use Rattle.mx_event.specs.Event.{first_wrong}
use Rattle.mx_json.specs.declared.value.Json.{Json, Null, Truth, Whole, Text, List as ListOf, Object}
use Rattle.mx_json.specs.declared.value.JsonList.{JsonList}
use Rattle.mx_json.specs.Ids.{has_length_of_an_id, is_event_id, is_room_id, is_user_id}
use Rattle.mx_json.specs.Json.{is_valid, list_at, member, text_at, text_or_empty, truth_at}
use Rattle.mx_rows.specs.declared.thread_key.ThreadKey.{ThreadKey}
use Rattle.mx_rows.specs.declared.thread_key.ThreadKey.TheVariants.{Main, Root}
use Rattle.mx_rule.specs.declared.edit.Edit.TheVariants.{Put, Delete, Enable, SetActions}
use Rattle.mx_rule.specs.declared.kind.Kind.{Kind}
use Rattle.mx_rule.specs.declared.kind.Kind.TheVariants as kind
use Rattle.mx_records.specs.declared.field_name.FieldName.{FieldName}
use Rattle.mx_records.specs.declared.field_name.FieldName.TheVariants.{User, Kind as KindField, RuleId, Actions}
use Rattle.mx_records.specs.declared.field_name.FieldName.TheVariants.{Conditions, Pattern, Before, After, Enabled}
use Rattle.mx_records.specs.declared.field_name.FieldName.TheVariants.{RoomId, EventId, ReceiptKind, ThreadId}
use Rattle.mx_records.specs.declared.input.Input.{Input}
use Rattle.mx_records.specs.declared.input.Input.TheVariants.{Event, Edit, Receipt}
use Rattle.mx_records.specs.declared.input_error.InputError.TheVariants.{BadField}
use Rattle.mx_records.specs.declared.input_word.InputWord.{InputWord}
use Rattle.mx_records.specs.declared.input_word.InputWord.TheVariants.{Event as EventWord, RulePut, RuleDelete}
use Rattle.mx_records.specs.declared.input_word.InputWord.TheVariants.{RuleEnable, RuleActions, Receipt as ReceiptWord}
use Rattle.mx_records.specs.Forms.{Form, actions_field, actions_in, anchor_fields, edited_kind_in, event_form}
use Rattle.mx_records.specs.Forms.{event_id_in, event_in, given_list, given_thread, has_list_or_none, has_text_or_none}
use Rattle.mx_records.specs.Forms.{has_thread_or_none, input_form_of, input_in, is_rule_id, kind_in, kind_named}
use Rattle.mx_records.specs.Forms.{name_in_event, privacy_in, privacy_named, put_fields, put_form, delete_form}
use Rattle.mx_records.specs.Forms.{enable_form, set_actions_form, read_fields, receipt_form, room_id_in, rule_fields}
use Rattle.mx_records.specs.Forms.{rule_id_in, thread_named, thread_told, user_in, value_of_form}
use Rattle.mx_records.specs.InputWords.{input_word_in, input_word_named}
use Rattle.mx_records.specs.Normal.{Field, edit_fields, fields_given, kind_text, normal_of, object_of, privacy_text}
use Rattle.mx_records.specs.Normal.{text_field, thread_text}
use Rattle.mx_records.proofs.FormLemmas.{AreRight, given-right, input_in-form, right-both}
use Rattle.mx_records.proofs.GivenLemmas.{list-or_none, list-read, list_at-read, look, member-given, or_none}
use Rattle.mx_records.proofs.GivenLemmas.{text-or_none, text-read, text_of-Text, truth-read}

-- ---- forms that are right

pub right-cons : (field : FieldName) (right : Bool) (fields : List (FieldName × Bool)) → right ≡ true → AreRight fields
    → AreRight ((field, right) ∷ fields)
right-cons field right fields is rest = ap (λ b. cond b (first_wrong fields) (Some field)) is ∙ rest

first-by : (field : FieldName) (right : Bool) (later : Option FieldName) → cond right later (Some field) ≡ None
    → (right ≡ true) × (later ≡ None)
first-by field true later is = (refl, is)
first-by field false later is = absurd cc

-- the first field is right, and so are those behind it
pub right-parts : (field : FieldName × Bool) (fields : List (FieldName × Bool)) → AreRight (field ∷ fields)
    → (field.1 ≡ true) × AreRight fields
right-parts field fields is = first-by field.0 field.1 (first_wrong fields) is

-- each of the fields is right
abbrev pub EachRight : List (FieldName × Bool) → Type 0
EachRight [] = Unit {0}
EachRight (field ∷ fields) = (field.1 ≡ true) × EachRight fields

pub each-right : (fields : List (FieldName × Bool)) → AreRight fields → EachRight fields
each-right [] right = tt
each-right (field ∷ fields) right =
    let parts = right-parts field fields right in (parts.0, each-right fields parts.1)

pub right-left : (xs ys : List (FieldName × Bool)) → AreRight (xs ++ ys) → AreRight xs × AreRight ys
right-left [] ys is = (refl, is)
right-left (x ∷ xs) ys is =
    let parts = right-parts x (xs ++ ys) is in
    let rest = right-left xs ys parts.1 in
    (right-cons x.0 x.1 xs parts.0 rest.0, rest.1)

-- fields that are each right
pub right-all : (fields : List (FieldName × Bool)) → list_all (λ field. field.1) fields ≡ true → AreRight fields
right-all [] are = refl
right-all (field ∷ fields) are =
    let parts = and_parts field.1 (list_all (λ field. field.1) fields) are in
    right-cons field.0 field.1 fields parts.0 (right-all fields parts.1)

-- an object whose word has this form, which is right, is the form's value
pub reads-form : (fields : List Field) (word : InputWord) (spelled : List ℕ) (form : Form Input) (input : Input)
    → look (codes "cmd") fields ≡ Some (Text spelled) → input_word_named spelled ≡ Some word
    → input_form_of word (object_of fields) ≡ Some form → AreRight form.fields → form.value ≡ input
    → input_in (object_of fields) ≡ Ok input
reads-form fields word spelled form input is named has right same =
    input_in-form (object_of fields) word form
    (ap (option_and_then input_word_named) (text-read (codes "cmd") fields (Some spelled) is) ∙ named) has
    ∙ given-right form.fields form.value right ∙ ap Ok same

-- ---- events

pub event-reads : (event : Json) → AreRight (event_form (object_of (fields_given (Event event)))).fields
    → input_in (normal_of (Event event)) ≡ Ok (Event event)
unfolding input_word_named
event-reads event right =
    reads-form (fields_given (Event event)) EventWord (codes "event") (event_form (normal_of (Event event)))
    (Event event)
    refl refl refl right (ap Event (event_in-given event))
  where
    event_in-given : (event : Json) → event_in (normal_of (Event event)) ≡ event
    event_in-given event =
        ap (λ found. unwrap_or found Null) (member-given (codes "event") (fields_given (Event event)))

pub event_in-normal : (event : Json) → event_in (normal_of (Event event)) ≡ event
event_in-normal event = ap (λ found. unwrap_or found Null) (member-given (codes "event") (fields_given (Event event)))

-- ---- edits

kind-named : (kind : Kind) → kind_named (kind_text kind) ≡ Some kind
unfolding kind_named
kind-named kind.Override = refl
kind-named kind.Content = refl
kind-named kind.Room = refl
kind-named kind.Sender = refl
kind-named kind.Underride = refl

module _ (fields : List Field) (user : List ℕ) (sort : Kind) (id : List ℕ)
    (has_user : look (codes "user") fields ≡ Some (Text user))
    (has_kind : look (codes "kind") fields ≡ Some (Text (kind_text sort)))
    (has_id : look (codes "rule_id") fields ≡ Some (Text id)) where
  user-is : user_in (object_of fields) ≡ user
  user-is = ap (λ o. unwrap_or o []) (text-read (codes "user") fields (Some user) has_user)

  kind_in-is : kind_in (object_of fields) ≡ Some sort
  kind_in-is = ap (option_and_then kind_named) (text-read (codes "kind") fields (Some (kind_text sort)) has_kind)
      ∙ kind-named sort

  kind-is : edited_kind_in (object_of fields) ≡ sort
  kind-is = ap (λ o. unwrap_or o kind.Override) kind_in-is

  id-is : rule_id_in (object_of fields) ≡ id
  id-is = ap (λ o. unwrap_or o []) (text-read (codes "rule_id") fields (Some id) has_id)

  rule-right : is_user_id user ≡ true → is_rule_id id ≡ true → AreRight (rule_fields (object_of fields))
  rule-right local fits =
      right-all (rule_fields (object_of fields))
      (and_from _ _ (ap is_user_id user-is ∙ local)
      (and_from _ _ (ap is_some kind_in-is) (and_from _ _ (ap is_rule_id id-is ∙ fits) refl)))

-- the fields of `rule_put` behind those of each edit
abbrev pub put_rest : Json → List (FieldName × Bool)
put_rest json =
    actions_field json ∷ (Conditions, has_list_or_none (codes "conditions") json)
    ∷ (Pattern, has_text_or_none (codes "pattern") json) ∷ anchor_fields json

module _ (user : List ℕ) (sort : Kind) (id : List ℕ) (local : is_user_id user ≡ true)
    (fits : is_rule_id id ≡ true) where
  pub delete-reads : input_in (normal_of (Edit user (Delete sort id))) ≡ Ok (Edit user (Delete sort id))
  unfolding input_word_named
  delete-reads =
      let fields = edit_fields user (Delete sort id) in
      reads-form fields RuleDelete (codes "rule_delete") (delete_form (object_of fields))
      (Edit user (Delete sort id)) refl refl refl
      (rule-right fields user sort id refl refl refl local fits)
      (λ i. Edit (user-is fields user sort id refl refl refl i)
      (Delete (kind-is fields user sort id refl refl refl i) (id-is fields user sort id refl refl refl i)))

  pub enable-reads : (enabled : Bool)
      → input_in (normal_of (Edit user (Enable sort id enabled))) ≡ Ok (Edit user (Enable sort id enabled))
  unfolding input_word_named
  enable-reads enabled =
      let fields = edit_fields user (Enable sort id enabled) in
      let is = truth-read (codes "enabled") fields (Some enabled) refl in
      reads-form fields RuleEnable (codes "rule_enable") (enable_form (object_of fields))
      (Edit user (Enable sort id enabled)) refl refl refl
      (right-both (rule_fields (object_of fields))
      ((Enabled, is_some (truth_at (codes "enabled") (object_of fields))) ∷ [])
      (rule-right fields user sort id refl refl refl local fits) (right-cons Enabled _ [] (ap is_some is) refl))
      (λ i. Edit (user-is fields user sort id refl refl refl i)
      (Enable (kind-is fields user sort id refl refl refl i) (id-is fields user sort id refl refl refl i)
      (unwrap_or (is i) false)))

  pub actions-reads : (actions : JsonList)
      → input_in (normal_of (Edit user (SetActions sort id actions))) ≡ Ok (Edit user (SetActions sort id actions))
  unfolding input_word_named
  actions-reads actions =
      let fields = edit_fields user (SetActions sort id actions) in
      let is = list-read (codes "actions") fields (Some actions) refl in
      reads-form fields RuleActions (codes "rule_actions") (set_actions_form (object_of fields))
      (Edit user (SetActions sort id actions)) refl refl refl
      (right-both (rule_fields (object_of fields)) (actions_field (object_of fields) ∷ [])
      (rule-right fields user sort id refl refl refl local fits)
      (right-cons Actions _ [] (ap is_some (list_at-read (codes "actions") fields actions refl)) refl))
      (λ i. Edit (user-is fields user sort id refl refl refl i)
      (SetActions (kind-is fields user sort id refl refl refl i) (id-is fields user sort id refl refl refl i)
      (unwrap_or (is i) (record { items = [] }))))

  pub put-reads : (pattern : Option (List ℕ)) (conditions : Option JsonList) (actions : JsonList)
      (before after : Option (List ℕ))
      → input_in (normal_of (Edit user (Put sort id pattern conditions actions before after)))
      ≡ Ok (Edit user (Put sort id pattern conditions actions before after))
  unfolding input_word_named
  put-reads pattern conditions actions before after =
      let edit = Put sort id pattern conditions actions before after in
      let fields = edit_fields user edit in
      let has_pattern : look (codes "pattern") fields ≡ option_map Text pattern = or_none (option_map Text pattern) in
      let has_conditions : look (codes "conditions") fields ≡ option_map ListOf conditions =
      or_none (option_map ListOf conditions) in
      let has_before : look (codes "before") fields ≡ option_map Text before = or_none (option_map Text before) in
      let has_after : look (codes "after") fields ≡ option_map Text after = or_none (option_map Text after) in
      let acts = list-read (codes "actions") fields (Some actions) refl in
      let seeks = text-read (codes "pattern") fields pattern has_pattern in
      let asks = list-read (codes "conditions") fields conditions has_conditions in
      let first = text-read (codes "before") fields before has_before in
      let last = text-read (codes "after") fields after has_after in
      reads-form fields RulePut (codes "rule_put") (put_form (object_of fields)) (Edit user edit) refl refl refl
      (right-both (rule_fields (object_of fields)) (put_rest (object_of fields))
      (rule-right fields user sort id refl refl refl local fits)
      (right-all (put_rest (object_of fields))
      (and_from _ _ (ap is_some (list_at-read (codes "actions") fields actions refl))
      (and_from _ _ (list-or_none (codes "conditions") fields conditions has_conditions)
      (and_from _ _ (text-or_none (codes "pattern") fields pattern has_pattern)
      (and_from _ _ (text-or_none (codes "before") fields before has_before)
      (and_from _ _ (text-or_none (codes "after") fields after has_after) refl)))))))
      (λ i. Edit (user-is fields user sort id refl refl refl i)
      (Put (kind-is fields user sort id refl refl refl i) (id-is fields user sort id refl refl refl i)
      (seeks i) (asks i)
      (unwrap_or (acts i) (record { items = [] })) (first i) (last i)))

-- ---- receipts

privacy-named : (private : Bool) → privacy_named (privacy_text private) ≡ Some private
unfolding privacy_named
privacy-named true = refl
privacy-named false = refl

-- a thread that a receipt can name
abbrev pub is_thread : Option ThreadKey → Bool
is_thread None = true
is_thread (Some Main) = true
is_thread (Some (Root root)) = is_event_id root

abbrev told : Option Json → Option ThreadKey
told found = option_and_then thread_told found

abbrev tells : Option Json → Bool
tells found = option_map_or (λ value. is_some (thread_told value)) found true

thread-named : (text : List ℕ) (thread : ThreadKey) → thread_named text ≡ Some thread
    → thread_told (Text text) ≡ Some thread
thread-named text thread is = ap (option_and_then thread_named) (text_of-Text text) ∙ is

-- a root that is an event id isn't the word for the main thread

abbrev IsRootNamed : List ℕ → ℕ → Type 0
IsRootNamed rest first = is_event_id (first ∷ rest) ≡ true → thread_named (first ∷ rest) ≡ Some (Root (first ∷ rest))

dollar-named : (rest : List ℕ) → IsRootNamed rest 36
unfolding thread_named
dollar-named rest is = ap (λ b. cond b (Some (Root (36 ∷ rest))) None) is

root-named : (root : List ℕ) → is_event_id root ≡ true → thread_named root ≡ Some (Root root)
root-named [] is = absurd cc
root-named (first ∷ rest) is =
    let parts = and_parts (first == 36) (has_length_of_an_id (first ∷ rest)) is in
    subst (IsRootNamed rest) (sym (eqb-true first 36 parts.0)) (dollar-named rest) is

thread-told : (thread : Option ThreadKey) → is_thread thread ≡ true
    → (told (option_map Text (option_map thread_text thread)) ≡ thread)
    × (tells (option_map Text (option_map thread_text thread)) ≡ true)
unfolding thread_named
thread-told None is = (refl, refl)
thread-told (Some Main) is =
    let named = thread-named (codes "main") Main refl in (named, ap is_some named)
thread-told (Some (Root root)) is =
    let named = thread-named root (Root root) (root-named root is) in (named, ap is_some named)

pub receipt-reads : (user room event : List ℕ) (private : Bool) (thread : Option ThreadKey) → is_user_id user ≡ true
    → is_room_id room ≡ true → is_event_id event ≡ true → is_thread thread ≡ true
    → input_in (normal_of (Receipt user room event private thread)) ≡ Ok (Receipt user room event private thread)
unfolding input_word_named
receipt-reads user room event private thread local in_room of_event names =
    let input = Receipt user room event private thread in
    let fields = fields_given input in
    let has_thread : member (codes "thread_id") (object_of fields) ≡ option_map Text (option_map thread_text thread) =
    member-given (codes "thread_id") fields ∙ or_none (option_map Text (option_map thread_text thread)) in
    let tells_thread = thread-told thread names in
    let user_is : user_in (object_of fields) ≡ user =
    ap (λ o. unwrap_or o []) (text-read (codes "user") fields (Some user) refl) in
    let room_is : room_id_in (object_of fields) ≡ room =
    ap (λ o. unwrap_or o []) (text-read (codes "room_id") fields (Some room) refl) in
    let event_is : event_id_in (object_of fields) ≡ event =
    ap (λ o. unwrap_or o []) (text-read (codes "event_id") fields (Some event) refl) in
    let privacy_is : privacy_in (object_of fields) ≡ Some private =
    ap (option_and_then privacy_named) (text-read (codes "type") fields (Some (privacy_text private)) refl)
    ∙ privacy-named private in
    let thread_is : given_thread (object_of fields) ≡ thread = ap told has_thread ∙ tells_thread.0 in
    reads-form fields ReceiptWord (codes "receipt") (receipt_form (object_of fields)) input refl refl refl
    (right-all (receipt_form (object_of fields)).fields
    (and_from _ _ (ap is_user_id user_is ∙ local)
    (and_from _ _ (ap is_room_id room_is ∙ in_room)
    (and_from _ _ (ap is_event_id event_is ∙ of_event)
    (and_from _ _ (ap is_some privacy_is)
    (and_from _ _ (ap tells has_thread ∙ tells_thread.1) refl))))))
    (λ i. Receipt (user_is i) (room_is i) (event_is i) (unwrap_or (privacy_is i) false) (thread_is i))
