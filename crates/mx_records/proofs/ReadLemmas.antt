-- What a valid value is read as is normal: its object is valid, and is read as it again.
use Rattle.std.proofs.Common.{◌≡◌, ◌<◌, ◌^◌, ◌==◌, ℕ, ℤ, pos, negsuc, Bool, true, false, cond, ◌&&◌, ◌||◌, List, []}
use Rattle.std.proofs.Common.{◌∷◌, ◌++◌, map, codes, Option, Some, None, is_some, option_map, option_and_then}
use Rattle.std.proofs.Common.{unwrap_or, Result, Ok, Err, IfOk, refl, ap, sym, subst, ◌∙◌, arith}
use Rattle.std.proofs.lemmas.Bool.{and_from, and_parts}
use Rattle.std.specs.List.{list_all}
use Rattle.std.specs.Option.{option_map_or, option_or}
use Rattle.std.specs.Str.{bytes_eq, is_utf8}
use Rattle.mx_event.specs.Event.{fields_of}
use Rattle.mx_json.specs.declared.value.Json.{Json, Null, Truth, Whole, Text, List as ListOf, Object, out-Json}
use Rattle.mx_json.specs.declared.value.JsonList.{JsonList}
use Rattle.mx_json.specs.declared.value.JsonObject.{JsonObject}
use Rattle.mx_json.specs.Gives.{Gives}
use Rattle.mx_json.specs.Ids.{is_event_id, is_user_id}
use Rattle.mx_json.specs.Json.{are_rising, is_object, is_valid, member, text_at, text_of, text_or_empty, top_pairs}
use Rattle.mx_json.specs.Json.{truth_at, whole_at}
use Rattle.mx_json.proofs.ObjectLemmas.{is_fit-Null, is_fit-Text, is_fit-Truth, is_utf8-ascii}
use Rattle.mx_json.proofs.RisingLemmas.{keys_of}
use Rattle.mx_rows.specs.declared.thread_key.ThreadKey.{ThreadKey}
use Rattle.mx_rows.specs.declared.thread_key.ThreadKey.TheVariants.{Main, Root}
use Rattle.mx_rule.specs.declared.edit.Edit.TheVariants.{Put, Delete, Enable, SetActions}
use Rattle.mx_rule.specs.declared.kind.Kind.{Kind}
use Rattle.mx_rule.specs.declared.kind.Kind.TheVariants as kind
use Rattle.mx_records.specs.declared.field_name.FieldName.{FieldName}
use Rattle.mx_records.specs.declared.field_name.FieldName.TheVariants.{Cmd, Enabled}
use Rattle.mx_records.specs.declared.input.Input.{Input}
use Rattle.mx_records.specs.declared.input.Input.TheVariants.{Event, Edit, Receipt, Pusher}
use Rattle.mx_records.specs.declared.input_error.InputError.{InputError}
use Rattle.mx_records.specs.declared.input_error.InputError.TheVariants.{BadField, OutOfMemory as WantOfMemory}
use Rattle.mx_records.specs.declared.input_word.InputWord.{InputWord}
use Rattle.mx_records.specs.declared.input_word.InputWord.TheVariants as word
use Rattle.mx_records.specs.Forms.{Form, actions_field, edited_kind_in, event_form, event_in, given_list, given_thread}
use Rattle.mx_records.specs.Forms.{input_form_of, input_in, is_rule_id, kind_in, name_in_event, privacy_in, event_id_in}
use Rattle.mx_records.specs.Forms.{room_id_in, put_form, delete_form, enable_form, set_actions_form, read_fields}
use Rattle.mx_records.specs.Forms.{receipt_form, rule_fields, rule_id_in, thread_named, thread_told, user_in}
use Rattle.mx_records.specs.Forms.{value_of_form}
use Rattle.mx_records.specs.InputWords.{input_word_in, input_word_named}
use Rattle.mx_records.specs.Normal.{Field, edit_fields, fields_given, given_pairs, kind_text, normal_of, object_of}
use Rattle.mx_records.specs.Normal.{privacy_text, text_field, text_if_given, thread_text, IsNormal}
use Rattle.mx_records.proofs.FormLemmas.{AreRight, found-right}
use Rattle.mx_records.proofs.GivenLemmas.{fit-member, fits, fits-list, fits-list_if, fits-text, fits-text_if}
use Rattle.mx_records.proofs.GivenLemmas.{fits-value, text-member, valid-object}
use Rattle.mx_records.proofs.NormalLemmas.{actions-reads, delete-reads, enable-reads, event-reads, event_in-normal}
use Rattle.mx_records.proofs.NormalLemmas.{is_thread, each-right, put-reads, put_rest, receipt-reads, right-left}
use Rattle.mx_records.proofs.NormalLemmas.{right-parts}
use Rattle.mx_records.proofs.PusherLemmas.{pusher-normal}

-- ---- texts that are words

kind-utf8 : (sort : Kind) → is_utf8 (kind_text sort) ≡ true
kind-utf8 kind.Override = is_utf8-ascii (codes "override") refl
kind-utf8 kind.Content = is_utf8-ascii (codes "content") refl
kind-utf8 kind.Room = is_utf8-ascii (codes "room") refl
kind-utf8 kind.Sender = is_utf8-ascii (codes "sender") refl
kind-utf8 kind.Underride = is_utf8-ascii (codes "underride") refl

fits-kind : (sort : Kind) → fits (text_field (codes "kind") (kind_text sort)) ≡ true
fits-kind sort = is_fit-Text (codes "kind") (kind_text sort) (is_utf8-ascii (codes "kind") refl) (kind-utf8 sort)

fits-cmd : (spelled : List ℕ) → is_utf8 spelled ≡ true → fits (text_field (codes "cmd") spelled) ≡ true
fits-cmd spelled utf8 = is_fit-Text (codes "cmd") spelled (is_utf8-ascii (codes "cmd") refl) utf8

-- ---- events

event-normal : (json : Json) → is_valid json ≡ true → AreRight (event_form json).fields
    → IsNormal (event_form json).value
event-normal json valid right = record {
  valid = valid-object (fields_given (Event (event_in json))) refl
      (and_from _ _ (fits-cmd (codes "event") (is_utf8-ascii (codes "event") refl))
      (and_from _ _ (fits-value (codes "event") json (is_utf8-ascii (codes "event") refl) valid) refl));
  reads = event-reads (event_in json)
      (subst (λ (event : Json). AreRight (map (λ field. (name_in_event field.0, field.1)) (fields_of event)))
      (sym (event_in-normal (event_in json))) right);
}

-- ---- edits

put-rising : (user : List ℕ) (sort : Kind) (id : List ℕ) (actions : JsonList) (after before : Option (List ℕ))
    (conditions : Option JsonList) (pattern : Option (List ℕ))
    → are_rising (keys_of (given_pairs (edit_fields user (Put sort id pattern conditions actions before after)))) ≡ true
put-rising user sort id actions None None None None = refl
put-rising user sort id actions None None None (Some x3) = refl
put-rising user sort id actions None None (Some x2) None = refl
put-rising user sort id actions None None (Some x2) (Some x3) = refl
put-rising user sort id actions None (Some x1) None None = refl
put-rising user sort id actions None (Some x1) None (Some x3) = refl
put-rising user sort id actions None (Some x1) (Some x2) None = refl
put-rising user sort id actions None (Some x1) (Some x2) (Some x3) = refl
put-rising user sort id actions (Some x0) None None None = refl
put-rising user sort id actions (Some x0) None None (Some x3) = refl
put-rising user sort id actions (Some x0) None (Some x2) None = refl
put-rising user sort id actions (Some x0) None (Some x2) (Some x3) = refl
put-rising user sort id actions (Some x0) (Some x1) None None = refl
put-rising user sort id actions (Some x0) (Some x1) None (Some x3) = refl
put-rising user sort id actions (Some x0) (Some x1) (Some x2) None = refl
put-rising user sort id actions (Some x0) (Some x1) (Some x2) (Some x3) = refl

module _ (json : Json) (valid : is_valid json ≡ true) where
  fits-rule : list_all fits
      (text_field (codes "rule_id") (rule_id_in json) ∷ text_field (codes "user") (user_in json) ∷ []) ≡ true
  fits-rule =
      and_from _ _ (fits-text (codes "rule_id") json (is_utf8-ascii (codes "rule_id") refl) valid)
      (and_from _ _ (fits-text (codes "user") json (is_utf8-ascii (codes "user") refl) valid) refl)

  -- whose rule is edited, and which one
  rule-is : AreRight (rule_fields json) → (is_user_id (user_in json) ≡ true) × (is_rule_id (rule_id_in json) ≡ true)
  rule-is right =
      let each = each-right (rule_fields json) right in (each.0, each.1.1.0)

  delete-normal : AreRight (delete_form json).fields → IsNormal (delete_form json).value
  delete-normal right =
      let rule = rule-is right in
      record {
        valid = valid-object (edit_fields (user_in json) (Delete (edited_kind_in json) (rule_id_in json))) refl
            (and_from _ _ (fits-cmd (codes "rule_delete") (is_utf8-ascii (codes "rule_delete") refl))
            (and_from _ _ (fits-kind (edited_kind_in json)) fits-rule));
        reads = delete-reads (user_in json) (edited_kind_in json) (rule_id_in json) rule.0 rule.1;
      }

  enable-normal : AreRight (enable_form json).fields → IsNormal (enable_form json).value
  enable-normal right =
      let rule =
      rule-is (right-left (rule_fields json) ((Enabled, is_some (truth_at (codes "enabled") json)) ∷ []) right).0 in
      let enabled = unwrap_or (truth_at (codes "enabled") json) false in
      record {
        valid = valid-object (edit_fields (user_in json) (Enable (edited_kind_in json) (rule_id_in json) enabled)) refl
            (and_from _ _ (fits-cmd (codes "rule_enable") (is_utf8-ascii (codes "rule_enable") refl))
            (and_from _ _ (is_fit-Truth (codes "enabled") enabled (is_utf8-ascii (codes "enabled") refl))
            (and_from _ _ (fits-kind (edited_kind_in json)) fits-rule)));
        reads = enable-reads (user_in json) (edited_kind_in json) (rule_id_in json) rule.0 rule.1 enabled;
      }

  fits-actions : AreRight (actions_field json ∷ []) → fits (
    codes "actions",
    Some (ListOf (unwrap_or (given_list (codes "actions") json) (record { items = [] }))),
  ) ≡ true
  fits-actions right =
      fits-list (codes "actions") json (is_utf8-ascii (codes "actions") refl) valid
      (right-parts (actions_field json) [] right).0

  actions-normal : AreRight (set_actions_form json).fields → IsNormal (set_actions_form json).value
  actions-normal right =
      let parts = right-left (rule_fields json) (actions_field json ∷ []) right in
      let rule = rule-is parts.0 in
      let actions = unwrap_or (given_list (codes "actions") json) (record { items = [] }) in
      record {
        valid =
            valid-object (edit_fields (user_in json) (SetActions (edited_kind_in json) (rule_id_in json) actions)) refl
            (and_from _ _ (fits-actions parts.1)
            (and_from _ _ (fits-cmd (codes "rule_actions") (is_utf8-ascii (codes "rule_actions") refl))
            (and_from _ _ (fits-kind (edited_kind_in json)) fits-rule)));
        reads = actions-reads (user_in json) (edited_kind_in json) (rule_id_in json) rule.0 rule.1 actions;
      }

  put-normal : AreRight (put_form json).fields → IsNormal (put_form json).value
  put-normal right =
      let parts = right-left (rule_fields json) (put_rest json) right in
      let rule = rule-is parts.0 in
      let does = (each-right (put_rest json) parts.1).0 in
      let actions = unwrap_or (given_list (codes "actions") json) (record { items = [] }) in
      let conditions = given_list (codes "conditions") json in
      let pattern = text_at (codes "pattern") json in
      let before = text_at (codes "before") json in
      let after = text_at (codes "after") json in
      record {
        valid = valid-object (edit_fields (user_in json)
            (Put (edited_kind_in json) (rule_id_in json) pattern conditions actions before after))
            (put-rising (user_in json) (edited_kind_in json) (rule_id_in json) actions after before conditions pattern)
            (and_from _ _ (fits-list (codes "actions") json (is_utf8-ascii (codes "actions") refl) valid does)
            (and_from _ _ (fits-text_if (codes "after") json (is_utf8-ascii (codes "after") refl) valid)
            (and_from _ _ (fits-text_if (codes "before") json (is_utf8-ascii (codes "before") refl) valid)
            (and_from _ _ (fits-cmd (codes "rule_put") (is_utf8-ascii (codes "rule_put") refl))
            (and_from _ _ (fits-list_if (codes "conditions") json (is_utf8-ascii (codes "conditions") refl) valid)
            (and_from _ _ (fits-kind (edited_kind_in json))
            (and_from _ _
            (fits-text_if (codes "pattern") json (is_utf8-ascii (codes "pattern") refl) valid) fits-rule)))))));
        reads = put-reads (user_in json) (edited_kind_in json)
            (rule_id_in json) rule.0 rule.1 pattern conditions actions before after;
      }

-- ---- receipts

-- the thread that is given, by the text that names it
given_thread-text : (json : Json) → given_thread json ≡ option_and_then thread_named (text_at (codes "thread_id") json)
given_thread-text json = by (member (codes "thread_id") json)
  where
    by : (found : Option Json)
        → option_and_then thread_told found ≡ option_and_then thread_named (option_and_then text_of found)
    by None = refl
    by (Some value) = refl

is_thread-named : (text : List ℕ) → is_thread (thread_named text) ≡ true
unfolding thread_named
is_thread-named text = by (bytes_eq text (codes "main")) (is_event_id text) refl
  where
    by : (main root : Bool) → is_event_id text ≡ root
        → is_thread (cond main (Some Main) (cond root (Some (Root text)) None)) ≡ true
    by true root is = refl
    by false true is = is
    by false false is = refl

is_thread-given : (json : Json) → is_thread (given_thread json) ≡ true
is_thread-given json = ap is_thread (given_thread-text json) ∙ by (text_at (codes "thread_id") json)
  where
    by : (text : Option (List ℕ)) → is_thread (option_and_then thread_named text) ≡ true
    by None = refl
    by (Some text) = is_thread-named text

abbrev fits_thread : Option ThreadKey → Bool
fits_thread thread = fits (text_if_given (codes "thread_id") (option_map thread_text thread))

fits-named : (json : Json) (text : List ℕ) → is_valid json ≡ true → text_at (codes "thread_id") json ≡ Some text
    → fits_thread (thread_named text) ≡ true
unfolding thread_named
fits-named json text valid is = by (bytes_eq text (codes "main")) (is_event_id text)
  where
    by : (main root : Bool) → fits_thread (cond main (Some Main) (cond root (Some (Root text)) None)) ≡ true
    by true root = is_fit-Text (codes "thread_id") (codes "main") (is_utf8-ascii (codes "thread_id") refl)
        (is_utf8-ascii (codes "main") refl)
    by false true =
        fit-member (codes "thread_id") json (Text text) (is_utf8-ascii (codes "thread_id") refl) valid
        (text-member (codes "thread_id") json text is)
    by false false = refl

fits-thread : (json : Json) → is_valid json ≡ true → fits_thread (given_thread json) ≡ true
fits-thread json valid = ap fits_thread (given_thread-text json) ∙ by (text_at (codes "thread_id") json) refl
  where
    by : (text : Option (List ℕ)) → text_at (codes "thread_id") json ≡ text
        → fits_thread (option_and_then thread_named text) ≡ true
    by None is = refl
    by (Some text) is = fits-named json text valid is

privacy-utf8 : (private : Bool) → is_utf8 (privacy_text private) ≡ true
privacy-utf8 true = is_utf8-ascii (codes "m.read.private") refl
privacy-utf8 false = is_utf8-ascii (codes "m.read") refl

receipt-rising : (user room event : List ℕ) (private : Bool) (thread : Option ThreadKey)
    → are_rising (keys_of (given_pairs (fields_given (Receipt user room event private thread)))) ≡ true
receipt-rising user room event private None = refl
receipt-rising user room event private (Some thread) = refl

receipt-normal : (json : Json) → is_valid json ≡ true → AreRight (receipt_form json).fields
    → IsNormal (receipt_form json).value
receipt-normal json valid right =
    let each = each-right (receipt_form json).fields right in
    let user = user_in json in
    let room = room_id_in json in
    let event = event_id_in json in
    let private = unwrap_or (privacy_in json) false in
    let thread = given_thread json in
    record {
      valid = valid-object (fields_given (Receipt user room event private thread))
          (receipt-rising user room event private thread)
          (and_from _ _ (fits-cmd (codes "receipt") (is_utf8-ascii (codes "receipt") refl))
          (and_from _ _ (fits-text (codes "event_id") json (is_utf8-ascii (codes "event_id") refl) valid)
          (and_from _ _ (fits-text (codes "room_id") json (is_utf8-ascii (codes "room_id") refl) valid)
          (and_from _ _ (fits-thread json valid)
          (and_from _ _
          (is_fit-Text (codes "type") (privacy_text private) (is_utf8-ascii (codes "type") refl) (privacy-utf8 private))
          (and_from _ _ (fits-text (codes "user") json (is_utf8-ascii (codes "user") refl) valid) refl))))));
      reads = receipt-reads user room event private thread each.0 each.1.0 each.1.1.0 (is_thread-given json);
    }

-- ---- all inputs

form-normal : (word : InputWord) (json : Json) (form : Form Input) → is_valid json ≡ true
    → input_form_of word json ≡ Some form → AreRight form.fields → IsNormal form.value
form-normal of json form valid is right = by of is
  where
    moved : (told : Form Input) → Some told ≡ Some form → (AreRight told.fields → IsNormal told.value)
        → IsNormal form.value
    moved told is normal =
        let same : told ≡ form = cc in
        subst (λ (form : Form Input). IsNormal form.value) same
        (normal (subst (λ (form : Form Input). AreRight form.fields) (sym same) right))

    by : (of : InputWord) → input_form_of of json ≡ Some form → IsNormal form.value
    by word.Event is = moved (event_form json) is (event-normal json valid)
    by word.RulePut is = moved (put_form json) is (put-normal json valid)
    by word.RuleDelete is = moved (delete_form json) is (delete-normal json valid)
    by word.RuleEnable is = moved (enable_form json) is (enable-normal json valid)
    by word.RuleActions is = moved (set_actions_form json) is (actions-normal json valid)
    by word.Receipt is = moved (receipt_form json) is (receipt-normal json valid)
    by word.Pusher is = moved _ is (pusher-normal json valid)

abbrev by_form : Option (Form Input) → Result Input InputError
by_form form = option_map_or (value_of_form BadField) form (Err (BadField Cmd))

-- What a valid value is read as is normal.
pub read-normal : (json : Json) (input : Input) → is_valid json ≡ true → input_in json ≡ Ok input → IsNormal input
unfolding input_in
read-normal json input valid is = by (input_word_in json) is
  where
    with_form : (form : Form Input) (of : InputWord) → input_form_of of json ≡ Some form
        → value_of_form BadField form ≡ Ok input → IsNormal input
    with_form form of has is =
        let found = found-right form.fields form.value input is in
        subst IsNormal found.1 (form-normal of json form valid has found.0)

    by_word : (of : InputWord) (form : Option (Form Input)) → input_form_of of json ≡ form → by_form form ≡ Ok input
        → IsNormal input
    by_word of None has is = absurd cc
    by_word of (Some form) has is = with_form form of has is

    by : (of : Option InputWord) → by_form (option_and_then (λ word. input_form_of word json) of) ≡ Ok input
        → IsNormal input
    by None is = absurd cc
    by (Some of) is = by_word of (input_form_of of json) refl is

-- the same of a reading that may want for memory
pub gives-normal : (json : Json) (result : Result Input InputError) → is_valid json ≡ true
    → Gives WantOfMemory result (input_in json) → IfOk result IsNormal
gives-normal json (Ok input) valid is = read-normal json input valid is
gives-normal json (Err error) valid is = tt
