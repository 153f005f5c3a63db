-- What an object has to hold to be an input, field by field: ours.
use Rattle.std.specs.Prelude.{ℕ, ℤ, pos, negsuc, Bool, true, false, ◌&&◌, ◌||◌, nat_le, if◌then◌else◌, List, [], ◌∷◌}
use Rattle.std.specs.Prelude.{◌++◌, length, map, chars, codes, Option, None, Some, is_some, option_and_then, option_map}
use Rattle.std.specs.Prelude.{unwrap_or, Result, Ok, Err}
use Rattle.std.specs.Option.{option_map_or}
use Rattle.std.specs.Str.{bytes_eq}
use Rattle.mx_json.specs.declared.value.Json.{Json, Null, out-Json}
use Rattle.mx_json.specs.declared.value.Json.TheOpen.{Json-F}
use Rattle.mx_json.specs.declared.value.JsonList.{JsonList}
use Rattle.mx_json.specs.declared.value.JsonObject.{JsonObject}
use Rattle.mx_json.specs.Ids.{is_event_id, is_room_id, is_user_id}
use Rattle.mx_json.specs.Json.{is_object, list_at, list_of, member, text_at, text_of, text_or_empty, top_pairs}
use Rattle.mx_json.specs.Json.{truth_at, truth_of, whole_at}
use Rattle.mx_event.specs.declared.error.EventField.{EventField}
use Rattle.mx_event.specs.declared.error.EventField.TheVariants as event_field
use Rattle.mx_event.specs.Event.{fields_of, first_wrong}
use Rattle.mx_rows.specs.declared.thread_key.ThreadKey.{ThreadKey}
use Rattle.mx_rows.specs.declared.thread_key.ThreadKey.TheVariants.{Main, Root}
use Rattle.mx_rule.specs.declared.edit.Edit.TheVariants.{Put, Delete, Enable, SetActions}
use Rattle.mx_rule.specs.declared.kind.Kind.{Kind}
use Rattle.mx_rule.specs.declared.kind.Kind.TheVariants as kind
use Rattle.mx_records.specs.declared.field_name.FieldName.{FieldName}
use Rattle.mx_records.specs.declared.field_name.FieldName.TheVariants.{Cmd, EventEventId, EventRoomId, EventSender}
use Rattle.mx_records.specs.declared.field_name.FieldName.TheVariants.{EventKind, EventContent, EventStateKey, User}
use Rattle.mx_records.specs.declared.field_name.FieldName.TheVariants.{Kind as KindField, RuleId, Actions, Conditions}
use Rattle.mx_records.specs.declared.field_name.FieldName.TheVariants.{Pattern, Before, After, Enabled, RoomId, EventId}
use Rattle.mx_records.specs.declared.field_name.FieldName.TheVariants.{ReceiptKind, ThreadId, Pushkey, AppId}
use Rattle.mx_records.specs.declared.field_name.FieldName.TheVariants.{AppDisplayName, DeviceDisplayName, Lang, Data}
use Rattle.mx_records.specs.declared.field_name.FieldName.TheVariants.{DataUrl, DataFormat, Append, Ts}
use Rattle.mx_records.specs.declared.input.Input.{Input}
use Rattle.mx_records.specs.declared.input.Input.TheVariants.{Event, Edit, Receipt, Pusher}
use Rattle.mx_records.specs.declared.input_error.InputError.{InputError}
use Rattle.mx_records.specs.declared.input_error.InputError.TheVariants.{BadField}
use Rattle.mx_records.specs.declared.input_word.InputWord.{InputWord}
use Rattle.mx_records.specs.declared.input_word.InputWord.TheVariants.{Event as EventWord, RulePut, RuleDelete}
use Rattle.mx_records.specs.declared.input_word.InputWord.TheVariants.{RuleEnable, RuleActions, Receipt as ReceiptWord}
use Rattle.mx_records.specs.declared.input_word.InputWord.TheVariants.{Pusher as PusherWord}
use Rattle.mx_records.specs.declared.pusher_spec.HttpPusher.{HttpPusher}
use Rattle.mx_records.specs.declared.pusher_spec.PusherSpec.{PusherSpec}
use Rattle.mx_records.specs.InputWords.{input_word_in}

-- A form: the fields of an object in their order, each with whether it is right, and what the
-- object is where all are.
pub record Form (A : Type 0) : Type 0 where
  pub fields : List (FieldName × Bool)
  pub value : A

-- what the object of a form is, or the refusal of the first field that is missing or wrong
abbrev pub value_of_form : {A E : Type 0} → (FieldName → E) → Form A → Result A E
value_of_form refusal form =
    option_map_or (λ field. Err (refusal field)) (first_wrong form.fields) (Ok form.value)

-- the value of one field, or its refusal; for private clauses
abbrev pub checked : {A : Type 0} → FieldName → Bool → A → Result A InputError
checked field is_right value =
    value_of_form BadField (record { fields = (field, is_right) ∷ []; value = value })

-- ---- the forms of the inputs

-- the value of `event`, and null where there is none
abbrev pub event_in : Json → Json
event_in json = unwrap_or (member (codes "event") json) Null

-- the name of an event's field, seen from the object that holds the event
abbrev pub name_in_event : EventField → FieldName
name_in_event event_field.EventId = EventEventId
name_in_event event_field.RoomId = EventRoomId
name_in_event event_field.Sender = EventSender
name_in_event event_field.Kind = EventKind
name_in_event event_field.Content = EventContent
name_in_event event_field.StateKey = EventStateKey

-- `event`: the fields of an event, in their order
abbrev pub event_form : Json → Form Input
event_form json = record {
  fields = map (λ field. (name_in_event field.0, field.1)) (fields_of (event_in json));
  value = Event (event_in json);
}

-- ---- what stands in an edit of rules

-- the value of `user`, and the empty text where that is none
abbrev pub user_in : Json → List ℕ
user_in json = text_or_empty (codes "user") json

-- the kind of rules that a text names
unfoldable pub kind_named : List ℕ → Option Kind
kind_named text =
    if bytes_eq text (codes "override") then Some kind.Override
    else (if bytes_eq text (codes "content") then Some kind.Content
    else (if bytes_eq text (codes "room") then Some kind.Room
    else (if bytes_eq text (codes "sender") then Some kind.Sender
    else (if bytes_eq text (codes "underride") then Some kind.Underride
    else None))))

-- the kind of rules that stands under `kind`
abbrev pub kind_in : Json → Option Kind
kind_in json = option_and_then kind_named (text_at (codes "kind") json)

-- the kind of rules that is edited; where none is named the field `kind` is wrong
abbrev pub edited_kind_in : Json → Kind
edited_kind_in json = unwrap_or (kind_in json) kind.Override

-- the value of `rule_id`, and the empty text where that is none
abbrev pub rule_id_in : Json → List ℕ
rule_id_in json = text_or_empty (codes "rule_id") json

-- a rule's id has 1 to 512 bytes
abbrev pub is_rule_id : List ℕ → Bool
is_rule_id id = nat_le 1 (length id) && nat_le (length id) 512

-- the list that stands under a key
abbrev pub given_list : List ℕ → Json → Option JsonList
given_list key json = option_map (λ items. record { items = items }) (list_at key json)

-- the list under `actions`, and the empty one where there is none
abbrev pub actions_in : Json → JsonList
actions_in json = unwrap_or (given_list (codes "actions") json) (record { items = [] })

-- nothing stands under a key, or a text
abbrev pub has_text_or_none : List ℕ → Json → Bool
has_text_or_none key json = option_map_or (λ value. is_some (text_of value)) (member key json) true

-- nothing stands under a key, or a list
abbrev pub has_list_or_none : List ℕ → Json → Bool
has_list_or_none key json = option_map_or (λ value. is_some (list_of value)) (member key json) true

-- whose rule is edited, of which kind, and which one
abbrev pub rule_fields : Json → List (FieldName × Bool)
rule_fields json =
    (User, is_user_id (user_in json)) ∷ (KindField, is_some (kind_in json))
    ∷ (RuleId, is_rule_id (rule_id_in json)) ∷ []

-- the rule that is edited: its user, its kind and its id; for private clauses
abbrev pub rule_form : Json → Form (List ℕ × Kind × List ℕ)
rule_form json = record {
  fields = rule_fields json;
  value = (user_in json, edited_kind_in json, rule_id_in json);
}

-- the actions that a rule is to have
abbrev pub actions_field : Json → FieldName × Bool
actions_field json = (Actions, is_some (list_at (codes "actions") json))

-- beside which rules a rule is to stand
abbrev pub anchor_fields : Json → List (FieldName × Bool)
anchor_fields json =
    (Before, has_text_or_none (codes "before") json) ∷ (After, has_text_or_none (codes "after") json) ∷ []

-- the rules that stand under `before` and under `after`; for private clauses
abbrev pub anchors_form : Json → Form (Option (List ℕ) × Option (List ℕ))
anchors_form json = record {
  fields = anchor_fields json;
  value = (text_at (codes "before") json, text_at (codes "after") json);
}

-- the fields of `rule_put`
abbrev pub put_fields : Json → List (FieldName × Bool)
put_fields json =
    rule_fields json
    ++ (actions_field json ∷ (Conditions, has_list_or_none (codes "conditions") json)
    ∷ (Pattern, has_text_or_none (codes "pattern") json) ∷ anchor_fields json)

-- `rule_put`
abbrev pub put_form : Json → Form Input
put_form json = record {
  fields = put_fields json;
  value = Edit (user_in json)
      (Put (edited_kind_in json) (rule_id_in json) (text_at (codes "pattern") json)
      (given_list (codes "conditions") json) (actions_in json) (text_at (codes "before") json)
      (text_at (codes "after") json));
}

-- `rule_delete`
abbrev pub delete_form : Json → Form Input
delete_form json = record {
  fields = rule_fields json;
  value = Edit (user_in json) (Delete (edited_kind_in json) (rule_id_in json));
}

-- `rule_enable`
abbrev pub enable_form : Json → Form Input
enable_form json = record {
  fields = rule_fields json ++ (Enabled, is_some (truth_at (codes "enabled") json)) ∷ [];
  value = Edit (user_in json)
      (Enable (edited_kind_in json) (rule_id_in json) (unwrap_or (truth_at (codes "enabled") json) false));
}

-- `rule_actions`
abbrev pub set_actions_form : Json → Form Input
set_actions_form json = record {
  fields = rule_fields json ++ actions_field json ∷ [];
  value = Edit (user_in json) (SetActions (edited_kind_in json) (rule_id_in json) (actions_in json));
}

-- ---- what stands in a receipt

-- the value of `room_id`, and the empty text where that is none
abbrev pub room_id_in : Json → List ℕ
room_id_in json = text_or_empty (codes "room_id") json

-- the value of `event_id`, and the empty text where that is none
abbrev pub event_id_in : Json → List ℕ
event_id_in json = text_or_empty (codes "event_id") json

-- a receipt of the type that a text names is public, or private; other texts name none
unfoldable pub privacy_named : List ℕ → Option Bool
privacy_named text =
    if bytes_eq text (codes "m.read") then Some false
    else (if bytes_eq text (codes "m.read.private") then Some true else None)

-- whether the receipt of the type under `type` is private
abbrev pub privacy_in : Json → Option Bool
privacy_in json = option_and_then privacy_named (text_at (codes "type") json)

-- the thread that a text names: the main one, or that of the root with this id
unfoldable pub thread_named : List ℕ → Option ThreadKey
thread_named text =
    if bytes_eq text (codes "main") then Some Main
    else (if is_event_id text then Some (Root text) else None)

-- the thread that a value names
abbrev pub thread_told : Json → Option ThreadKey
thread_told value = option_and_then thread_named (text_of value)

-- nothing stands under `thread_id`, or what names a thread
abbrev pub has_thread_or_none : Json → Bool
has_thread_or_none json =
    option_map_or (λ value. is_some (thread_told value)) (member (codes "thread_id") json) true

-- the thread that stands under `thread_id`
abbrev pub given_thread : Json → Option ThreadKey
given_thread json = option_and_then thread_told (member (codes "thread_id") json)

-- who read, in which room, and up to which event
abbrev pub read_fields : Json → List (FieldName × Bool)
read_fields json =
    (User, is_user_id (user_in json)) ∷ (RoomId, is_room_id (room_id_in json))
    ∷ (EventId, is_event_id (event_id_in json)) ∷ []

-- what was read: the user, the room and the event; for private clauses
abbrev pub read_form : Json → Form (List ℕ × List ℕ × List ℕ)
read_form json = record {
  fields = read_fields json;
  value = (user_in json, room_id_in json, event_id_in json);
}

-- `receipt`
abbrev pub receipt_form : Json → Form Input
receipt_form json = record {
  fields = read_fields json
      ++ ((ReceiptKind, is_some (privacy_in json)) ∷ (ThreadId, has_thread_or_none json) ∷ []);
  value = Receipt (user_in json) (room_id_in json) (event_id_in json) (unwrap_or (privacy_in json) false)
      (given_thread json);
}

-- ---- what stands in a setting of a pusher

-- the value of `pushkey`, and the empty text where that is none
abbrev pub pushkey_in : Json → List ℕ
pushkey_in json = text_or_empty (codes "pushkey") json

-- a pushkey has 1 to 512 bytes
abbrev pub is_pushkey : List ℕ → Bool
is_pushkey key = nat_le 1 (length key) && nat_le (length key) 512

-- the value of `app_id`, and the empty text where that is none
abbrev pub app_id_in : Json → List ℕ
app_id_in json = text_or_empty (codes "app_id") json

-- an app's id has 1 to 64 characters
abbrev pub is_app_id : List ℕ → Bool
is_app_id id = nat_le 1 (length (chars id)) && nat_le (length (chars id)) 64

-- what stands at the top of a value is `null`
abbrev pub is_null_at_top : Json-F Json JsonList JsonObject → Bool
is_null_at_top Json-F.Null = true
is_null_at_top other = false

-- the value is `null`
abbrev pub is_null : Json → Bool
is_null json = is_null_at_top (out-Json json)

-- the value is the text `http`
abbrev pub is_http : Json → Bool
is_http json = option_map_or (λ text. bytes_eq text (codes "http")) (text_of json) false

-- the kind of a pusher is `http`, or `null` where it is taken away
abbrev pub has_pusher_kind : Json → Bool
has_pusher_kind json = option_map_or (λ kind. is_http kind || is_null kind) (member (codes "kind") json) false

-- the pusher is set, and not taken away
abbrev pub is_set : Json → Bool
is_set json = option_map_or is_http (member (codes "kind") json) false

-- the value of `data`, and null where there is none
abbrev pub data_in : Json → Json
data_in json = unwrap_or (member (codes "data") json) Null

-- the object that stands under `data`
abbrev pub details_in : Json → JsonObject
details_in json = record { pairs = top_pairs (out-Json (data_in json)) }

-- a gateway's URL has at most 2,048 bytes
abbrev pub is_short_url : List ℕ → Bool
is_short_url text = nat_le (length text) 2048

-- a URL stands under `url`
abbrev pub has_url : Json → Bool
has_url details = option_map_or is_short_url (text_at (codes "url") details) false

-- nothing stands under a key, or a truth value
abbrev pub has_truth_or_none : List ℕ → Json → Bool
has_truth_or_none key json = option_map_or (λ value. is_some (truth_of value)) (member key json) true

-- a number of seconds is at least 0
abbrev pub seconds_told : ℤ → Option ℕ
seconds_told (pos seconds) = Some seconds
seconds_told (negsuc below) = None

-- the seconds under `ts`
abbrev pub seconds_in : Json → Option ℕ
seconds_in json = option_and_then seconds_told (whole_at (codes "ts") json)

-- whose pusher is set, which one, and whether it posts
abbrev pub named_fields : Json → List (FieldName × Bool)
named_fields json =
    (User, is_user_id (user_in json)) ∷ (Pushkey, is_pushkey (pushkey_in json))
    ∷ (AppId, is_app_id (app_id_in json)) ∷ (KindField, has_pusher_kind json) ∷ []

-- which pusher is set: its user, its pushkey and its app; for private clauses
abbrev pub named_form : Json → Form (List ℕ × List ℕ × List ℕ × Bool)
named_form json = record {
  fields = named_fields json;
  value = (user_in json, pushkey_in json, app_id_in json, is_set json);
}

-- the names that a pusher shows to people
abbrev pub shown_fields : Json → List (FieldName × Bool)
shown_fields json =
    (AppDisplayName, is_some (text_at (codes "app_display_name") json))
    ∷ (DeviceDisplayName, is_some (text_at (codes "device_display_name") json))
    ∷ (Lang, is_some (text_at (codes "lang") json)) ∷ []

-- the names that a pusher shows, and its language; for private clauses
abbrev pub shown_form : Json → Form (List ℕ × List ℕ × List ℕ)
shown_form json = record {
  fields = shown_fields json;
  value = (
    text_or_empty (codes "app_display_name") json,
    text_or_empty (codes "device_display_name") json,
    text_or_empty (codes "lang") json,
  );
}

-- what the gateway is told
abbrev pub data_fields : Json → List (FieldName × Bool)
data_fields json =
    (Data, is_object (data_in json)) ∷ (DataUrl, has_url (data_in json))
    ∷ (DataFormat, has_text_or_none (codes "format") (data_in json)) ∷ []

-- the object that the gateway is told; for private clauses
abbrev pub data_form : Json → Form JsonObject
data_form json = record { fields = data_fields json; value = details_in json }

-- whether other users' pushers stay
abbrev pub append_field : Json → FieldName × Bool
append_field json = (Append, has_truth_or_none (codes "append") json)

-- when the pusher was set
abbrev pub ts_field : Json → FieldName × Bool
ts_field json = (Ts, is_some (seconds_in json))

-- the fields of a pusher that posts
abbrev pub http_fields : Json → List (FieldName × Bool)
http_fields json = shown_fields json ++ (data_fields json ++ (append_field json ∷ ts_field json ∷ []))

-- the pusher that posts
abbrev pub http_in : Json → HttpPusher
http_in json = record {
  app_display_name = text_or_empty (codes "app_display_name") json;
  device_display_name = text_or_empty (codes "device_display_name") json;
  lang = text_or_empty (codes "lang") json;
  details = details_in json;
  append = truth_at (codes "append") json;
  ts = unwrap_or (seconds_in json) 0;
}

-- how the pusher posts; for private clauses
abbrev pub http_form : Json → Form HttpPusher
http_form json = record { fields = http_fields json; value = http_in json }

-- how the pusher posts, if it is set; for private clauses
abbrev pub posting_form : Bool → Json → Form (Option HttpPusher)
posting_form is_set json = record {
  fields = if is_set then http_fields json else [];
  value = if is_set then Some (http_in json) else None;
}

-- `pusher`
abbrev pub pusher_form : Json → Form Input
pusher_form json = record {
  fields = named_fields json ++ (if is_set json then http_fields json else []);
  value = Pusher (record {
    user = user_in json;
    pushkey = pushkey_in json;
    app_id = app_id_in json;
    http = if is_set json then Some (http_in json) else None;
  });
}

-- The form of each input.
abbrev pub input_form_of : InputWord → Json → Option (Form Input)
input_form_of EventWord json = Some (event_form json)
input_form_of RulePut json = Some (put_form json)
input_form_of RuleDelete json = Some (delete_form json)
input_form_of RuleEnable json = Some (enable_form json)
input_form_of RuleActions json = Some (set_actions_form json)
input_form_of ReceiptWord json = Some (receipt_form json)
input_form_of PusherWord json = Some (pusher_form json)

-- ---- reading an input

-- the form that an object's own word asks for
abbrev pub input_form_in : Json → Option (Form Input)
input_form_in json = option_and_then (λ word. input_form_of word json) (input_word_in json)

-- The input that a value is, or its first field that is missing or wrong: `cmd` first, where no
-- form has its word.
unfoldable pub input_in : Json → Result Input InputError
input_in json = option_map_or (value_of_form BadField) (input_form_in json) (Err (BadField Cmd))
