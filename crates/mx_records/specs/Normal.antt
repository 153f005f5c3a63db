-- The one object that stands for an input: its word, and the fields that were given. Ours.
use Rattle.std.specs.Prelude.{◌≡◌, ℕ, pos, Bool, true, if◌then◌else◌, List, [], ◌∷◌, codes, map, Option, None, Some}
use Rattle.std.specs.Prelude.{option_map, Ok}
use Rattle.std.specs.List.{filter_map}
use Rattle.std.specs.Option.{option_map_or}
use Rattle.mx_json.specs.declared.value.Json.{Json, Null, Truth, Whole, Text, List as ListOf, Object}
use Rattle.mx_json.specs.declared.value.JsonList.{JsonList}
use Rattle.mx_json.specs.Json.{depth_of, is_valid, largest}
use Rattle.mx_rows.specs.declared.thread_key.ThreadKey.{ThreadKey}
use Rattle.mx_rows.specs.declared.thread_key.ThreadKey.TheVariants.{Main, Root}
use Rattle.mx_rule.specs.declared.edit.Edit.{Edit}
use Rattle.mx_rule.specs.declared.edit.Edit.TheVariants.{Put, Delete, Enable, SetActions}
use Rattle.mx_rule.specs.declared.kind.Kind.{Kind}
use Rattle.mx_rule.specs.declared.kind.Kind.TheVariants as kind
use Rattle.mx_records.specs.declared.input.Input.{Input}
use Rattle.mx_records.specs.declared.input.Input.TheVariants.{Event, Edit as EditInput, Receipt, Pusher}
use Rattle.mx_records.specs.declared.pusher_spec.HttpPusher.{HttpPusher}
use Rattle.mx_records.specs.declared.pusher_spec.PusherSpec.{PusherSpec}
use Rattle.mx_records.specs.Forms.{input_in}

-- ---- fields that are given

-- A field: its key, and its value where it is given.
abbrev pub Field : Type 0
Field = List ℕ × Option Json

-- a text that is given
abbrev pub text_field : List ℕ → List ℕ → Field
text_field key text = (key, Some (Text text))

-- a text that may be given
abbrev pub text_if_given : List ℕ → Option (List ℕ) → Field
text_if_given key text = (key, option_map Text text)

-- a list that is given
abbrev pub list_field : List ℕ → JsonList → Field
list_field key list = (key, Some (ListOf list))

-- a list that may be given
abbrev pub list_if_given : List ℕ → Option JsonList → Field
list_if_given key list = (key, option_map ListOf list)

-- a truth value that may be given
abbrev pub truth_if_given : List ℕ → Option Bool → Field
truth_if_given key truth = (key, option_map Truth truth)

-- a field as a member of an object, if it is given
abbrev pub given_pair : Field → Option (List ℕ × Json)
given_pair field = option_map (λ value. (field.0, value)) field.1

-- the members of an object that has these fields
abbrev pub given_pairs : List Field → List (List ℕ × Json)
given_pairs fields = filter_map given_pair fields

-- the object that has the fields that are given
abbrev pub object_of : List Field → Json
object_of fields = Object record { pairs = given_pairs fields }

-- ---- the fields of each input, by rising key

-- the word of a kind of rules
abbrev pub kind_text : Kind → List ℕ
kind_text kind.Override = codes "override"
kind_text kind.Content = codes "content"
kind_text kind.Room = codes "room"
kind_text kind.Sender = codes "sender"
kind_text kind.Underride = codes "underride"

-- a thread as a receipt names it
abbrev pub thread_text : ThreadKey → List ℕ
thread_text Main = codes "main"
thread_text (Root root) = root

-- the type of a receipt
abbrev pub privacy_text : Bool → List ℕ
privacy_text private = if private then codes "m.read.private" else codes "m.read"

-- the fields of an edit of a user's rules
abbrev pub edit_fields : List ℕ → Edit → List Field
edit_fields user (Put kind rule_id pattern conditions actions before after) =
    list_field (codes "actions") actions ∷ text_if_given (codes "after") after
    ∷ text_if_given (codes "before") before ∷ text_field (codes "cmd") (codes "rule_put")
    ∷ list_if_given (codes "conditions") conditions ∷ text_field (codes "kind") (kind_text kind)
    ∷ text_if_given (codes "pattern") pattern ∷ text_field (codes "rule_id") rule_id
    ∷ text_field (codes "user") user ∷ []
edit_fields user (Delete kind rule_id) =
    text_field (codes "cmd") (codes "rule_delete") ∷ text_field (codes "kind") (kind_text kind)
    ∷ text_field (codes "rule_id") rule_id ∷ text_field (codes "user") user ∷ []
edit_fields user (Enable kind rule_id enabled) =
    text_field (codes "cmd") (codes "rule_enable") ∷ (codes "enabled", Some (Truth enabled))
    ∷ text_field (codes "kind") (kind_text kind) ∷ text_field (codes "rule_id") rule_id
    ∷ text_field (codes "user") user ∷ []
edit_fields user (SetActions kind rule_id actions) =
    list_field (codes "actions") actions ∷ text_field (codes "cmd") (codes "rule_actions")
    ∷ text_field (codes "kind") (kind_text kind) ∷ text_field (codes "rule_id") rule_id
    ∷ text_field (codes "user") user ∷ []

-- the fields of a pusher that posts, and of one that is taken away
abbrev pub pusher_fields : PusherSpec → Option HttpPusher → List Field
pusher_fields spec None =
    text_field (codes "app_id") spec.app_id ∷ text_field (codes "cmd") (codes "pusher")
    ∷ (codes "kind", Some Null) ∷ text_field (codes "pushkey") spec.pushkey
    ∷ text_field (codes "user") spec.user ∷ []
pusher_fields spec (Some http) =
    text_field (codes "app_display_name") http.app_display_name ∷ text_field (codes "app_id") spec.app_id
    ∷ truth_if_given (codes "append") http.append ∷ text_field (codes "cmd") (codes "pusher")
    ∷ (codes "data", Some (Object http.details))
    ∷ text_field (codes "device_display_name") http.device_display_name
    ∷ text_field (codes "kind") (codes "http") ∷ text_field (codes "lang") http.lang
    ∷ text_field (codes "pushkey") spec.pushkey ∷ (codes "ts", Some (Whole (pos http.ts)))
    ∷ text_field (codes "user") spec.user ∷ []

-- the fields of an input, by rising key
abbrev pub fields_given : Input → List Field
fields_given (Event event) = text_field (codes "cmd") (codes "event") ∷ (codes "event", Some event) ∷ []
fields_given (EditInput user edit) = edit_fields user edit
fields_given (Receipt user room event private thread) =
    text_field (codes "cmd") (codes "receipt") ∷ text_field (codes "event_id") event
    ∷ text_field (codes "room_id") room ∷ text_if_given (codes "thread_id") (option_map thread_text thread)
    ∷ text_field (codes "type") (privacy_text private) ∷ text_field (codes "user") user ∷ []
fields_given (Pusher spec) = pusher_fields spec spec.http

-- The object that stands for an input: its word, and the fields that were given, an event and `data`
-- whole. What was ignored is left out.
abbrev pub normal_of : Input → Json
normal_of input = object_of (fields_given input)

-- An input is one that its object stands for: the object is valid, and is read as the input again.
pub record IsNormal (input : Input) : Type 0 where
  pub valid : is_valid (normal_of input) ≡ true
  pub reads : input_in (normal_of input) ≡ Ok input

-- ---- how deep an object is nested; for private clauses

-- how deep a field's value is nested, and 0 where it isn't given
abbrev pub field_depth : Field → ℕ
field_depth field = option_map_or depth_of field.1 0

-- how deep the deepest of these fields is nested
abbrev pub fields_depth : List Field → ℕ
fields_depth fields = largest (map field_depth fields)
