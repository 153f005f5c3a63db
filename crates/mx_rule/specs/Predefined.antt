-- The predefined push rules of a user: the table is ours, made after the Client-Server API v1.11, "Predefined rules".
use Rattle.std.specs.Prelude.{ℕ, true, false, List, [], ◌∷◌, codes, unwrap_or}
use Rattle.mx_json.specs.declared.value.Json.{Json, Truth, Text, Object}
use Rattle.mx_json.specs.Ids.{localpart_of}
use Rattle.mx_rule.specs.declared.criterion.Criterion.TheVariants.{Conditions, Word}
use Rattle.mx_rule.specs.Rule.{PushRule}
use Rattle.mx_rule.specs.Ruleset.{PushRuleset}

-- ---- conditions, as JSON

-- the value at the path `key` is a text that the pattern matches
abbrev pub event_match : List ℕ → List ℕ → Json
event_match key pattern = Object record {
  pairs =
      (codes "key", Text key) ∷ (codes "kind", Text (codes "event_match")) ∷ (codes "pattern", Text pattern) ∷ [];
}

-- the value at the path `key` is this one
abbrev pub event_property_is : List ℕ → Json → Json
event_property_is key value = Object record {
  pairs =
      (codes "key", Text key) ∷ (codes "kind", Text (codes "event_property_is")) ∷ (codes "value", value) ∷ [];
}

-- the value at the path `key` is a list that holds this one
abbrev pub event_property_contains : List ℕ → Json → Json
event_property_contains key value = Object record {
  pairs =
      (codes "key", Text key) ∷ (codes "kind", Text (codes "event_property_contains")) ∷ (codes "value", value) ∷ [];
}

-- the room has so many members
abbrev pub room_member_count : List ℕ → Json
room_member_count is = Object record {
  pairs =
      (codes "is", Text is) ∷ (codes "kind", Text (codes "room_member_count")) ∷ [];
}

-- the sender may notify the whole room
abbrev pub may_notify_room : Json
may_notify_room = Object record {
  pairs =
      (codes "key", Text (codes "room")) ∷ (codes "kind", Text (codes "sender_notification_permission")) ∷ [];
}

-- the body of the message has the owner's display name
abbrev pub contains_display_name : Json
contains_display_name = Object record { pairs = (codes "kind", Text (codes "contains_display_name")) ∷ [] }

-- the event has this type
abbrev pub has_type : List ℕ → Json
has_type kind = event_match (codes "type") kind

-- the event is a state event with this state key
abbrev pub has_state_key : List ℕ → Json
has_state_key key = event_match (codes "state_key") key

-- ---- actions, as JSON

-- the action `notify`
abbrev pub notify : Json
notify = Text (codes "notify")

-- the tweak `sound` with this name
abbrev pub sound : List ℕ → Json
sound name = Object record {
  pairs =
      (codes "set_tweak", Text (codes "sound")) ∷ (codes "value", Text name) ∷ [];
}

-- the tweak `highlight`, which is on where it has no value
abbrev pub highlight : Json
highlight = Object record { pairs = (codes "set_tweak", Text (codes "highlight")) ∷ [] }

-- no action: the event doesn't notify
abbrev pub silence : List Json
silence = []

-- the event notifies
abbrev pub notice : List Json
notice = notify ∷ []

-- it notifies, with the default sound
abbrev pub notice_with_sound : List Json
notice_with_sound = notify ∷ sound (codes "default") ∷ []

-- it notifies, and is highlighted
abbrev pub notice_with_highlight : List Json
notice_with_highlight = notify ∷ highlight ∷ []

-- it notifies with the default sound, and is highlighted
abbrev pub notice_with_both : List Json
notice_with_both = notify ∷ sound (codes "default") ∷ highlight ∷ []

-- it notifies, with the sound of a call
abbrev pub ringing : List Json
ringing = notify ∷ sound (codes "ring") ∷ []

-- ---- the table

-- a row: a rule's id, conditions and actions
abbrev pub given_rule : List ℕ → List Json → List Json → PushRule
given_rule id conditions actions =
    record { id = id; predefined = true; enabled = true; actions = actions; criterion = Conditions conditions }

-- the rule that silences everything, once it is enabled
abbrev pub master : PushRule
master = record (given_rule (codes ".m.rule.master") [] silence) { enabled = false }

-- the predefined override rules of this owner, in order of importance
abbrev pub override_table : List ℕ → List PushRule
override_table owner =
    master
    ∷ given_rule (codes ".m.rule.suppress_notices")
    (event_match (codes "content.msgtype") (codes "m.notice") ∷ []) silence
    ∷ given_rule (codes ".m.rule.invite_for_me")
    (has_type (codes "m.room.member") ∷ event_match (codes "content.membership") (codes "invite") ∷ has_state_key owner
    ∷ []) notice_with_sound
    ∷ given_rule (codes ".m.rule.member_event")
    (has_type (codes "m.room.member") ∷ []) silence
    ∷ given_rule (codes ".m.rule.is_user_mention")
    (event_property_contains (codes "content.m\\.mentions.user_ids") (Text owner) ∷ []) notice_with_both
    ∷ given_rule (codes ".m.rule.contains_display_name")
    (contains_display_name ∷ []) notice_with_both
    ∷ given_rule (codes ".m.rule.is_room_mention")
    (event_property_is (codes "content.m\\.mentions.room") (Truth true) ∷ may_notify_room ∷ []) notice_with_highlight
    ∷ given_rule (codes ".m.rule.roomnotif")
    (event_match (codes "content.body") (codes "@room") ∷ may_notify_room ∷ []) notice_with_highlight
    ∷ given_rule (codes ".m.rule.tombstone")
    (has_type (codes "m.room.tombstone") ∷ has_state_key [] ∷ []) notice_with_highlight
    ∷ given_rule (codes ".m.rule.reaction")
    (has_type (codes "m.reaction") ∷ []) silence
    ∷ given_rule (codes ".m.rule.room.server_acl")
    (has_type (codes "m.room.server_acl") ∷ has_state_key [] ∷ []) silence
    ∷ given_rule (codes ".m.rule.suppress_edits")
    (event_property_is (codes "content.m\\.relates_to.rel_type") (Text (codes "m.replace")) ∷ []) silence
    ∷ []

-- the owner's localpart is a word of the body
abbrev pub localpart_rule : List ℕ → PushRule
localpart_rule localpart = record {
  id = codes ".m.rule.contains_user_name";
  predefined = true;
  enabled = true;
  actions = notice_with_both;
  criterion = Word localpart;
}

-- the predefined content rules of an owner with this localpart
abbrev pub content_table : List ℕ → List PushRule
content_table localpart = localpart_rule localpart ∷ []

-- the predefined underride rules, in order of importance
abbrev pub underride_table : List PushRule
underride_table =
    given_rule (codes ".m.rule.call")
    (has_type (codes "m.call.invite") ∷ []) ringing
    ∷ given_rule (codes ".m.rule.encrypted_room_one_to_one")
    (room_member_count (codes "2") ∷ has_type (codes "m.room.encrypted") ∷ []) notice_with_sound
    ∷ given_rule (codes ".m.rule.room_one_to_one")
    (room_member_count (codes "2") ∷ has_type (codes "m.room.message") ∷ []) notice_with_sound
    ∷ given_rule (codes ".m.rule.message")
    (has_type (codes "m.room.message") ∷ []) notice
    ∷ given_rule (codes ".m.rule.encrypted")
    (has_type (codes "m.room.encrypted") ∷ []) notice
    ∷ []

-- the predefined rules of a user with this id and this localpart
abbrev pub table_of : List ℕ → List ℕ → PushRuleset
table_of owner localpart = record {
  override = override_table owner;
  content = content_table localpart;
  room = [];
  sender = [];
  underride = underride_table;
}

-- the predefined rules of a local user of this server
unfoldable pub predefined_rules : List ℕ → List ℕ → PushRuleset
predefined_rules server user = table_of user (unwrap_or (localpart_of server user) [])
