-- What an event of a room is and what is read off it: the fields of the Client-Server API's 'Room event format',
-- in a profile of our own.
use Rattle.std.specs.Prelude.{◌≡◌, ℕ, nat_le, Bool, true, false, if◌then◌else◌, List, [], ◌∷◌, length, codes, Option}
use Rattle.std.specs.Prelude.{Some, None, is_none, is_some, option_map, unwrap_or, Result, Ok, Err, MatchBool, IsAscii}
use Rattle.std.specs.Option.{option_map_or}
use Rattle.std.specs.Str.{bytes_eq, IsNotAscii}
use Rattle.mx_json.specs.declared.value.Json.{Json, Null}
use Rattle.mx_json.specs.Ids.{is_event_id, is_room_id, is_user_id}
use Rattle.mx_json.specs.Json.{is_object, is_valid, member, text_at, text_of, text_or_empty}
use Rattle.mx_event.specs.declared.error.EventError.{EventError}
use Rattle.mx_event.specs.declared.error.EventError.TheVariants.{BadEvent}
use Rattle.mx_event.specs.declared.error.EventField.{EventField}
use Rattle.mx_event.specs.declared.error.EventField.TheVariants.{EventId, RoomId, Sender, Kind, Content, StateKey}
use Rattle.mx_event.specs.declared.places.Places.{Places}
use Rattle.mx_event.specs.declared.relation.Relation.{Relation}
use Rattle.mx_event.specs.declared.relation.Relation.TheVariants.{Thread, Other, Nothing}
use Rattle.mx_event.specs.Place.{member_placed}
use Rattle.mx_event.specs.Property.{AreContentPlaces}

-- ---- the fields

-- the id of an event, empty where it has none
abbrev pub event_id_of : Json → List ℕ
event_id_of json = text_or_empty (codes "event_id") json

-- the id of an event's room, empty where it has none
abbrev pub room_id_of : Json → List ℕ
room_id_of json = text_or_empty (codes "room_id") json

-- who sent an event, empty where nobody is told
abbrev pub sender_of : Json → List ℕ
sender_of json = text_or_empty (codes "sender") json

-- the type of an event, empty where it has none
abbrev pub kind_of : Json → List ℕ
kind_of json = text_or_empty (codes "type") json

-- the content of an event, `null` where it has none
abbrev pub content_of : Json → Json
content_of json = unwrap_or (member (codes "content") json) Null

-- the state key of a state event; other events have none
abbrev pub state_key_of : Json → Option (List ℕ)
state_key_of json = text_at (codes "state_key") json

-- the body of a message: `content.body`, where that is a text
abbrev pub body_of : Json → Option (List ℕ)
body_of json = text_at (codes "body") (content_of json)

-- the event says itself whom it mentions: its content has the key `m.mentions`, whatever the value
abbrev pub has_mentions : Json → Bool
has_mentions json = is_some (member (codes "m.mentions") (content_of json))

-- ---- when a value is an event

-- the text has at most 255 bytes
abbrev pub is_short : List ℕ → Bool
is_short text = nat_le (length text) 255

-- the value is a text of at most 255 bytes
abbrev pub is_short_text : Json → Bool
is_short_text json = option_map_or is_short (text_of json) false

-- the type is a text of at most 255 bytes
abbrev pub has_kind : Json → Bool
has_kind json = option_map_or is_short_text (member (codes "type") json) false

-- the content is an object
abbrev pub has_content : Json → Bool
has_content json = option_map_or is_object (member (codes "content") json) false

-- the state key is absent, or a text of at most 255 bytes
abbrev pub has_state_key_or_none : Json → Bool
has_state_key_or_none json = option_map_or is_short_text (member (codes "state_key") json) true

-- the fields after the ids, each with whether it is right
abbrev pub fields_after_the_ids : Json → List (EventField × Bool)
fields_after_the_ids json =
    (Kind, has_kind json)
    ∷ (Content, has_content json)
    ∷ (StateKey, has_state_key_or_none json)
    ∷ []

-- each field in order, and whether it is right: what isn't an object has no event id
unfoldable pub fields_of : Json → List (EventField × Bool)
fields_of json =
    (EventId, is_event_id (event_id_of json))
    ∷ (RoomId, is_room_id (room_id_of json))
    ∷ (Sender, is_user_id (sender_of json))
    ∷ fields_after_the_ids json

-- a value that is right, or that this field is wrong; for private clauses
abbrev pub checked : {A : Type 0} → EventField → Bool → A → Result A EventError
checked field is_right value = if is_right then Ok value else Err (BadEvent field)

-- the first field that is wrong
abbrev pub first_wrong : {A : Type 0} → List (A × Bool) → Option A
first_wrong [] = None
first_wrong (field ∷ fields) = if field.1 then first_wrong fields else Some field.0

-- the first field of a value that keeps it from being an event
unfoldable pub first_wrong_field : Json → Option EventField
first_wrong_field json = first_wrong (fields_of json)

-- a value is an event where no field is wrong
abbrev pub is_event : Json → Bool
is_event json = is_none (first_wrong_field json)

-- the value as an event, or the first field that is wrong
abbrev pub read_event : Json → Result Json EventError
read_event json = option_map_or (λ field. Err (BadEvent field)) (first_wrong_field json) (Ok json)

-- these are the places in an event, and in its content; for private clauses
pub record ArePlacesIn (json : Json) (places : Places) : Type 0 where
  pub kind_is : member_placed places.kind json ≡ member (codes "type") json
  pub content_is : member_placed places.content json ≡ member (codes "content") json
  pub state_key_is : member_placed places.state_key json ≡ member (codes "state_key") json
  pub in_content : AreContentPlaces (content_of json) places.in_content
  pub mentions_are : places.has_mentions ≡ has_mentions json
  pub ascii_kind_is : MatchBool places.has_ascii_kind (IsAscii (kind_of json)) (IsNotAscii (kind_of json))

-- what an `Event` holds: a valid event, its ids, and the places in it
pub record HoldsEvent (json : Json) (event_id room_id sender : List ℕ) (places : Places) : Type 0 where
  pub valid : is_valid json ≡ true
  pub event : is_event json ≡ true
  pub event_id_is : event_id ≡ event_id_of json
  pub room_id_is : room_id ≡ room_id_of json
  pub sender_is : sender ≡ sender_of json
  pub places_are : ArePlacesIn json places

-- ---- what an event relates to

-- how an event relates to another
pub data Related : Type 0 where
  -- it is in the thread of the event with this id
  in_thread : List ℕ → Related
  -- it relates otherwise to the event with this id
  to_another : List ℕ → Related
  to_nothing : Related

-- what an answer says
abbrev pub related_by : Relation → Related
related_by (Thread id) = in_thread id.now
related_by (Other id) = to_another id.now
related_by Nothing = to_nothing

-- a relation `m.thread` to an event id, or a relation of another type to any text
abbrev pub relation_from : Option (List ℕ) → Option (List ℕ) → Related
relation_from (Some kind) (Some id) =
    if bytes_eq kind (codes "m.thread") then (if is_event_id id then in_thread id else to_nothing) else to_another id
relation_from (Some kind) None = to_nothing
relation_from None id = to_nothing

-- what the `m.relates_to` of an event's content says
abbrev pub relation_in : Json → Related
relation_in relates_to = relation_from (text_at (codes "rel_type") relates_to) (text_at (codes "event_id") relates_to)

-- what an event relates to, by the `m.relates_to` of its content
unfoldable pub relation_of : Json → Related
relation_of json = option_map_or relation_in (member (codes "m.relates_to") (content_of json)) to_nothing

-- ---- whom an event makes a member

-- the membership that an event's content tells: `leave` where it tells none
abbrev pub told_membership : Json → List ℕ
told_membership json = unwrap_or (text_at (codes "membership") (content_of json)) (codes "leave")

-- the state key and the membership of a state event `m.room.member`; other events have none
unfoldable pub membership_of : Json → Option (List ℕ × List ℕ)
membership_of json =
    if bytes_eq (kind_of json) (codes "m.room.member")
    then option_map (λ user. (user, told_membership json)) (state_key_of json)
    else None
