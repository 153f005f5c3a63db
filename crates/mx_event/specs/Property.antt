-- The properties of an event that conditions ask for again and again, and where they stand in it: ours.
use Rattle.std.specs.Prelude.{◌≡◌, ℕ, List, [], ◌∷◌, codes, Option, option_and_then}
use Rattle.mx_json.specs.declared.value.Json.{Json}
use Rattle.mx_json.specs.Json.{member}
use Rattle.mx_event.specs.declared.places.ContentPlaces.{ContentPlaces}
use Rattle.mx_event.specs.declared.property.Property.{Property}
use Rattle.mx_event.specs.declared.property.Property.TheVariants.{Kind, StateKey, Body, MessageType, Membership}
use Rattle.mx_event.specs.declared.property.Property.TheVariants.{MentionedUsers, MentionsRoom, RelationType}
use Rattle.mx_event.specs.Place.{member_placed}

-- the path of a property
abbrev pub path_of : Property → List (List ℕ)
path_of Kind = codes "type" ∷ []
path_of StateKey = codes "state_key" ∷ []
path_of Body = codes "content" ∷ codes "body" ∷ []
path_of MessageType = codes "content" ∷ codes "msgtype" ∷ []
path_of Membership = codes "content" ∷ codes "membership" ∷ []
path_of MentionedUsers = codes "content" ∷ codes "m.mentions" ∷ codes "user_ids" ∷ []
path_of MentionsRoom = codes "content" ∷ codes "m.mentions" ∷ codes "room" ∷ []
path_of RelationType = codes "content" ∷ codes "m.relates_to" ∷ codes "rel_type" ∷ []

-- the member with the second key of the member with the first
abbrev pub member_within : List ℕ → List ℕ → Json → Option Json
member_within outer key json = option_and_then (member key) (member outer json)

-- the member at a place of the member at another; for private clauses
abbrev pub placed_within : Option ℕ → Option ℕ → Json → Option Json
placed_within outer place json = option_and_then (member_placed place) (member_placed outer json)

-- these are the places in the content of an event; for private clauses
pub record AreContentPlaces (content : Json) (places : ContentPlaces) : Type 0 where
  pub body_is : member_placed places.body content ≡ member (codes "body") content
  pub message_type_is : member_placed places.message_type content ≡ member (codes "msgtype") content
  pub membership_is : member_placed places.membership content ≡ member (codes "membership") content
  pub mentioned_users_are : placed_within places.mentions places.mentioned_users content
      ≡ member_within (codes "m.mentions") (codes "user_ids") content
  pub mentions_room_is : placed_within places.mentions places.mentions_room content
      ≡ member_within (codes "m.mentions") (codes "room") content
  pub relation_type_is : placed_within places.relates_to places.relation_type content
      ≡ member_within (codes "m.relates_to") (codes "rel_type") content
