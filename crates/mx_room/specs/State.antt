-- The state of a room: the last event of each type and state key (Client-Server API v1.11, "Room events"),
-- and what is read off it.
use Rattle.std.specs.Prelude.{ℕ, Bool, false, ◌&&◌, if◌then◌else◌, List, [], ◌∷◌, codes, Option, Some, None, option_map}
use Rattle.std.specs.Prelude.{unwrap_or}
use Rattle.std.specs.List.{filter_map}
use Rattle.std.specs.Option.{option_map_or, option_or}
use Rattle.std.specs.Str.{bytes_eq}
use Rattle.mx_json.specs.declared.value.Json.{Json}
use Rattle.mx_json.specs.Json.{text_at}
use Rattle.mx_event.specs.Event.{content_of, kind_of, membership_of, sender_of, state_key_of, told_membership}
use Rattle.mx_room.specs.declared.member.Member.{Member}
use Rattle.mx_room.specs.Texts.{Texts, table}

-- ---- the last event of a type and a state key

-- what `f` gives of the last of these of which it gives something
unfoldable pub last_of : {A B : Type 0} → (A → Option B) → List A → Option B
last_of f [] = None
last_of f (x ∷ xs) = option_or (last_of f xs) (f x)

-- the event is a state event of this type and this state key
abbrev pub is_state : List ℕ → List ℕ → Json → Bool
is_state kind key event = bytes_eq (kind_of event) kind && option_map_or (bytes_eq key) (state_key_of event) false

-- the event, where it is such a state event
abbrev pub state_if : List ℕ → List ℕ → Json → Option Json
state_if kind key event = if is_state kind key event then Some event else None

-- the state of a type and a state key, after these events of one room: the last such event
unfoldable pub state_of : List Json → List ℕ → List ℕ → Option Json
state_of events kind key = last_of (state_if kind key) events

-- ---- members

-- The type of the event that makes somebody a member.
abbrev pub member_kind : List ℕ
member_kind = codes "m.room.member"

-- what an `m.room.member` event says of the user: the membership, `leave` where it is no text,
-- and the display name, where it is a text
abbrev pub member_by : Json → Member
member_by event = record {
  membership = told_membership event;
  name = text_at (codes "displayname") (content_of event);
}

-- the user whom an event makes a member: the state key of an `m.room.member` event
abbrev pub named_by : Json → Option (List ℕ)
named_by event = option_map (λ told. told.0) (membership_of event)

-- what a room's state says of a user; of whom no event speaks it says nothing
abbrev pub member_in : List Json → List ℕ → Option Member
member_in events user = option_map member_by (state_of events member_kind user)

-- ---- power levels and creator, both with the empty state key

-- The type of the event that gives a room its power levels.
abbrev pub powers_kind : List ℕ
powers_kind = codes "m.room.power_levels"

-- The type of the event that made a room.
abbrev pub create_kind : List ℕ
create_kind = codes "m.room.create"

-- the creator by an `m.room.create` event: `content.creator` where that is a text, else its sender
abbrev pub creator_by : Json → List ℕ
creator_by event = unwrap_or (text_at (codes "creator") (content_of event)) (sender_of event)

-- ---- the state

-- what rules ask of a room's state
pub record RoomState : Type 0 where
  -- each user of whom a member event speaks, and what the last one says
  pub members : Texts Member
  -- the content of the power levels, if there are any
  pub powers : Option Json
  -- the creator, where one is known
  pub creator : Option (List ℕ)

-- the state after these events of one room, oldest first
unfoldable pub room_of : List Json → RoomState
room_of events = record {
  members = table (member_in events) (filter_map named_by events);
  powers = option_map content_of (state_of events powers_kind []);
  creator = option_map creator_by (state_of events create_kind []);
}
