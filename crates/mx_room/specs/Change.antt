-- What one event changes in the state of its room: ours.
use Rattle.std.specs.Prelude.{ℕ, List, [], Option, Some, None, option_map}
use Rattle.std.specs.FinMap.{insert}
use Rattle.std.specs.Option.{option_or}
use Rattle.mx_json.specs.declared.value.Json.{Json}
use Rattle.mx_event.specs.Event.{content_of}
use Rattle.mx_room.specs.declared.member.Member.{Member}
use Rattle.mx_room.specs.State.{RoomState, create_kind, creator_by, member_by, named_by, powers_kind, state_if}
use Rattle.mx_room.specs.Texts.{Texts}

-- what is set in a room's state
pub record Sets : Type 0 where
  -- a user, and what is said of the user
  pub member : Option (List ℕ × Member)
  -- the content of the power levels
  pub powers : Option Json
  pub creator : Option (List ℕ)

-- what an event says of the user whom it makes a member
unfoldable pub member_set_by : Json → Option (List ℕ × Member)
member_set_by event = option_map (λ user. (user, member_by event)) (named_by event)

-- the power levels that an event gives a room
unfoldable pub powers_set_by : Json → Option Json
powers_set_by event = option_map content_of (state_if powers_kind [] event)

-- the creator that an event gives a room
unfoldable pub creator_set_by : Json → Option (List ℕ)
creator_set_by event = option_map creator_by (state_if create_kind [] event)

-- what an event sets; an event that is no state sets nothing
abbrev pub sets_of : Json → Sets
sets_of event = record {
  member = member_set_by event;
  powers = powers_set_by event;
  creator = creator_set_by event;
}

-- the members, of whom this one is as it is set
abbrev pub with_member : Option (List ℕ × Member) → Texts Member → Texts Member
with_member None members = members
with_member (Some set) members = insert members set.0 set.1

-- the state in which this is set, and the rest is as it was
abbrev pub with_sets : Sets → RoomState → RoomState
with_sets sets room = record {
  members = with_member sets.member room.members;
  powers = option_or sets.powers room.powers;
  creator = option_or sets.creator room.creator;
}

-- the state after a planned change, or as it is where none is planned
abbrev pub after : Option Sets → RoomState → RoomState
after None room = room
after (Some sets) room = with_sets sets room
