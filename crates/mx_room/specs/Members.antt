-- What is asked of a room's state: memberships, display names, joined members and powers (Client-Server API v1.11,
-- "m.room.member", "m.room.power_levels").
use Rattle.std.specs.Prelude.{ℕ, ℤ, pos, Bool, true, false, ◌&&◌, if◌then◌else◌, List, codes, Option, option_and_then}
use Rattle.std.specs.Prelude.{unwrap_or}
use Rattle.std.specs.FinMap.{get, keys, len}
use Rattle.std.specs.Option.{option_map_or}
use Rattle.std.specs.Str.{bytes_eq}
use Rattle.mx_cond.specs.PowerLevels.{power_of}
use Rattle.mx_room.specs.declared.member.Member.{Member}
use Rattle.mx_room.specs.State.{RoomState}
use Rattle.mx_room.specs.Texts.{Texts, TextSet, marked, table}

-- ---- one user

-- a user's membership: `leave` where no event speaks of the user
abbrev pub membership_at : RoomState → List ℕ → List ℕ
membership_at room user = option_map_or (λ member. member.membership) (get room.members user) (codes "leave")

-- a user's display name, if any
abbrev pub name_at : RoomState → List ℕ → Option (List ℕ)
name_at room user = option_and_then (λ member. member.name) (get room.members user)

-- the membership is `join`
abbrev pub joins : Member → Bool
joins member = bytes_eq member.membership (codes "join")

-- the user is joined
abbrev pub has_joined : Texts Member → List ℕ → Bool
has_joined members user = option_map_or joins (get members user) false

-- ---- all users

-- the joined members of whom this is true, whether they read as user ids or not
unfoldable pub joined_where : (List ℕ → Bool) → Texts Member → TextSet
joined_where test members = table (λ user. marked (test user && has_joined members user)) (keys members)

-- how many members are joined
abbrev pub joined_count : RoomState → ℕ
joined_count room = len (joined_where (λ _. true) room.members)

-- ---- powers

-- the user made the room
abbrev pub is_creator : RoomState → List ℕ → Bool
is_creator room user = option_map_or (bytes_eq user) room.creator false

-- a user's power in a room without power levels: the creator has 100, others 0
abbrev pub power_without_levels : RoomState → List ℕ → ℤ
power_without_levels room user = if is_creator room user then pos 100 else pos 0

-- a user's power: by the power levels, where the room has any
abbrev pub power_at : RoomState → List ℕ → ℤ
power_at room user = unwrap_or (power_of user room.powers) (power_without_levels room user)
