-- What a condition is judged by, as plain data: ours.
use Rattle.std.specs.Prelude.{ℕ, ℤ, List, Option}
use Rattle.std.specs.Option.{option_copied}
use Rattle.mx_json.specs.declared.value.Json.{Json}
use Rattle.mx_cond.specs.declared.facts.Facts.{Facts}

-- an event, and what is known of its room for one user, the owner of the rules
pub record EventFacts : Type 0 where
  -- the whole event
  pub event : Json
  -- the owner's display name in the room, if any
  pub owner_name : Option (List ℕ)
  -- how many members are joined
  pub joined : ℕ
  -- the power of the event's sender
  pub sender_power : ℤ
  -- the content of the room's power levels, if there are any
  pub power_levels : Option Json

-- what `Facts` tell
abbrev pub told_by : Facts → EventFacts
told_by facts = record {
  event = facts.event.now;
  owner_name = option_copied facts.owner_name;
  joined = facts.joined;
  sender_power = facts.sender_power;
  power_levels = facts.powers.now;
}
