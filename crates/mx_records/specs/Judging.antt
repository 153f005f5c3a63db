-- Whom an event notifies, and how: by each user's push rules before it, and the state of its room
-- after it (Client-Server API v1.11, 'Push rules').
use Rattle.std.specs.Prelude.{ℕ, List, Bool, false, Option, Some, None, option_and_then, if◌then◌else◌}
use Rattle.std.specs.FinMap.{keys}
use Rattle.std.specs.Option.{option_map_or}
use Rattle.mx_json.specs.declared.value.Json.{Json}
use Rattle.mx_room.specs.Facts.{facts_of}
use Rattle.mx_room.specs.Members.{membership_at}
use Rattle.mx_room.specs.State.{RoomState}
use Rattle.mx_room.specs.Texts.{Texts, table}
use Rattle.mx_rule.specs.declared.verdict.Verdict.{Verdict}
use Rattle.mx_rule.specs.Judged.{judged}
use Rattle.mx_rule.specs.Ruleset.{PushRuleset}
use Rattle.mx_records.specs.History.{Happening}
use Rattle.mx_records.specs.Rooms.{room_after}
use Rattle.mx_records.specs.Rules.{rules_of}

-- what the rules of a user say of an event, in a room of this state after it; nothing where the
-- event isn't judged for the user
abbrev pub verdict_in : List ℕ → (List ℕ → PushRuleset) → RoomState → Json → List ℕ → Option Verdict
verdict_in server rules room event user =
    judged server user (membership_at room user) (rules user) (facts_of event user room)

-- what a user's rules before an event say of it
abbrev pub verdict_for : List ℕ → List ℕ → Happening → Option Verdict
verdict_for server user happening =
    verdict_in server (rules_of server happening.before) (room_after happening) happening.event user

-- the event is judged for the user, and notifies
abbrev pub notifies : List ℕ → List ℕ → Happening → Bool
notifies server user happening =
    option_map_or (λ verdict. verdict.notify) (verdict_for server user happening) false

-- the event is judged for the user, and highlighted
abbrev pub highlights : List ℕ → List ℕ → Happening → Bool
highlights server user happening =
    option_map_or (λ verdict. verdict.highlight) (verdict_for server user happening) false

-- ---- all whom an event notifies

-- whether what is said of an event is highlighted, where it notifies
abbrev pub notice_of : Verdict → Option Bool
notice_of verdict = if verdict.notify then Some verdict.highlight else None

-- whether an event is highlighted for a user, where it notifies the user
abbrev pub notice_in : List ℕ → (List ℕ → PushRuleset) → RoomState → Json → List ℕ → Option Bool
notice_in server rules room event user = option_and_then notice_of (verdict_in server rules room event user)

-- the members of the room whom an event notifies, each with whether it is highlighted
abbrev pub notices_in : List ℕ → (List ℕ → PushRuleset) → RoomState → Json → Texts Bool
notices_in server rules room event = table (notice_in server rules room event) (keys room.members)
