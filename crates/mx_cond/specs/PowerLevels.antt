-- What the power levels of a room say: the Client-Server API v1.11, m.room.power_levels;
-- that a value which isn't a whole number counts as absent is ours.
use Rattle.std.specs.Prelude.{ℕ, ℤ, pos, List, codes, Option, option_and_then, option_map, unwrap_or}
use Rattle.mx_json.specs.declared.value.Json.{Json}
use Rattle.mx_json.specs.Json.{member, whole_at}

-- the whole number with the second key in the object with the first
abbrev pub whole_within : List ℕ → List ℕ → Json → Option ℤ
whole_within outer key json = option_and_then (whole_at key) (member outer json)

-- ---- a room has the content of a power levels event, or none

-- the power that is needed where nothing is said
abbrev pub usual_need : ℤ
usual_need = pos 50

-- the power that a notification with this key needs: `notifications[key]`, else 50
unfoldable pub needed_power : List ℕ → Option Json → ℤ
needed_power key levels =
    unwrap_or (option_and_then (whole_within (codes "notifications") key) levels) usual_need

-- the power of a user by the content: `users[user]`, else `users_default`, else 0
unfoldable pub power_by : List ℕ → Json → ℤ
power_by user content =
    unwrap_or (whole_within (codes "users") user content)
    (unwrap_or (whole_at (codes "users_default") content) (pos 0))

-- the power of a user where the room has power levels
abbrev pub power_of : List ℕ → Option Json → Option ℤ
power_of user levels = option_map (power_by user) levels
