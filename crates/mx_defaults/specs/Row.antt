-- What a row of the table of predefined rules stands for: ours. Only private clauses cite it.
use Rattle.std.specs.Prelude.{ℕ, nat_lt, Bool, true, not, ◌&&◌, List, map, length}
use Rattle.std.specs.List.{list_all}
use Rattle.mx_json.specs.declared.value.Json.{Json, Truth, Text}
use Rattle.mx_rule.specs.Predefined.{contains_display_name, event_match, event_property_contains, event_property_is}
use Rattle.mx_rule.specs.Predefined.{highlight, may_notify_room, notify, room_member_count, sound}
use Rattle.mx_rule.specs.Rule.{PushRule}
use Rattle.mx_rule.specs.declared.criterion.Criterion.TheVariants.{Conditions}
use Rattle.mx_defaults.specs.declared.row.Asked.{Asked}
use Rattle.mx_defaults.specs.declared.row.Asked.TheVariants.{Matches, MatchesOwner, ContainsOwner, IsText, IsTrue}
use Rattle.mx_defaults.specs.declared.row.Asked.TheVariants.{Members, MayNotifyRoom, NamesOwner}
use Rattle.mx_defaults.specs.declared.row.Does.{Does}
use Rattle.mx_defaults.specs.declared.row.Does.TheVariants.{Notify, Sound, Highlight}
use Rattle.mx_defaults.specs.declared.row.Row.{Row}

-- a condition of the table, for this owner
abbrev pub condition_of : List ℕ → Asked → Json
condition_of owner (Matches key pattern) = event_match key.now pattern.now
condition_of owner (MatchesOwner key) = event_match key.now owner
condition_of owner (ContainsOwner key) = event_property_contains key.now (Text owner)
condition_of owner (IsText key text) = event_property_is key.now (Text text.now)
condition_of owner (IsTrue key) = event_property_is key.now (Truth true)
condition_of owner (Members is) = room_member_count is.now
condition_of owner MayNotifyRoom = may_notify_room
condition_of owner NamesOwner = contains_display_name

-- an action of the table
abbrev pub action_done : Does → Json
action_done Notify = notify
action_done (Sound name) = sound name.now
action_done Highlight = highlight

-- the conditions of a row, for this owner
abbrev pub conditions_asked : List ℕ → List Asked → List Json
conditions_asked owner asks = map (condition_of owner) asks

-- the actions of a row
abbrev pub actions_of : List Does → List Json
actions_of does = map action_done does

-- the rule of a row
abbrev pub rule_of : List ℕ → Row → PushRule
rule_of owner row = record {
  id = row.id.now;
  predefined = true;
  enabled = row.enabled;
  actions = actions_of row.does.now;
  criterion = Conditions (conditions_asked owner row.asks.now);
}

-- a text can be a pattern
abbrev pub is_pattern_text : List ℕ → Bool
is_pattern_text text = not (nat_lt 1024 (length text))

-- a text of the table is ASCII
abbrev pub is_ascii_text : List ℕ → Bool
is_ascii_text text = list_all (λ byte. nat_lt byte 128) text

-- the texts of a condition are ASCII, its patterns can be patterns, and so can the owner's id where it asks for it
abbrev pub is_readable : List ℕ → Asked → Bool
is_readable owner (Matches key pattern) =
    is_pattern_text pattern.now && (is_ascii_text key.now && is_ascii_text pattern.now)
is_readable owner (MatchesOwner key) = is_pattern_text owner && is_ascii_text key.now
is_readable owner (ContainsOwner key) = is_ascii_text key.now
is_readable owner (IsText key text) = is_ascii_text key.now && is_ascii_text text.now
is_readable owner (IsTrue key) = is_ascii_text key.now
is_readable owner (Members is) = is_ascii_text is.now
is_readable owner other = true

-- the text of an action is ASCII
abbrev pub is_sayable : Does → Bool
is_sayable (Sound name) = is_ascii_text name.now
is_sayable other = true

-- the texts of all these actions are ASCII
abbrev pub are_sayable : List Does → Bool
are_sayable does = list_all is_sayable does

-- all that a row asks and does can be read
abbrev pub is_readable_row : List ℕ → Row → Bool
is_readable_row owner row = list_all (is_readable owner) row.asks.now && are_sayable row.does.now
