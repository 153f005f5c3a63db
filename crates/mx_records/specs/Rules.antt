-- Each user's push rules over a history: the Client-Server API v1.11, 'Push rules: API'; that an edit
-- is in force from the next event on is ours.
use Rattle.std.specs.Prelude.{ℕ, List, Bool, true, if◌then◌else◌, Option, Some, None, is_some, fold, unwrap_or}
use Rattle.std.specs.FinMap.{get}
use Rattle.std.specs.List.{filter_map, list_any}
use Rattle.std.specs.Str.{bytes_eq}
use Rattle.mx_room.specs.Texts.{Texts, table}
use Rattle.mx_rule.specs.declared.edit.Edit.{Edit}
use Rattle.mx_rule.specs.Editing.{edited, is_valid_edit}
use Rattle.mx_rule.specs.Predefined.{predefined_rules}
use Rattle.mx_rule.specs.Ruleset.{PushRuleset}
use Rattle.mx_records.specs.declared.input.Input.{Input}
use Rattle.mx_records.specs.declared.input.Input.TheVariants.{Event, Edit as EditInput, Receipt, Pusher}
use Rattle.mx_records.specs.History.{History, inputs_in}

-- the JSON values that an input holds are valid
abbrev pub is_valid_input : Input → Bool
is_valid_input (Event event) = true
is_valid_input (EditInput editor edit) = is_valid_edit edit
is_valid_input (Receipt reader room id private thread) = true
is_valid_input (Pusher spec) = true

-- the edit that an input makes of this user's rules, if it makes one
abbrev pub edit_by : List ℕ → Input → Option Edit
edit_by user (Event event) = None
edit_by user (EditInput editor edit) = if bytes_eq user editor then Some edit else None
edit_by user (Receipt reader room id private thread) = None
edit_by user (Pusher spec) = None

-- the edits of a user's rules, oldest first
abbrev pub edits_of : History → List ℕ → List Edit
edits_of h user = filter_map (edit_by user) (inputs_in h)

-- The rules of a user after a history: the predefined ones, changed by each of the user's edits in
-- turn.
unfoldable pub rules_of : List ℕ → History → List ℕ → PushRuleset
rules_of server h user = fold edited (predefined_rules server user) (edits_of h user)

-- ---- the rules of those who edited them

-- the input edits this user's rules
abbrev pub is_edit_of : List ℕ → Input → Bool
is_edit_of user input = is_some (edit_by user input)

-- the user edited the rules
abbrev pub has_edited : History → List ℕ → Bool
has_edited h user = list_any (is_edit_of user) (inputs_in h)

-- The rules of a user who edited them; nothing for any other, whose rules are the predefined ones.
unfoldable pub own_rules : List ℕ → History → List ℕ → Option PushRuleset
own_rules server h user = if has_edited h user then Some (rules_of server h user) else None

-- the user whose rules an input edits, if it edits any
abbrev pub editor_of : Input → Option (List ℕ)
editor_of (Event event) = None
editor_of (EditInput editor edit) = Some editor
editor_of (Receipt reader room id private thread) = None
editor_of (Pusher spec) = None

-- the users whose rules a history edits, as often as it edits them
abbrev pub editors_of : History → List (List ℕ)
editors_of h = filter_map editor_of (inputs_in h)

-- The rules of each user who edited them.
unfoldable pub edited_rules : List ℕ → History → Texts PushRuleset
edited_rules server h = table (own_rules server h) (editors_of h)

-- the rules of a user, where these are the rules of those who edited them
abbrev pub rules_among : List ℕ → Texts PushRuleset → List ℕ → PushRuleset
rules_among server edited user = unwrap_or (get edited user) (predefined_rules server user)
