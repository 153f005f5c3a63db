-- What a user's edit makes of the push rules, and when it is refused: the Client-Server API v1.11, "Push rules: API";
-- the limits, the order of the refusals and the place of a rule without anchor are ours.
use Rattle.std.specs.Prelude.{ℕ, zero, suc, nat_le, nat_lt, Bool, true, false, not, ◌&&◌, ◌||◌, if◌then◌else◌, List, []}
use Rattle.std.specs.Prelude.{◌∷◌, length, map, filter, sum_by, find, remove, codes, Option, Some, None, is_some}
use Rattle.std.specs.Prelude.{unwrap_or}
use Rattle.std.specs.List.{list_all, list_any}
use Rattle.std.specs.Option.{option_map_or}
use Rattle.std.specs.Str.{bytes_eq}
use Rattle.mx_json.specs.declared.value.Json.{Json}
use Rattle.mx_json.specs.declared.value.JsonList.{JsonList}
use Rattle.mx_json.specs.Ids.{begins_with, holds_byte, is_room_id, is_user_id}
use Rattle.mx_json.specs.Json.{is_valid, text_at, text_of}
use Rattle.mx_json.specs.Path.{backslash, full_stop}
use Rattle.mx_cond.specs.Condition.{is_condition}
use Rattle.mx_rule.specs.declared.criterion.Criterion.{Criterion}
use Rattle.mx_rule.specs.declared.criterion.Criterion.TheVariants.{Conditions, Word, InRoom, FromSender}
use Rattle.mx_rule.specs.declared.edit.Edit.{Edit}
use Rattle.mx_rule.specs.declared.edit.Edit.TheVariants.{Put, Delete, Enable, SetActions}
use Rattle.mx_rule.specs.declared.edit.EditRefusal.{EditRefusal}
use Rattle.mx_rule.specs.declared.edit.EditRefusal.TheVariants.{RuleReserved, BadRule, RuleUnknown, AnchorUnknown}
use Rattle.mx_rule.specs.declared.edit.EditRefusal.TheVariants.{RulesFull}
use Rattle.mx_rule.specs.declared.edit.Part.{Part}
use Rattle.mx_rule.specs.declared.edit.Part.TheVariants as part
use Rattle.mx_rule.specs.declared.kind.Kind.{Kind}
use Rattle.mx_rule.specs.declared.kind.Kind.TheVariants.{Override, Content, Room, Sender, Underride}
use Rattle.mx_rule.specs.declared.list_change.ListChange.{ListChange}
use Rattle.mx_rule.specs.declared.list_change.ListChange.TheVariants.{Replace, Remove}
use Rattle.mx_rule.specs.Rule.{PushRule}
use Rattle.mx_rule.specs.Ruleset.{PushRuleset, is_master, is_own, kinds, own_among, rules_of_kind}

-- ---- rules by their ids

-- the rule has this id
abbrev pub has_id : List ℕ → PushRule → Bool
has_id id rule = bytes_eq rule.id id

-- the rules but the one with this id
abbrev pub without : List ℕ → List PushRule → List PushRule
without id rules = filter (λ rule. not (has_id id rule)) rules

-- a rule of this kind that the user made, with this id
abbrev pub is_own_with : Kind → List ℕ → PushRule → Bool
is_own_with kind id rule = is_own kind rule && has_id id rule

-- how many rules the user made, over all kinds
abbrev pub own_count : PushRuleset → ℕ
own_count rules = sum_by (λ kind. own_among kind (rules_of_kind kind rules)) kinds

-- ---- the rule that a put makes

-- the conditions that were given; without them there are none
abbrev pub given_items : Option JsonList → List Json
given_items given = option_map_or (λ list. list.items) given []

-- what a rule of this kind asks; conditions and a pattern are for their kinds alone
abbrev pub criterion_of : Kind → Option (List ℕ) → Option JsonList → Criterion
criterion_of Override pattern conditions = Conditions (given_items conditions)
criterion_of Content pattern conditions = Word (unwrap_or pattern [])
criterion_of Room pattern conditions = InRoom
criterion_of Sender pattern conditions = FromSender
criterion_of Underride pattern conditions = Conditions (given_items conditions)

-- a rule that is there keeps its enabled flag; a new one is enabled
abbrev pub flag_of : List ℕ → List PushRule → Bool
flag_of id rules = option_map_or (λ rule. rule.enabled) (find (has_id id) rules) true

-- the rule that a put makes
abbrev pub put_rule : List ℕ → Bool → List Json → Criterion → PushRule
put_rule id enabled actions criterion =
    record { id = id; predefined = false; enabled = enabled; actions = actions; criterion = criterion }

-- ---- where it is put

-- directly before the first rule that passes the test, and last where none does
abbrev pub put_before : (PushRule → Bool) → PushRule → List PushRule → List PushRule
put_before test new [] = new ∷ []
put_before test new (rule ∷ rules) = if test rule then new ∷ rule ∷ rules else rule ∷ put_before test new rules

-- directly after the first rule that passes the test, and last where none does
abbrev pub put_after : (PushRule → Bool) → PushRule → List PushRule → List PushRule
put_after test new [] = new ∷ []
put_after test new (rule ∷ rules) = if test rule then rule ∷ new ∷ rules else rule ∷ put_after test new rules

-- in the place of the first rule that passes the test
abbrev pub put_over : (PushRule → Bool) → PushRule → List PushRule → List PushRule
put_over test new [] = []
put_over test new (rule ∷ rules) = if test rule then new ∷ rules else rule ∷ put_over test new rules

-- the first of the user's rules: only the master stands before it
abbrev pub put_first_own : Kind → PushRule → List PushRule → List PushRule
put_first_own kind new rules = put_before (λ rule. not (is_master kind rule)) new rules

-- without an anchor a rule of the user's that is there keeps its place, and a new one is the first of the user's
abbrev pub put_by_itself : Kind → PushRule → List PushRule → List PushRule
put_by_itself kind new rules =
    if list_any (is_own_with kind new.id) rules then put_over (is_own_with kind new.id) new rules
    else put_first_own kind new (without new.id rules)

-- the rules of a kind after a put: `before` decides over `after`
abbrev pub with_put : Kind → PushRule → Option (List ℕ) → Option (List ℕ) → List PushRule → List PushRule
with_put kind new (Some anchor) after rules = put_before (is_own_with kind anchor) new (without new.id rules)
with_put kind new None (Some anchor) rules = put_after (is_own_with kind anchor) new (without new.id rules)
with_put kind new None None rules = put_by_itself kind new rules

-- ---- what an edit makes of the rules

-- the rules, the one with this id changed
abbrev pub with_changed : List ℕ → (PushRule → PushRule) → List PushRule → List PushRule
with_changed id change rules = map (λ rule. if has_id id rule then change rule else rule) rules

-- the rule, enabled or disabled
abbrev pub with_enabled : Bool → PushRule → PushRule
with_enabled enabled rule = record rule { enabled = enabled }

-- the rule, with these actions
abbrev pub with_actions : List Json → PushRule → PushRule
with_actions actions rule = record rule { actions = actions }

-- the kind whose rules an edit changes
abbrev pub edited_kind : Edit → Kind
edited_kind (Put kind id pattern conditions actions before after) = kind
edited_kind (Delete kind id) = kind
edited_kind (Enable kind id enabled) = kind
edited_kind (SetActions kind id actions) = kind

-- what an edit makes of the rules of its kind
abbrev pub edited_list : Edit → List PushRule → List PushRule
edited_list (Put kind id pattern conditions actions before after) rules =
    with_put kind (put_rule id (flag_of id rules) actions.items (criterion_of kind pattern conditions)) before after
    rules
edited_list (Delete kind id) rules = without id rules
edited_list (Enable kind id enabled) rules = with_changed id (with_enabled enabled) rules
edited_list (SetActions kind id actions) rules = with_changed id (with_actions actions.items) rules

-- these five lists, with this one for a kind
abbrev pub with_list : Kind → List PushRule → PushRuleset → PushRuleset
with_list Override list rules = record rules { override = list }
with_list Content list rules = record rules { content = list }
with_list Room list rules = record rules { room = list }
with_list Sender list rules = record rules { sender = list }
with_list Underride list rules = record rules { underride = list }

-- what an edit that isn't refused makes of a user's rules
unfoldable pub edited : PushRuleset → Edit → PushRuleset
edited rules edit = with_list (edited_kind edit) (edited_list edit (rules_of_kind (edited_kind edit) rules)) rules

-- ---- changes by place

-- the rules, the one at this place changed; past the last none is
abbrev pub changed_at : ℕ → (PushRule → PushRule) → List PushRule → List PushRule
changed_at index change [] = []
changed_at zero change (rule ∷ rules) = change rule ∷ rules
changed_at (suc index) change (rule ∷ rules) = rule ∷ changed_at index change rules

-- what a change makes of the rules of a kind
abbrev pub list_changed : ListChange → List PushRule → List PushRule
list_changed (Replace list) rules = list
list_changed (Remove index) rules = remove rules index
list_changed (ListChange.Enable index enabled) rules = changed_at index (with_enabled enabled) rules
list_changed (ListChange.SetActions index actions) rules = changed_at index (with_actions actions) rules

-- ---- the refusals

-- the byte `/`
abbrev pub slash : ℕ
slash = 47

-- the id of a predefined rule
abbrev pub is_reserved : List ℕ → Bool
is_reserved id = begins_with full_stop id

-- an id that no rule of a user's can have
abbrev pub is_unfit : List ℕ → Bool
is_unfit id = is_reserved id || (holds_byte slash id || holds_byte backslash id)

-- the id of a room rule is a room's, and that of a sender rule a user's
abbrev pub is_id_for : Kind → List ℕ → Bool
is_id_for Room id = is_room_id id
is_id_for Sender id = is_user_id id
is_id_for kind id = true

-- a content rule has a pattern, of at most 1,024 bytes
abbrev pub is_pattern_for : Kind → Option (List ℕ) → Bool
is_pattern_for Content pattern = option_map_or (λ text. nat_le (length text) 1024) pattern false
is_pattern_for kind pattern = true

-- a rule has at most 64 conditions, each of which is one
abbrev pub are_conditions : List Json → Bool
are_conditions given = nat_le (length given) 64 && list_all is_condition given

-- conditions are looked at for override and underride rules alone
abbrev pub are_conditions_for : Kind → Option JsonList → Bool
are_conditions_for Override given = are_conditions (given_items given)
are_conditions_for Underride given = are_conditions (given_items given)
are_conditions_for kind given = true

-- the text is an action
abbrev pub is_action_word : List ℕ → Bool
is_action_word word =
    bytes_eq word (codes "notify") || (bytes_eq word (codes "dont_notify") || bytes_eq word (codes "coalesce"))

-- an action is one of three texts, or an object with a text `set_tweak`
abbrev pub is_action : Json → Bool
is_action json = option_map_or is_action_word (text_of json) (is_some (text_at (codes "set_tweak") json))

-- a rule has at most 32 actions, each of which is one
abbrev pub are_actions : List Json → Bool
are_actions given = nat_le (length given) 32 && list_all is_action given

-- the first part of a put that is wrong
abbrev pub wrong_part : Kind → List ℕ → Option (List ℕ) → Option JsonList → List Json → Option Part
wrong_part kind id pattern conditions actions =
    if not (is_id_for kind id) then Some part.RuleId
    else (if not (is_pattern_for kind pattern) then Some part.Pattern
    else (if not (are_conditions_for kind conditions) then Some part.Conditions
    else (if not (are_actions actions) then Some part.Actions
    else None)))

-- one of the rules has this id
abbrev pub has_rule : List ℕ → List PushRule → Bool
has_rule id rules = list_any (has_id id) rules

-- a rule with this id can stand beside the anchor: that is another rule of the kind, which the user made
abbrev pub is_anchor : Kind → List ℕ → List PushRule → List ℕ → Bool
is_anchor kind id rules anchor = not (bytes_eq anchor id) && list_any (is_own_with kind anchor) rules

-- the anchor that decides is one: `before` is looked at alone where it is given
abbrev pub is_anchored : Kind → List ℕ → Option (List ℕ) → Option (List ℕ) → List PushRule → Bool
is_anchored kind id (Some anchor) after rules = is_anchor kind id rules anchor
is_anchored kind id None (Some anchor) rules = is_anchor kind id rules anchor
is_anchored kind id None None rules = true

-- there is room for a rule with this id: it is there already, or the user has fewer than 1,000
abbrev pub has_room : Kind → List ℕ → PushRuleset → Bool
has_room kind id rules =
    list_any (is_own_with kind id) (rules_of_kind kind rules) || nat_lt (own_count rules) 1000

-- why a put isn't done that makes a rule of no wrong part
abbrev pub refusal_of_place : Kind → List ℕ → Option (List ℕ) → Option (List ℕ) → PushRuleset → Option EditRefusal
refusal_of_place kind id before after rules =
    if not (is_anchored kind id before after (rules_of_kind kind rules)) then Some AnchorUnknown
    else (if not (has_room kind id rules) then Some RulesFull
    else None)

-- why what was to be done to the rule with this id isn't done
abbrev pub refusal_of_absence : Kind → List ℕ → PushRuleset → Option EditRefusal
refusal_of_absence kind id rules = if not (has_rule id (rules_of_kind kind rules)) then Some RuleUnknown else None

-- why an edit is refused: the first cause that applies, or none
unfoldable pub refusal_of_edit : PushRuleset → Edit → Option EditRefusal
refusal_of_edit rules (Put kind id pattern conditions actions before after) =
    if is_unfit id then Some RuleReserved
    else option_map_or (λ wrong. Some (BadRule wrong)) (wrong_part kind id pattern conditions actions.items)
    (refusal_of_place kind id before after rules)
refusal_of_edit rules (Delete kind id) = if is_reserved id then Some RuleReserved else refusal_of_absence kind id rules
refusal_of_edit rules (Enable kind id enabled) = refusal_of_absence kind id rules
refusal_of_edit rules (SetActions kind id actions) =
    if not (are_actions actions.items) then Some (BadRule part.Actions) else refusal_of_absence kind id rules

-- ---- what the JSON of an edit is

-- the values that an edit holds are valid
abbrev pub is_valid_edit : Edit → Bool
is_valid_edit (Put kind id pattern conditions actions before after) =
    list_all is_valid (given_items conditions) && list_all is_valid actions.items
is_valid_edit (Delete kind id) = true
is_valid_edit (Enable kind id enabled) = true
is_valid_edit (SetActions kind id actions) = list_all is_valid actions.items
