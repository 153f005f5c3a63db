-- What makes a JSON value a condition, and what it wants: the Client-Server API v1.11, "Conditions for push rules".
use Rattle.std.specs.Prelude.{ℕ, Bool, if◌then◌else◌, List, codes, Option, Some, None, is_some, option_and_then}
use Rattle.std.specs.Prelude.{option_map, Result, Ok, Err}
use Rattle.std.specs.Option.{ok_or}
use Rattle.std.specs.Result.{result_ok}
use Rattle.std.specs.Str.{bytes_eq}
use Rattle.mx_json.specs.declared.value.Json.{Json, out-Json}
use Rattle.mx_json.specs.declared.value.Json.TheOpen.{Json-F}
use Rattle.mx_json.specs.declared.value.JsonList.{JsonList}
use Rattle.mx_json.specs.declared.value.JsonObject.{JsonObject}
use Rattle.mx_json.specs.Json.{member, text_at}
use Rattle.mx_json.specs.Path.{segments}
use Rattle.mx_glob.specs.FoldedPattern.{folded_pattern}
use Rattle.mx_cond.specs.declared.error.ConditionError.{ConditionError}
use Rattle.mx_cond.specs.declared.error.ConditionError.TheVariants.{BadCondition}
use Rattle.mx_cond.specs.declared.plain.Plain.{Plain}
use Rattle.mx_cond.specs.declared.plain.Plain.TheVariants.{Null, Truth, Whole, Text}
use Rattle.mx_cond.specs.declared.wanted.Wanted.{Wanted}
use Rattle.mx_cond.specs.declared.wanted.Wanted.TheVariants.{EventMatch, EventPropertyIs, EventPropertyContains}
use Rattle.mx_cond.specs.declared.wanted.Wanted.TheVariants.{RoomMemberCount, SenderNotificationPermission}
use Rattle.mx_cond.specs.declared.wanted.Wanted.TheVariants.{ContainsDisplayName, Unknown}
use Rattle.mx_cond.specs.MemberCount.{count_asked}

-- ---- the fields

-- the path that `key` spells
abbrev pub path_in : Json → Option (List (List ℕ))
path_in json = option_map segments (text_at (codes "key") json)

-- the folded characters of `pattern`, where it has at most 1,024 bytes
abbrev pub pattern_in : Json → Option (List ℕ)
pattern_in json = option_and_then (λ pattern. result_ok (folded_pattern pattern)) (text_at (codes "pattern") json)

-- a text, a whole number, a truth value or null is plain; a list and an object aren't
abbrev pub top_plain : Json-F Json JsonList JsonObject → Option Plain
top_plain Json-F.Null = Some Null
top_plain (Json-F.Truth truth) = Some (Truth truth)
top_plain (Json-F.Whole number) = Some (Whole number)
top_plain (Json-F.Text text) = Some (Text text)
top_plain (Json-F.List list) = None
top_plain (Json-F.Object object) = None

-- the plain value that a value is
abbrev pub plain_of : Json → Option Plain
plain_of json = top_plain (out-Json json)

-- `value`, where it is plain
abbrev pub value_in : Json → Option Plain
value_in json = option_and_then plain_of (member (codes "value") json)

-- ---- what a condition wants, kind by kind

-- what two fields make, where both are there
abbrev pub with_both : {A B : Type 0} → (A → B → Wanted) → Option A → Option B → Option Wanted
with_both make (Some a) (Some b) = Some (make a b)
with_both make (Some a) None = None
with_both make None b = None

-- what a condition of this kind wants; none where a known kind lacks a field, or has a wrong one
unfoldable pub wanted_of_kind : List ℕ → Json → Option Wanted
wanted_of_kind kind json =
    if bytes_eq kind (codes "event_match") then with_both EventMatch (path_in json) (pattern_in json)
    else (if bytes_eq kind (codes "event_property_is") then with_both EventPropertyIs (path_in json) (value_in json)
    else (if bytes_eq kind (codes "event_property_contains")
    then with_both EventPropertyContains (path_in json) (value_in json)
    else (if bytes_eq kind (codes "room_member_count")
    then option_map (λ is. RoomMemberCount (count_asked is)) (text_at (codes "is") json)
    else (if bytes_eq kind (codes "sender_notification_permission")
    then option_map (λ key. SenderNotificationPermission key) (text_at (codes "key") json)
    else (if bytes_eq kind (codes "contains_display_name") then Some ContainsDisplayName
    else Some Unknown)))))

-- what a value wants as a condition; none where it is none: one that isn't an object has no `kind`
unfoldable pub wanted_by : Json → Option Wanted
wanted_by json = option_and_then (λ kind. wanted_of_kind kind json) (text_at (codes "kind") json)

-- ---- when a value is a condition

-- what was read, or that the value is no condition; for private clauses
abbrev pub or_bad : {A : Type 0} → Option A → Result A ConditionError
or_bad found = ok_or found BadCondition

-- the value is a condition
abbrev pub is_condition : Json → Bool
is_condition json = is_some (wanted_by json)

-- the value as a condition, or that it is none
abbrev pub read_condition : Json → Result Json ConditionError
read_condition json = if is_condition json then Ok json else Err BadCondition
