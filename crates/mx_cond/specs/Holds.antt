-- When a condition holds: the Client-Server API v1.11, "Conditions for push rules", kind by kind.
use Rattle.std.specs.Prelude.{◌≡◌, ◌≢◌, ℕ, ◌≤ℤ◌, Bool, true, false, List, [], Option, Some, option_and_then, option_map}
use Rattle.std.specs.Prelude.{unwrap_or, IsSomeAnd, MatchBool, Any}
use Rattle.mx_json.specs.declared.value.Json.{Json, out-Json}
use Rattle.mx_json.specs.declared.value.Json.TheOpen.{Json-F}
use Rattle.mx_json.specs.declared.value.JsonList.{JsonList}
use Rattle.mx_json.specs.declared.value.JsonObject.{JsonObject}
use Rattle.mx_json.specs.Folded.{folded}
use Rattle.mx_json.specs.Json.{text_of}
use Rattle.mx_json.specs.Path.{look}
use Rattle.mx_glob.specs.Glob.{Matches}
use Rattle.mx_glob.specs.Words.{HasWord, WordMatches}
use Rattle.mx_cond.specs.declared.plain.Plain.{Plain}
use Rattle.mx_cond.specs.declared.wanted.Wanted.{Wanted}
use Rattle.mx_cond.specs.declared.wanted.Wanted.TheVariants.{EventMatch, EventPropertyIs, EventPropertyContains}
use Rattle.mx_cond.specs.declared.wanted.Wanted.TheVariants.{RoomMemberCount, SenderNotificationPermission}
use Rattle.mx_cond.specs.declared.wanted.Wanted.TheVariants.{ContainsDisplayName, Unknown}
pub use Rattle.mx_cond.specs.Body.{body_path, is_body}
use Rattle.mx_cond.specs.Condition.{plain_of, wanted_by}
use Rattle.mx_cond.specs.Facts.{EventFacts}
use Rattle.mx_cond.specs.MemberCount.{IsAsAsked}
use Rattle.mx_cond.specs.PowerLevels.{needed_power}

-- ---- event_match

-- the glob matches a text: a word of it where the path is that of the body, else the whole
abbrev pub MatchesAt : List (List ℕ) → List ℕ → List ℕ → Type 0
MatchesAt path pattern text =
    MatchBool (is_body path) (WordMatches pattern (folded text)) (Matches pattern (folded text))

-- the value at the path is a text of which this is true
abbrev pub HasText : List (List ℕ) → Json → (List ℕ → Type 0) → Type 0
HasText path event IsTrueOf = IsSomeAnd (option_and_then text_of (look path event)) IsTrueOf

-- ---- event_property_is

-- a value equals a plain one
abbrev pub Equals : Plain → Json → Type 0
Equals value found = plain_of found ≡ Some value

-- the value at the path is there, and equals this one
abbrev pub HasValue : List (List ℕ) → Json → Plain → Type 0
HasValue path event value = IsSomeAnd (look path event) (Equals value)

-- ---- event_property_contains

-- the members at the top of a value: those of a list, and none for any other
abbrev pub top_members : Json-F Json JsonList JsonObject → List Json
top_members (Json-F.List list) = list.items
top_members other = []

-- the members of a value: those of a list, and none for any other
abbrev pub members_of : Json → List Json
members_of json = top_members (out-Json json)

-- the value at the path is a list, and one of its members equals this one
abbrev pub HasMember : List (List ℕ) → Json → Plain → Type 0
HasMember path event value = IsSomeAnd (look path event) (λ found. Any (Equals value) (members_of found))

-- ---- contains_display_name

-- the owner has a name that isn't empty, and the body is a text that has it as a word, case apart
abbrev pub NamesOwner : Option (List ℕ) → Json → Type 0
NamesOwner owner_name event =
    IsSomeAnd owner_name (λ name. (name ≢ []) × HasText body_path event (λ body. HasWord (folded name) (folded body)))

-- ---- all kinds, each by its section of "Conditions for push rules"

-- what a condition wants is so
abbrev pub IsMet : Wanted → EventFacts → Type 0
-- event_match
IsMet (EventMatch path pattern) facts = HasText path facts.event (MatchesAt path pattern)
-- event_property_is
IsMet (EventPropertyIs path value) facts = HasValue path facts.event value
-- event_property_contains
IsMet (EventPropertyContains path value) facts = HasMember path facts.event value
-- room_member_count
IsMet (RoomMemberCount asked) facts = IsAsAsked asked facts.joined
-- sender_notification_permission: the sender has the power that notifications with this key need
IsMet (SenderNotificationPermission key) facts = needed_power key facts.power_levels ≤ℤ facts.sender_power
-- contains_display_name
IsMet ContainsDisplayName facts = NamesOwner facts.owner_name facts.event
-- an unknown kind never holds
IsMet Unknown facts = ⊥

-- a condition holds of the facts; what is no condition doesn't
abbrev pub Holds : Json → EventFacts → Type 0
Holds condition facts = IsSomeAnd (wanted_by condition) (λ wanted. IsMet wanted facts)

-- ---- what the owner's name may change

-- what is wanted is of the owner's name
abbrev pub wants_name : Wanted → Bool
wants_name ContainsDisplayName = true
wants_name other = false

-- a condition may hold for one owner and not for another: so a contains_display_name alone
abbrev pub depends_on_owner : Json → Bool
depends_on_owner condition = unwrap_or (option_map wants_name (wanted_by condition)) false
