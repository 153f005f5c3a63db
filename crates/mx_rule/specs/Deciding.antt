-- Whether a rule may decide for an event, as a test: `true` exactly where `MayDecide` holds,
-- so that events can be filtered by it.
use Rattle.std.specs.Prelude.{ℕ, zero, suc, nat_le, nat_lt, ◌==◌, int_le, Bool, true, false, not, ◌&&◌, ◌||◌}
use Rattle.std.specs.Prelude.{if◌then◌else◌, List, [], ◌∷◌, drop, length, Option, option_and_then, slice_get}
use Rattle.std.specs.Prelude.{slice_range}
use Rattle.std.specs.Bool.{beq}
use Rattle.std.specs.List.{list_all, list_any}
use Rattle.std.specs.Option.{option_map_or}
use Rattle.std.specs.Ordering.{int_eq}
use Rattle.std.specs.Str.{bytes_eq}
use Rattle.mx_json.specs.declared.value.Json.{Json}
use Rattle.mx_json.specs.Folded.{folded}
use Rattle.mx_json.specs.Json.{text_of}
use Rattle.mx_json.specs.Path.{look}
use Rattle.mx_glob.specs.Glob.{question, star}
use Rattle.mx_glob.specs.Words.{character_before, is_outside}
use Rattle.mx_event.specs.Event.{room_id_of, sender_of}
use Rattle.mx_cond.specs.declared.count.Comparison.{Comparison}
use Rattle.mx_cond.specs.declared.count.Comparison.TheVariants.{Equal, Below, Above, AtLeast, AtMost}
use Rattle.mx_cond.specs.declared.plain.Plain.{Plain}
use Rattle.mx_cond.specs.declared.plain.Plain.TheVariants.{Null, Truth, Whole, Text}
use Rattle.mx_cond.specs.declared.wanted.Wanted.{Wanted}
use Rattle.mx_cond.specs.declared.wanted.Wanted.TheVariants.{EventMatch, EventPropertyIs, EventPropertyContains}
use Rattle.mx_cond.specs.declared.wanted.Wanted.TheVariants.{RoomMemberCount, SenderNotificationPermission}
use Rattle.mx_cond.specs.declared.wanted.Wanted.TheVariants.{ContainsDisplayName, Unknown}
use Rattle.mx_cond.specs.Condition.{plain_of, wanted_by}
use Rattle.mx_cond.specs.Facts.{EventFacts}
use Rattle.mx_cond.specs.Holds.{body_path, is_body, members_of}
use Rattle.mx_cond.specs.PowerLevels.{needed_power}
use Rattle.mx_rule.specs.declared.criterion.Criterion.{Criterion}
use Rattle.mx_rule.specs.declared.criterion.Criterion.TheVariants.{Conditions, Word, InRoom, FromSender}
use Rattle.mx_rule.specs.Rule.{PushRule, is_passed_over}

-- ---- searching

-- some number below this one passes
abbrev pub some_below : (ℕ → Bool) → ℕ → Bool
some_below test zero = false
some_below test (suc n) = test n || some_below test n

-- some number up to this one passes
abbrev pub some_upto : (ℕ → Bool) → ℕ → Bool
some_upto test n = some_below test (suc n)

-- ---- globs and words

-- the text isn't empty, and its tail passes
abbrev pub after_any : (List ℕ → Bool) → List ℕ → Bool
after_any test [] = false
after_any test (first ∷ tail) = test tail

-- the text begins with c, and its tail passes
abbrev pub after_character : ℕ → (List ℕ → Bool) → List ℕ → Bool
after_character c test [] = false
after_character c test (first ∷ tail) = (first == c) && test tail

-- the pattern matches the text, by cases on the pattern: the empty one, '*', '?', another character
abbrev pub glob : List ℕ → List ℕ → Bool
glob [] text = bytes_eq text []
glob (c ∷ rest) text =
    if c == star then some_upto (λ k. glob rest (drop k text)) (length text)
    else (if c == question then after_any (glob rest) text else after_character c (glob rest) text)

-- the part of the text from a to b stands in it as a word
abbrev pub is_word_at : List ℕ → ℕ → ℕ → Bool
is_word_at text a b =
    nat_le a b
    && (nat_le b (length text) && (is_outside (character_before text a) && is_outside (slice_get text b)))

-- some word of the text, which may be empty, passes
abbrev pub some_word : (List ℕ → Bool) → List ℕ → Bool
some_word test text =
    some_upto (λ a. some_upto (λ b. is_word_at text a b && test (slice_range text a b)) (length text)) (length text)

-- the pattern matches some word of the text
abbrev pub glob_word : List ℕ → List ℕ → Bool
glob_word pattern text = some_word (glob pattern) text

-- the name is some word of the text
abbrev pub has_word : List ℕ → List ℕ → Bool
has_word name text = some_word (λ word. bytes_eq word name) text

-- ---- conditions

-- the value at the path is a text that passes
abbrev pub has_text : List (List ℕ) → Json → (List ℕ → Bool) → Bool
has_text path event test = option_map_or test (option_and_then text_of (look path event)) false

-- the pattern matches a text: a word of it where the path is that of the body, else the whole
abbrev pub matches_at : List (List ℕ) → List ℕ → List ℕ → Bool
matches_at path pattern text = if is_body path then glob_word pattern (folded text) else glob pattern (folded text)

-- two plain values are the same
abbrev pub same_plain : Plain → Plain → Bool
same_plain Null Null = true
same_plain (Truth a) (Truth b) = beq a b
same_plain (Whole a) (Whole b) = int_eq a b
same_plain (Text a) (Text b) = bytes_eq a b
same_plain a b = false

-- a value equals a plain one
abbrev pub equals : Plain → Json → Bool
equals value found = option_map_or (λ plain. same_plain plain value) (plain_of found) false

-- the count stands so to the number
abbrev pub compares : Comparison → ℕ → ℕ → Bool
compares Equal count number = count == number
compares Below count number = nat_lt count number
compares Above count number = nat_lt number count
compares AtLeast count number = nat_le number count
compares AtMost count number = nat_le count number

-- the owner has a name that isn't empty, and the body is a text that has it as a word, case apart
abbrev pub names_owner : Option (List ℕ) → Json → Bool
names_owner owner_name event =
    option_map_or
    (λ name. not (bytes_eq name []) && has_text body_path event (λ body. has_word (folded name) (folded body)))
    owner_name
    false

-- what a condition wants is so, kind by kind; an unknown kind never holds
abbrev pub is_met : Wanted → EventFacts → Bool
is_met (EventMatch path pattern) facts = has_text path facts.event (matches_at path pattern)
is_met (EventPropertyIs path value) facts = option_map_or (equals value) (look path facts.event) false
is_met (EventPropertyContains path value) facts =
    option_map_or (λ found. list_any (equals value) (members_of found)) (look path facts.event) false
is_met (RoomMemberCount asked) facts =
    option_map_or (λ count. compares count.comparison facts.joined count.number) asked false
is_met (SenderNotificationPermission key) facts = int_le (needed_power key facts.power_levels) facts.sender_power
is_met ContainsDisplayName facts = names_owner facts.owner_name facts.event
is_met Unknown facts = false

-- a condition holds of the facts; what is no condition doesn't
abbrev pub holds : Json → EventFacts → Bool
holds condition facts = option_map_or (λ wanted. is_met wanted facts) (wanted_by condition) false

-- ---- rules

-- the event meets what a rule with this id asks, kind by kind
abbrev pub meets : Criterion → List ℕ → EventFacts → Bool
meets (Conditions conditions) id facts = list_all (λ condition. holds condition facts) conditions
meets (Word pattern) id facts = has_text body_path facts.event (λ body. glob_word (folded pattern) (folded body))
meets InRoom id facts = bytes_eq (room_id_of facts.event) id
meets FromSender id facts = bytes_eq (sender_of facts.event) id

-- a rule may decide for an event: it is enabled, it isn't passed over, and the event meets what it asks
unfoldable pub may_decide : PushRule → EventFacts → Bool
may_decide rule facts =
    rule.enabled && (not (is_passed_over rule.id facts.event) && meets rule.criterion rule.id facts)
