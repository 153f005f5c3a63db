-- What a push rule is, and which events it matches: the Client-Server API v1.11, "Push rules".
use Rattle.std.specs.Prelude.{◌≡◌, ℕ, nat_lt, Bool, false, ◌&&◌, ◌||◌, if◌then◌else◌, List, [], length, codes, Option}
use Rattle.std.specs.Prelude.{Some, None, Result, Ok, Err, IsTrue, All}
use Rattle.std.specs.Str.{bytes_eq}
use Rattle.mx_json.specs.declared.value.Json.{Json}
use Rattle.mx_json.specs.Folded.{folded}
use Rattle.mx_glob.specs.Words.{WordMatches}
use Rattle.mx_glob.specs.declared.error.GlobError.{GlobError}
use Rattle.mx_glob.specs.declared.error.GlobError.TheVariants.{PatternTooLong}
use Rattle.mx_event.specs.Event.{has_mentions, room_id_of, sender_of}
use Rattle.mx_cond.specs.Facts.{EventFacts}
use Rattle.mx_cond.specs.Holds.{body_path, Holds, HasText}
use Rattle.mx_rule.specs.declared.criterion.Criterion.{Criterion}
use Rattle.mx_rule.specs.declared.criterion.Criterion.TheVariants.{Conditions, Word, InRoom, FromSender}

-- a push rule
pub record PushRule : Type 0 where
  -- its id, which no other rule of its kind has
  pub id : List ℕ
  -- it is there from the start, and no user made it
  pub predefined : Bool
  pub enabled : Bool
  -- its actions, as they were given
  pub actions : List Json
  -- what it asks of an event
  pub criterion : Criterion

-- ---- its parts, kind by kind

-- the conditions of an override or underride rule, as they were given; other rules have none
abbrev pub conditions_of : Criterion → List Json
conditions_of (Conditions conditions) = conditions
conditions_of other = []

-- the pattern of a content rule; other rules have none
abbrev pub pattern_of : Criterion → Option (List ℕ)
pattern_of (Word pattern) = Some pattern
pattern_of other = None

-- a text as a pattern, or that it has more than 1,024 bytes
abbrev pub read_pattern : List ℕ → Result (List ℕ) GlobError
read_pattern text = if nat_lt 1024 (length text) then Err PatternTooLong else Ok text

-- ---- when it matches

-- the body of the event's message is a text of which this glob pattern, case apart, matches a word
abbrev pub IsWordOfBody : List ℕ → Json → Type 0
IsWordOfBody pattern event = HasText body_path event (λ body. WordMatches (folded pattern) (folded body))

-- the three rules that look for a mention in the text of a message
abbrev pub looks_for_mention : List ℕ → Bool
looks_for_mention id =
    bytes_eq id (codes ".m.rule.contains_display_name")
    || bytes_eq id (codes ".m.rule.roomnotif")
    || bytes_eq id (codes ".m.rule.contains_user_name")

-- these three rules aren't evaluated for an event that says itself whom it mentions
abbrev pub is_passed_over : List ℕ → Json → Bool
is_passed_over id event = looks_for_mention id && has_mentions event

-- the event meets what a rule with this id asks
abbrev pub Meets : Criterion → List ℕ → EventFacts → Type 0
-- override, underride: all conditions hold
Meets (Conditions conditions) id facts = All (λ condition. Holds condition facts) conditions
-- content: the pattern matches a word of the body
Meets (Word pattern) id facts = IsWordOfBody pattern facts.event
-- room: the event's room has the id
Meets InRoom id facts = room_id_of facts.event ≡ id
-- sender: the event's sender has the id
Meets FromSender id facts = sender_of facts.event ≡ id

-- a rule matches an event
abbrev pub MatchesEvent : PushRule → EventFacts → Type 0
MatchesEvent rule facts = (is_passed_over rule.id facts.event ≡ false) × Meets rule.criterion rule.id facts

-- a rule may decide for an event: it is enabled, and matches
abbrev pub MayDecide : PushRule → EventFacts → Type 0
MayDecide rule facts = IsTrue rule.enabled × MatchesEvent rule facts
