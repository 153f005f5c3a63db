-- Which inputs and questions a history refuses, and which entries it may go on with: ours.
use Rattle.std.specs.Prelude.{ℕ, ◌≤◌, ◌<◌, List, length, map, ◌≡◌, Bool, true, not, ◌&&◌, ◌||◌, nat_eq, nat_le, nat_lt}
use Rattle.std.specs.Prelude.{if◌then◌else◌, Option, None, Some, option_map, find, All}
use Rattle.std.specs.List.{list_any}
use Rattle.std.specs.Option.{option_map_or, option_or}
use Rattle.std.specs.Str.{bytes_eq}
use Rattle.mx_json.specs.Ids.{is_local}
use Rattle.mx_event.specs.Event.{event_id_of}
use Rattle.mx_rule.specs.declared.edit.EditRefusal.{EditRefusal}
use Rattle.mx_rule.specs.declared.edit.EditRefusal.TheVariants as edit
use Rattle.mx_rule.specs.Editing.{refusal_of_edit}
use Rattle.mx_records.specs.declared.input.Input.{Input}
use Rattle.mx_records.specs.declared.input.Input.TheVariants.{Event, Edit, Receipt, Pusher}
use Rattle.mx_records.specs.declared.refusal.Refusal.{Refusal}
use Rattle.mx_records.specs.declared.refusal.Refusal.TheVariants.{NotLocal, KnownEvent, UnknownEvent, NotInThread}
use Rattle.mx_records.specs.declared.refusal.Refusal.TheVariants.{RuleReserved, BadRule, RuleUnknown, AnchorUnknown}
use Rattle.mx_records.specs.declared.refusal.Refusal.TheVariants.{RulesFull, EntryTooLong, Full}
use Rattle.mx_json.specs.Json.{depth_of}
use Rattle.mx_records.specs.declared.entry.Entry.{Entry}
use Rattle.mx_records.specs.declared.entry.Entry.TheVariants.{Input as InputEntry, Outcome as OutcomeEntry}
use Rattle.mx_records.specs.declared.entry.Outcome.{Outcome}
use Rattle.mx_records.specs.Entries.{payload_of, pusher_of, settled_by}
use Rattle.mx_records.specs.History.{Happening, History, additions, events, inputs_of, position_after}
use Rattle.mx_records.specs.Judging.{notifies}
use Rattle.mx_records.specs.Normal.{normal_of, IsNormal}
use Rattle.mx_rows.specs.declared.thread_key.ThreadKey.{ThreadKey}
use Rattle.mx_rows.specs.declared.thread_key.ThreadKey.TheVariants.{Main, Root}
use Rattle.mx_rows.specs.Threads.{same_thread}
use Rattle.mx_records.specs.Counting.{is_in, thread_in}
use Rattle.mx_records.specs.Places.{is_event_with, position_of}
use Rattle.mx_records.specs.Pushers.{Living, has_number, pushers_of}
use Rattle.mx_records.specs.Rules.{rules_of}

-- as many inputs as a history may have
abbrev pub most_inputs : ℕ
most_inputs = 1000000

-- the history has as many inputs as it may have
abbrev pub is_full : History → Bool
is_full h = nat_le most_inputs (inputs_of h)

-- why a history refuses an edit
abbrev pub refusal_by : EditRefusal → Refusal
refusal_by edit.RuleReserved = RuleReserved
refusal_by (edit.BadRule part) = BadRule part
refusal_by edit.RuleUnknown = RuleUnknown
refusal_by edit.AnchorUnknown = AnchorUnknown
refusal_by edit.RulesFull = RulesFull

-- the event with this id is in the thread that a receipt names, or is its root
abbrev pub is_read_in : List ℕ → Happening → ThreadKey → Bool
is_read_in id happening Main = same_thread Main (thread_in happening)
is_read_in id happening (Root root) = same_thread (Root root) (thread_in happening) || bytes_eq root id

-- why a receipt that names this event of a room, and perhaps a thread, is refused: the event is none of
-- the room, or not in the thread
abbrev pub refusal_of_read : List ℕ → List ℕ → Option ThreadKey → Option Happening → Option Refusal
refusal_of_read room id named None = Some UnknownEvent
refusal_of_read room id named (Some happening) =
    if not (is_in room happening.event) then Some UnknownEvent
    else (if not (option_map_or (is_read_in id happening) named true) then Some NotInThread else None)

-- why a history refuses an input for what it says: an event whose id was accepted is known, at
-- the first position of its id; an edit is of a local user, and does what that user's rules allow;
-- a receipt is of a local user, and names an event of its room, in the thread that it names, if any; a
-- pusher is set for a local user
abbrev pub refusal_of_content : List ℕ → History → Input → Option Refusal
refusal_of_content server h (Event event) =
    option_map KnownEvent (position_of h (event_id_of event))
refusal_of_content server h (Edit user edit) =
    if is_local server user then option_map refusal_by (refusal_of_edit (rules_of server h user) edit)
    else Some NotLocal
refusal_of_content server h (Receipt user room id private named) =
    if is_local server user then refusal_of_read room id named (find (is_event_with id) (events h))
    else Some NotLocal
refusal_of_content server h (Pusher spec) = if is_local server spec.user then None else Some NotLocal

-- how many bytes the payload of an input may have
abbrev pub longest_payload : ℕ
longest_payload = 262144

-- how deep the object that stands for an input may be nested
abbrev pub deepest_input : ℕ
deepest_input = 100

-- the payload of an input has more bytes than it may have, or its object is nested too deep
unfoldable pub is_too_long : Input → Bool
is_too_long input =
    nat_lt longest_payload (length (payload_of (InputEntry input)))
    || nat_lt deepest_input (depth_of (normal_of input))

-- why an input that a history doesn't refuse for what it says is refused: it is too long, or else the
-- history is full
abbrev pub refusal_of_room : History → Input → Option Refusal
refusal_of_room h input =
    if is_too_long input then Some EntryTooLong else (if is_full h then Some Full else None)

-- why a history refuses an input of any length: for what it says, and else because the history is
-- full; for private clauses
unfoldable pub refusal_of_any : List ℕ → History → Input → Option Refusal
refusal_of_any server h input =
    option_or (refusal_of_content server h input) (if is_full h then Some Full else None)

-- Why a history refuses an input: for what it says, and else because it is too long or the history
-- is full.
unfoldable pub refusal_of : List ℕ → History → Input → Option Refusal
refusal_of server h input = option_or (refusal_of_content server h input) (refusal_of_room h input)

-- ---- which histories are valid

-- The input is that of a command that is built: a pusher isn't.
abbrev pub IsBuilt : Input → Type 0
IsBuilt (Event event) = Unit {0}
IsBuilt (Edit user edit) = Unit {0}
IsBuilt (Receipt user room id private named) = Unit {0}
IsBuilt (Pusher spec) = ⊥

-- An input may come next where it is one that its object stands for, it is built, and nothing refuses
-- it.
pub record IsAcceptableInput (server : List ℕ) (h : History) (input : Input) : Type 0 where
  pub normal : IsNormal input
  pub built : IsBuilt input
  pub unrefused : refusal_of server h input ≡ None

-- an event stands at this position, and notifies this user
abbrev pub notifies_at : List ℕ → List ℕ → ℕ → Happening → Bool
notifies_at server user position happening =
    nat_eq (position_after happening.before) position && notifies server user happening

-- An outcome may come next where its pusher lives, its position is that of an event which notifies the
-- pusher's user, and it lies above the pusher's cursor.
pub record IsAcceptableOutcome (server : List ℕ) (h : History) (outcome : Outcome) : Type 0 where
  pub pusher : Living
  pub lives : find (has_number (pusher_of outcome)) (pushers_of h) ≡ Some pusher
  pub notified : list_any (notifies_at server pusher.spec.user (settled_by outcome)) (events h) ≡ true
  pub above_cursor : pusher.settled < settled_by outcome

-- An entry may come next where its input or its outcome may.
abbrev pub IsAcceptable : List ℕ → History → Entry → Type 0
IsAcceptable server h (InputEntry input) = IsAcceptableInput server h input
IsAcceptable server h (OutcomeEntry outcome) = IsAcceptableOutcome server h outcome

-- Each entry of a history is acceptable after those before it.
unfoldable pub IsValid : List ℕ → History → Type 0
IsValid server h = All (λ addition. IsAcceptable server addition.before addition.entry) (additions h)

-- The payloads of a history, in order: what a journal keeps of it.
unfoldable pub payloads_of : History → List (List ℕ)
payloads_of h = map payload_of h

-- a position that a refusal names is one that an input can have
abbrev pub NamesAPosition : Refusal → Type 0
NamesAPosition NotLocal = Unit {0}
NamesAPosition (KnownEvent position) = position ≤ most_inputs
NamesAPosition UnknownEvent = Unit {0}
NamesAPosition NotInThread = Unit {0}
NamesAPosition RuleReserved = Unit {0}
NamesAPosition (BadRule part) = Unit {0}
NamesAPosition RuleUnknown = Unit {0}
NamesAPosition AnchorUnknown = Unit {0}
NamesAPosition RulesFull = Unit {0}
NamesAPosition EntryTooLong = Unit {0}
NamesAPosition Full = Unit {0}
