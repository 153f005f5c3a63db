-- Why an input is refused, by why it is refused whatever its length and whether it is too long.
use Rattle.std.proofs.Common.{◌≡◌, ℕ, List, Bool, true, false, cond, not, Option, Some, None, option_map, Result, Ok}
use Rattle.std.proofs.Common.{Err, refl, ap, ◌∙◌}
use Rattle.std.specs.Option.{option_map_or, option_or}
use Rattle.mx_json.specs.Ids.{is_local}
use Rattle.mx_event.specs.Event.{event_id_of}
use Rattle.std.specs.Prelude.{find}
use Rattle.mx_rule.specs.declared.edit.EditRefusal.{EditRefusal}
use Rattle.mx_rule.specs.declared.edit.EditRefusal.TheVariants as edit
use Rattle.mx_rule.specs.Editing.{refusal_of_edit}
use Rattle.mx_rows.specs.declared.thread_key.ThreadKey.{ThreadKey}
use Rattle.mx_records.specs.declared.input.Input.{Input}
use Rattle.mx_records.specs.declared.input.Input.TheVariants.{Event, Edit, Receipt, Pusher}
use Rattle.mx_records.specs.declared.refusal.Refusal.{Refusal}
use Rattle.mx_records.specs.declared.refusal.Refusal.TheVariants.{EntryTooLong, Full, KnownEvent, NotInThread, NotLocal}
use Rattle.mx_records.specs.declared.refusal.Refusal.TheVariants.{UnknownEvent}
use Rattle.mx_records.specs.Counting.{is_in}
use Rattle.mx_records.specs.History.{Happening, History, events}
use Rattle.mx_records.specs.Normal.{IsNormal}
use Rattle.mx_records.specs.Places.{is_event_with, position_of}
use Rattle.mx_records.specs.Refusing.{is_full, is_read_in, is_too_long, refusal_by, refusal_of, refusal_of_any}
use Rattle.mx_records.specs.Refusing.{refusal_of_content, refusal_of_read, IsAcceptableInput, IsBuilt}
use Rattle.mx_records.specs.Rules.{rules_of}
use Rattle.mx_engine.specs.declared.error.PrepareError.{PrepareError}
use Rattle.mx_engine.specs.declared.error.PrepareError.TheVariants.{Refused, OutOfMemory}
use Rattle.mx_engine.specs.Planning.{Planned}
use Rattle.mx_engine.specs.Preparing.{refusal_of_length, IsPrepared, SaysOfContent}

-- ---- no input is refused for what it says because the history is full

known-not_full : (position : Option ℕ) → option_map KnownEvent position ≡ Some Full → ⊥
known-not_full None is = cc
known-not_full (Some position) is = cc

by-not_full : (refusal : EditRefusal) → refusal_by refusal ≡ Full → ⊥
by-not_full edit.RuleReserved is = cc
by-not_full (edit.BadRule part) is = cc
by-not_full edit.RuleUnknown is = cc
by-not_full edit.AnchorUnknown is = cc
by-not_full edit.RulesFull is = cc

edit-not_full : (local : Bool) (refusal : Option EditRefusal)
    → cond local (option_map refusal_by refusal) (Some NotLocal) ≡ Some Full → ⊥
edit-not_full true None is = cc
edit-not_full true (Some refusal) is = let same : refusal_by refusal ≡ Full = cc in by-not_full refusal same
edit-not_full false refusal is = cc

read-not_full : (room id : List ℕ) (named : Option ThreadKey) (found : Option Happening) (local : Bool)
    → cond local (refusal_of_read room id named found) (Some NotLocal) ≡ Some Full → ⊥
read-not_full room id named found false is = cc
read-not_full room id named None true is = cc
read-not_full room id named (Some happening) true is =
    by (not (is_in room happening.event)) (not (option_map_or (is_read_in id happening) named true)) is
  where
    by : (away apart : Bool) → cond away (Some UnknownEvent) (cond apart (Some NotInThread) None) ≡ Some Full → ⊥
    by true apart is = cc
    by false true is = cc
    by false false is = cc

unlocal-not_full : (local : Bool) → cond local None (Some NotLocal) ≡ Some Full → ⊥
unlocal-not_full true is = cc
unlocal-not_full false is = cc

content-not_full : (server : List ℕ) (h : History) (input : Input) → refusal_of_content server h input ≡ Some Full → ⊥
content-not_full server h (Event event) is = known-not_full (position_of h (event_id_of event)) is
content-not_full server h (Edit user does) is =
    edit-not_full (is_local server user) (refusal_of_edit (rules_of server h user) does) is
content-not_full server h (Receipt user room id private named) is =
    read-not_full room id named (find (is_event_with id) (events h)) (is_local server user) is
content-not_full server h (Pusher spec) is = unlocal-not_full (is_local server spec.user) is

-- ---- by what is said, the length, and whether the history is full

abbrev any_by : Option Refusal → Bool → Option Refusal
any_by content full = option_or content (cond full (Some Full) None)

abbrev whole_by : Option Refusal → Bool → Bool → Option Refusal
whole_by content long full = option_or content (cond long (Some EntryTooLong) (cond full (Some Full) None))

abbrev length_by : Bool → Option Refusal
length_by long = cond long (Some EntryTooLong) None

accepted-by : (content : Option Refusal) (long full : Bool) → any_by content full ≡ None → length_by long ≡ None
    → whole_by content long full ≡ None
accepted-by None true full any length = absurd cc
accepted-by None false full any length = any
accepted-by (Some refusal) long full any length = absurd cc

long-by : (content : Option Refusal) (long full : Bool) (told : Refusal) → any_by content full ≡ None
    → length_by long ≡ Some told → whole_by content long full ≡ Some told
long-by None true full told any length = length
long-by None false full told any length = absurd cc
long-by (Some refusal) long full told any length = absurd cc

full-by : (content : Option Refusal) (long full : Bool) → any_by content full ≡ Some Full → length_by long ≡ None
    → whole_by content long full ≡ Some Full
full-by None true full any length = absurd cc
full-by None false full any length = any
full-by (Some refusal) long full any length = any

long-full-by : (content : Option Refusal) (long full : Bool) (told : Refusal) → (content ≡ Some Full → ⊥)
    → any_by content full ≡ Some Full → length_by long ≡ Some told → whole_by content long full ≡ Some told
long-full-by None true full told isnt any length = length
long-full-by None false full told isnt any length = absurd cc
long-full-by (Some refusal) long full told isnt any length = absurd (isnt any)

other-by : (content : Option Refusal) (long full : Bool) (told : Refusal) → any_by content full ≡ Some told
    → (told ≡ Full → ⊥) → whole_by content long full ≡ Some told
other-by (Some refusal) long full told any other = any
other-by None long true told any other = absurd (other (let same : Full ≡ told = cc in cc))
other-by None long false told any other = absurd cc

-- ---- of an input

-- an input that is refused for nothing is acceptable
pub accepted : (server : List ℕ) (h : History) (input : Input) → IsNormal input → IsBuilt input
    → refusal_of_any server h input ≡ None → refusal_of_length input ≡ None → IsAcceptableInput server h input
unfolding refusal_of_any refusal_of
accepted server h input normal built any length = record {
  normal = normal;
  built = built;
  unrefused = accepted-by (refusal_of_content server h input) (is_too_long input) (is_full h) any length;
}

-- one that is too long is refused for that
pub too-long : (server : List ℕ) (h : History) (input : Input) (error : PrepareError)
    → refusal_of_any server h input ≡ None → SaysOfContent {A = Planned} (refusal_of_length input) (Err error)
    → IsPrepared server h input (Err error)
unfolding refusal_of_any refusal_of
too-long server h input (Refused told) any length =
    long-by (refusal_of_content server h input) (is_too_long input) (is_full h) told any length
too-long server h input OutOfMemory any length = tt

-- where the history is full, that it is too long comes first
pub full-refused : (server : List ℕ) (h : History) (input : Input) → refusal_of_any server h input ≡ Some Full
    → refusal_of_length input ≡ None → refusal_of server h input ≡ Some Full
unfolding refusal_of_any refusal_of
full-refused server h input any length =
    full-by (refusal_of_content server h input) (is_too_long input) (is_full h) any length

pub too-long-full : (server : List ℕ) (h : History) (input : Input) (error : PrepareError)
    → refusal_of_any server h input ≡ Some Full → SaysOfContent {A = Planned} (refusal_of_length input) (Err error)
    → IsPrepared server h input (Err error)
unfolding refusal_of_any refusal_of
too-long-full server h input (Refused told) any length =
    long-full-by (refusal_of_content server h input) (is_too_long input) (is_full h) told
    (content-not_full server h input)
    any length
too-long-full server h input OutOfMemory any length = tt

-- every other refusal comes before the length
pub other-refused : (server : List ℕ) (h : History) (input : Input) (told : Refusal)
    → refusal_of_any server h input ≡ Some told → (told ≡ Full → ⊥) → refusal_of server h input ≡ Some told
unfolding refusal_of_any refusal_of
other-refused server h input told any other =
    other-by (refusal_of_content server h input) (is_too_long input) (is_full h) told any other
