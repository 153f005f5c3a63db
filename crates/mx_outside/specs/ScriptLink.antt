-- A link that answers by scripts: ours.
use Rattle.std.specs.Prelude.{◌≡◌, ℕ, ◌+◌, ◌-◌, ◌<◌, ◌≤◌, min, Bool, true, false, List, [], ◌∷◌, ◌++◌, length, take}
use Rattle.std.specs.Prelude.{drop, map, Option, Some, None, slice_set, ◌⊎◌, slice_get, replicate}
use Rattle.mx_outside.specs.Told.{raised}
use Rattle.mx_outside.specs.Link.{Entry, fresh, with_sent, with_received, with_failed, with_ended, with_closed}
use Rattle.mx_outside.specs.Script.{Play, unscripted, next_of, next_bytes, with_bytes}
use Rattle.mx_outside.specs.declared.link.Opening.{Opening}
use Rattle.mx_outside.specs.declared.link.Opening.TheVariants as opening
use Rattle.mx_outside.specs.declared.link.Sent.{Sent}
use Rattle.mx_outside.specs.declared.link.Sent.TheVariants as sent
use Rattle.mx_outside.specs.declared.link.Received.{Received}
use Rattle.mx_outside.specs.declared.link.Received.TheVariants as received
use Rattle.mx_outside.specs.declared.memory.script.LinkStep.{LinkStep}
use Rattle.mx_outside.specs.declared.memory.script.LinkStep.TheVariants as step

-- An exchange of a scripted link: what the log has for it, what comes next of the other side, and
-- for how many bytes there is memory.
pub record Place : Type 0 where
  pub entry : Entry
  pub play : Play
  pub address_room : ℕ
  pub sent_room : ℕ
  pub received_room : ℕ

-- The exchanges that were opened, those to come, and the two counts.
pub record Scripted : Type 0 where
  pub opened : List Place
  pub coming : List Place
  pub faults : ℕ
  pub waits : ℕ

-- What the log has for an exchange.
abbrev pub entry_of : Place → Entry
entry_of place = place.entry

-- The log of a scripted link.
abbrev pub log_of : Scripted → List Entry
log_of link = map entry_of link.opened

-- An exchange to come that goes so, with memory for so many bytes of each kind.
abbrev pub place_for : ℕ → Play → Place
place_for room play =
    record {
      entry = fresh [] false;
      play = play;
      address_room = room;
      sent_room = room;
      received_room = room;
    }

-- The exchanges to come of these scripts, and of as many more as make so many calls.
abbrev pub places_for : ℕ → List Play → ℕ → List Place
places_for room plays calls =
    map (place_for room) plays ++ replicate (calls - length plays) (place_for room unscripted)

-- On none of these exchanges a call was made.
abbrev pub AreToCome : List Place → Type 0
AreToCome [] = Unit {0}
AreToCome (place ∷ places) = (place.entry ≡ fresh [] false) × AreToCome places

-- The exchange that is opened next.
abbrev pub next_place : List Place → Place
next_place [] = place_for 0 unscripted
next_place (place ∷ places) = place

-- The memory that there is for its bytes stays.
pub record KeepsRoom (old new : Place) : Type 0 where
  pub address : old.address_room ≤ new.address_room
  pub sent : old.sent_room ≤ new.sent_room
  pub received : old.received_room ≤ new.received_room

-- The exchange is opened with this address, or its opening fails, as its script says.
pub record OpensPlace (address : List ℕ) (old new : Place) : Type 0 where
  pub entry : new.entry ≡ fresh address old.play.fails
  pub play : new.play ≡ old.play
  pub room : KeepsRoom old new

-- The next exchange was opened with this address, or its opening failed, as this says.
pub record OpensNext (fails : Bool) (address : List ℕ) (old new : Scripted) : Type 0 where
  pub place : Place
  pub opened : new.opened ≡ old.opened ++ place ∷ []
  pub coming : new.coming ≡ drop 1 old.coming
  pub opens : OpensPlace address (next_place old.coming) place
  pub by_script : (next_place old.coming).play.fails ≡ fails

-- Nothing was opened, since there is no memory past the room.
abbrev pub LacksRoom : List ℕ → Scripted → Scripted → Type 0
LacksRoom address old new =
    (new ≡ old) × ((old.coming ≡ []) ⊎ ((next_place old.coming).address_room < length address))

-- The counts after a call stay.
abbrev pub KeepsCounts : Scripted → Scripted → Type 0
KeepsCounts old new = (new.faults ≡ old.faults) × (new.waits ≡ old.waits)

-- What a call of `open` of a scripted link does. It finds no memory only past its room.
abbrev pub OpensScripted : Opening → List ℕ → Scripted → Scripted → Type 0
OpensScripted (opening.Opened number) address old new =
    OpensNext false address old new × (number ≡ length new.opened) × KeepsCounts old new
OpensScripted opening.Failed address old new =
    OpensNext true address old new × (new.faults ≡ raised old.faults) × (new.waits ≡ old.waits)
OpensScripted opening.OutOfMemory address old new = LacksRoom address old new

-- A step that `send` doesn't use up, since it waits and fails alone.
abbrev pub LetsSend : Option LinkStep → Type 0
LetsSend None = Unit {0}
LetsSend (Some (step.Bytes count)) = Unit {0}
LetsSend (Some step.Wait) = ⊥
LetsSend (Some step.End) = Unit {0}
LetsSend (Some step.Fail) = ⊥

-- The next step was used up.
abbrev pub UsesStep : Place → Place → Type 0
UsesStep old new = new.play ≡ record old.play { steps = drop 1 old.play.steps }

-- What a call of `send` does to its exchange: it waits or fails where the script says so, and else
-- takes the piece whole. It fails for want of memory only past its room.
abbrev pub SendsPlace : Sent → List ℕ → Place → Place → Type 0
SendsPlace (sent.Moved count) piece old new =
    LetsSend (next_of old.play.steps) × (count ≡ length piece) × (new.entry ≡ with_sent piece old.entry)
    × (new.play ≡ old.play) × KeepsRoom old new
SendsPlace sent.NotYet piece old new =
    (next_of old.play.steps ≡ Some step.Wait) × (new.entry ≡ old.entry) × UsesStep old new × KeepsRoom old new
SendsPlace sent.Failed piece old new =
    (new.entry ≡ with_failed old.entry) × KeepsRoom old new
    × (((next_of old.play.steps ≡ Some step.Fail) × UsesStep old new)
    ⊎ (LetsSend (next_of old.play.steps) × (new.play ≡ old.play)
    × (old.sent_room < length old.entry.sent + length piece)))

-- So many of the bytes that come next were used up.
abbrev pub UsesBytes : ℕ → Place → Place → Type 0
UsesBytes count old new =
    new.play ≡ record old.play {
      steps = with_bytes (drop count (next_bytes old.play.steps)) (drop 1 old.play.steps);
    }

-- How many of the bytes that come next fit a buffer of this length.
abbrev pub fitting : Place → ℕ → ℕ
fitting place room = min (length (next_bytes place.play.steps)) room

-- What a call of `recv` that left this in the buffer does to its exchange: what the script says, and
-- it waits past the last step. It fails for want of memory only past its room.
abbrev pub ReceivesPlace : Received → List ℕ → Place → Place → Type 0
ReceivesPlace (received.Bytes count) into old new =
    (count ≡ fitting old (length into)) × (take count into ≡ take count (next_bytes old.play.steps))
    × (new.entry ≡ with_received (take count into) old.entry) × UsesBytes count old new × KeepsRoom old new
ReceivesPlace received.NotYet into old new =
    (new.entry ≡ old.entry) × KeepsRoom old new
    × (((next_of old.play.steps ≡ None) × (new.play ≡ old.play))
    ⊎ ((next_of old.play.steps ≡ Some step.Wait) × UsesStep old new))
ReceivesPlace received.End into old new =
    (next_of old.play.steps ≡ Some step.End) × (new.entry ≡ with_ended old.entry) × UsesStep old new × KeepsRoom old new
ReceivesPlace received.Failed into old new =
    (new.entry ≡ with_failed old.entry) × KeepsRoom old new
    × (((next_of old.play.steps ≡ Some step.Fail) × UsesStep old new)
    ⊎ ((0 < length (next_bytes old.play.steps)) × (new.play ≡ old.play)
    × (old.received_room < length old.entry.received + fitting old (length into))))

-- Of the exchanges only that of this number changed, and so.
pub record Acts (number : ℕ) (P : Place → Place → Type 0) (old new : Scripted) : Type 0 where
  pub coming : new.coming ≡ old.coming
  pub place : (before : Place) → slice_get old.opened (number - 1) ≡ Some before
      → (after : Place) × (new.opened ≡ slice_set old.opened (number - 1) after) × P before after

-- The counts after a call of `send`.
abbrev pub CountsSent : Sent → Scripted → Scripted → Type 0
CountsSent (sent.Moved count) old new = KeepsCounts old new
CountsSent sent.NotYet old new = (new.faults ≡ old.faults) × (new.waits ≡ raised old.waits)
CountsSent sent.Failed old new = (new.faults ≡ raised old.faults) × (new.waits ≡ old.waits)

-- The counts after a call of `recv`.
abbrev pub CountsReceived : Received → Scripted → Scripted → Type 0
CountsReceived (received.Bytes count) old new = KeepsCounts old new
CountsReceived received.NotYet old new = (new.faults ≡ old.faults) × (new.waits ≡ raised old.waits)
CountsReceived received.End old new = KeepsCounts old new
CountsReceived received.Failed old new = (new.faults ≡ raised old.faults) × (new.waits ≡ old.waits)

-- The exchange was closed, and its script stays.
abbrev pub ClosesPlace : Place → Place → Type 0
ClosesPlace old new = new ≡ record old { entry = with_closed old.entry }
