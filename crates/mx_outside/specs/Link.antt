-- What the calls of a link do to its log: ours.
use Rattle.std.specs.Prelude.{◌≡◌, ◌≢◌, ℕ, ◌+◌, ◌<◌, ◌≤◌, Bool, true, false, List, [], ◌∷◌, ◌++◌, length, take, Option}
use Rattle.std.specs.Prelude.{Some, None, zero, suc}
use Rattle.std.specs.List.{slice_get}
use Rattle.mx_outside.specs.declared.link.Opening.{Opening}
use Rattle.mx_outside.specs.declared.link.Opening.TheVariants as opening
use Rattle.mx_outside.specs.declared.link.Sent.{Sent}
use Rattle.mx_outside.specs.declared.link.Sent.TheVariants as sent
use Rattle.mx_outside.specs.declared.link.Received.{Received}
use Rattle.mx_outside.specs.declared.link.Received.TheVariants as received

-- What a link's log has for one call of `open`: whom it was to reach, the bytes that were sent and
-- received, how many calls moved them, and four marks that stay once they are set: its opening
-- failed, a call on it failed (a failed opening is one), the link ended, it is closed.
pub record Entry : Type 0 where
  pub address : List ℕ
  pub sent : List ℕ
  pub received : List ℕ
  pub moves : ℕ
  pub unopened : Bool
  pub failed : Bool
  pub ended : Bool
  pub closed : Bool

-- An opening of this address, of which this says whether it failed, and on which no call was made.
abbrev pub fresh : List ℕ → Bool → Entry
fresh address failed =
    record {
      address = address;
      sent = [];
      received = [];
      moves = 0;
      unopened = failed;
      failed = failed;
      ended = false;
      closed = false;
    }

-- These bytes were sent by one more call.
abbrev pub with_sent : List ℕ → Entry → Entry
with_sent bytes entry = record entry { sent = entry.sent ++ bytes; moves = entry.moves + 1 }

-- These bytes were received by one more call.
abbrev pub with_received : List ℕ → Entry → Entry
with_received bytes entry = record entry { received = entry.received ++ bytes; moves = entry.moves + 1 }

-- A call on it failed.
abbrev pub with_failed : Entry → Entry
with_failed entry = record entry { failed = true }

-- The link ended.
abbrev pub with_ended : Entry → Entry
with_ended entry = record entry { ended = true }

-- It was closed.
abbrev pub with_closed : Entry → Entry
with_closed entry = record entry { closed = true }

-- The entry of the exchange of this number, counted from 1.
abbrev pub entry_at : List Entry → ℕ → Option Entry
entry_at log zero = None
entry_at log (suc k) = slice_get log k

-- The exchange of this number was opened, and isn't closed.
pub record IsOpen (log : List Entry) (number : ℕ) : Type 0 where
  pub entry : Entry
  pub is : entry_at log number ≡ Some entry
  pub opened : entry.unopened ≡ false
  pub going : entry.closed ≡ false

-- The entry of one exchange was changed so, and no other.
pub record Changes (number : ℕ) (change : Entry → Entry) (old new : List Entry) : Type 0 where
  pub same_length : length new ≡ length old
  pub changed : (entry : Entry) → entry_at old number ≡ Some entry → entry_at new number ≡ Some (change entry)
  pub others : (k : ℕ) → k ≢ number → entry_at new k ≡ entry_at old k

-- What a call of `open` with this address does to the log. The number that it answers is that of
-- the new entry, which is the last one.
abbrev pub Opens : Opening → List ℕ → List Entry → List Entry → Type 0
Opens (opening.Opened number) address old new =
    (new ≡ old ++ fresh address false ∷ []) × (number ≡ length new)
Opens opening.Failed address old new = new ≡ old ++ fresh address true ∷ []
Opens opening.OutOfMemory address old new = new ≡ old

-- Bytes that a link sends are at least one, and no more than the piece has.
abbrev pub IsSent : Sent → ℕ → Type 0
IsSent (sent.Moved count) length = (0 < count) × (count ≤ length)
IsSent sent.NotYet length = Unit {0}
IsSent sent.Failed length = Unit {0}

-- What a call of `send` on this exchange with this piece does to the log.
abbrev pub Sends : Sent → ℕ → List ℕ → List Entry → List Entry → Type 0
Sends (sent.Moved count) exchange piece old new =
    Changes exchange (with_sent (take count piece)) old new
Sends sent.NotYet exchange piece old new = new ≡ old
Sends sent.Failed exchange piece old new = Changes exchange with_failed old new

-- Bytes that a link gives are at least one, and fit the buffer.
abbrev pub IsReceived : Received → ℕ → Type 0
IsReceived (received.Bytes count) length = (0 < count) × (count ≤ length)
IsReceived received.NotYet length = Unit {0}
IsReceived received.End length = Unit {0}
IsReceived received.Failed length = Unit {0}

-- What a call of `recv` on this exchange that left this in the buffer does to the log.
abbrev pub Receives : Received → ℕ → List ℕ → List Entry → List Entry → Type 0
Receives (received.Bytes count) exchange into old new =
    Changes exchange (with_received (take count into)) old new
Receives received.NotYet exchange into old new = new ≡ old
Receives received.End exchange into old new = Changes exchange with_ended old new
Receives received.Failed exchange into old new = Changes exchange with_failed old new
