-- What an exchange with a gateway is, and what one poll of it does: ours.
use Rattle.std.specs.Prelude.{◌≡◌, ℕ, ◌+◌, ◌<◌, ◌≤◌, Bool, true, false, ◌==◌, List, [], ◌++◌, length, take, drop}
use Rattle.std.specs.Prelude.{Option, if◌then◌else◌}
use Rattle.mx_outside.specs.Told.{WhereTold}
use Rattle.mx_outside.specs.Link.{Entry, Changes, with_sent, with_received, with_failed, with_ended}
use Rattle.mx_wire.specs.Reply.{Outcome, Reads}
use Rattle.mx_wire.specs.Reply.Outcome.{Whole, NotReply, Unfinished}
use Rattle.mx_wire.specs.declared.turn.Cause.TheVariants as cause
use Rattle.mx_wire.specs.declared.turn.Ending.TheVariants as ending
use Rattle.mx_wire.specs.declared.turn.Turn.{Turn}
use Rattle.mx_wire.specs.declared.turn.Turn.TheVariants as turn

-- The most bytes that a reply may have.
abbrev pub greatest_reply : ℕ
greatest_reply = 65536

-- An exchange is late from so many milliseconds on after its opening.
abbrev pub longest_wait : ℕ
longest_wait = 60000

-- An exchange: the moment and the number of its opening, the request and how many of its bytes were
-- sent, the bytes that were received, the decoded body so far, and whether it is done.
pub record Standing : Type 0 where
  pub opened_at : ℕ
  pub number : ℕ
  pub request : List ℕ
  pub sent : ℕ
  pub received : List ℕ
  pub body : List ℕ
  pub done : Bool

-- An exchange in which no call of the link was made.
abbrev pub standing_first : ℕ → List ℕ → ℕ → Standing
standing_first number request opened_at =
    record {
      opened_at = opened_at;
      number = number;
      request = request;
      sent = 0;
      received = [];
      body = [];
      done = false;
    }

-- What a poll does with the link: it makes no call, sends so many bytes, receives these, has to wait,
-- comes to the link's end, or a call fails.
pub data Call : Type 0 where
  idle : Call
  sends : ℕ → Call
  gets : List ℕ → Call
  waits : Call
  ends : Call
  fails : Call

-- What may be done with the link: nothing is received before the whole request was sent, and no more
-- than a reply may have.
abbrev pub MayDo : Call → Standing → Type 0
MayDo idle s = Unit {0}
MayDo (sends n) s = (0 < n) × (s.sent + n ≤ length s.request)
MayDo (gets bytes) s =
    (0 < length bytes) × (s.sent ≡ length s.request) × (length s.received + length bytes ≤ greatest_reply)
MayDo waits s = Unit {0}
MayDo ends s = s.sent ≡ length s.request
MayDo fails s = Unit {0}

-- What the log of the link has then.
abbrev pub Logs : Call → Standing → List Entry → List Entry → Type 0
Logs idle s old new = new ≡ old
Logs (sends n) s old new = Changes s.number (with_sent (take n (drop s.sent s.request))) old new
Logs (gets bytes) s old new = Changes s.number (with_received bytes) old new
Logs waits s old new = new ≡ old
Logs ends s old new = Changes s.number with_ended old new
Logs fails s old new = Changes s.number with_failed old new

-- How many bytes of the request were sent.
abbrev pub sent_by : Call → ℕ
sent_by idle = 0
sent_by (sends n) = n
sent_by (gets bytes) = 0
sent_by waits = 0
sent_by ends = 0
sent_by fails = 0

-- The bytes that were received.
abbrev pub received_by : Call → List ℕ
received_by idle = []
received_by (sends n) = []
received_by (gets bytes) = bytes
received_by waits = []
received_by ends = []
received_by fails = []

-- One poll did this with the link.
pub record Does (call : Call) (before now : Option (List Entry)) (old new : Standing) : Type 0 where
  pub may : MayDo call old
  pub log : WhereTold before now (Logs call old)
  pub opened_at : new.opened_at ≡ old.opened_at
  pub number : new.number ≡ old.number
  pub request : new.request ≡ old.request
  pub sent : new.sent ≡ old.sent + sent_by call
  pub received : new.received ≡ old.received ++ received_by call

-- Where the bytes received hold no whole reply: all came that a reply may have, or more may come.
abbrev pub more_or_too_long : ℕ → Turn
more_or_too_long count =
    if count == greatest_reply then turn.Done (ending.Failed cause.TooLong) else turn.Moved

-- The answer after bytes were received, by what all that were received hold.
abbrev pub after_bytes : ℕ → Outcome → Turn
after_bytes count (Whole status body) = turn.Done (ending.Reply status)
after_bytes count NotReply = turn.Done (ending.Failed cause.NotReply)
after_bytes count Unfinished = more_or_too_long count

-- The answer at the link's end, by what the bytes received hold.
abbrev pub after_end : Outcome → Turn
after_end (Whole status body) = turn.Done (ending.Reply status)
after_end NotReply = turn.Done (ending.Failed cause.NotReply)
after_end Unfinished = turn.Done (ending.Failed cause.Early)

-- The body of a whole reply is this.
abbrev pub HasBody : Outcome → List ℕ → Type 0
HasBody (Whole status body) kept = kept ≡ body
HasBody NotReply kept = Unit {0}
HasBody Unfinished kept = Unit {0}

-- The answer of a poll that did this, and came to this state.
abbrev pub Answers : Turn → Call → Standing → Type 0
Answers result idle s = result ≡ turn.Done (ending.Failed cause.Late)
Answers result (sends n) s = result ≡ turn.Moved
Answers result (gets bytes) s =
    (o : Outcome) × Reads s.received false o × (result ≡ after_bytes (length s.received) o) × HasBody o s.body
Answers result waits s = result ≡ turn.NotYet
Answers result ends s =
    (o : Outcome) × Reads s.received true o × (result ≡ after_end o) × HasBody o s.body
Answers result fails s = result ≡ turn.Done (ending.Failed cause.Link)

-- The answer ends the exchange.
abbrev pub is_done : Turn → Bool
is_done turn.Moved = false
is_done turn.NotYet = false
is_done (turn.Done ending) = true

-- What one poll did, which makes one call of the link at most.
pub record Polls (before now : Option (List Entry)) (old new : Standing) (result : Turn) : Type 0 where
  pub call : Call
  pub does : Does call before now old new
  pub answers : Answers result call new
  pub done : new.done ≡ is_done result

-- The answer tells what was received, and neither a wait nor a failure of the link or of time.
abbrev pub IsHeard : Turn → Type 0
IsHeard turn.Moved = Unit {0}
IsHeard turn.NotYet = ⊥
IsHeard (turn.Done (ending.Reply status)) = Unit {0}
IsHeard (turn.Done (ending.Failed cause.Link)) = ⊥
IsHeard (turn.Done (ending.Failed cause.NotReply)) = Unit {0}
IsHeard (turn.Done (ending.Failed cause.TooLong)) = Unit {0}
IsHeard (turn.Done (ending.Failed cause.Early)) = Unit {0}
IsHeard (turn.Done (ending.Failed cause.Late)) = ⊥

-- This was heard of the link, and the answer tells what all that was received holds.
pub record Heard (call : Call) (old new : Standing) (result : Turn) : Type 0 where
  pub opened_at : new.opened_at ≡ old.opened_at
  pub number : new.number ≡ old.number
  pub request : new.request ≡ old.request
  pub sent : new.sent ≡ old.sent
  pub received : new.received ≡ old.received ++ received_by call
  pub answers : Answers result call new
  pub done : new.done ≡ is_done result
