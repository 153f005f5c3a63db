-- The reply with which bytes begin: RFC 9112 in our profile. Any number of heads of a status of 100 to
-- 199, then one of a status of 200 to 599, then a body.
use Rattle.std.specs.Prelude.{◌≡◌, ℕ, Bool, true, false, List, []}
use Rattle.mx_wire.specs.Reading.{Reading}
use Rattle.mx_wire.specs.Reading.Reading.{Got, Refused, Lacking}
use Rattle.mx_wire.specs.Blocks.{block_at}
use Rattle.mx_wire.specs.Heads.{HasMeaning}
use Rattle.mx_wire.specs.Bodies.{counted, chunked}
use Rattle.mx_wire.specs.declared.head.Framing.{Framing}
use Rattle.mx_wire.specs.declared.head.Framing.TheVariants as framing
use Rattle.mx_wire.specs.declared.head.Meaning.TheVariants as meaning

-- What bytes hold: a whole reply with this status and this decoded body, what no further bytes make a
-- reply, or neither yet.
pub data Outcome : Type 0 where
  Whole : ℕ → List ℕ → Outcome
  NotReply : Outcome
  Unfinished : Outcome

-- The reply of this status with the body that was read.
abbrev pub reply_with : ℕ → Reading (List ℕ) → Outcome
reply_with status (Got body rest) = Whole status body
reply_with status Refused = NotReply
reply_with status Lacking = Unfinished

-- A body up to the end of the link is whole only where the link ended.
abbrev pub up_to_end : ℕ → Bool → List ℕ → Outcome
up_to_end status true bytes = Whole status bytes
up_to_end status false bytes = Unfinished

-- The reply of this status with a body of this framing, where the link ended or not.
abbrev pub body_of : ℕ → Framing → Bool → List ℕ → Outcome
body_of status framing.Nothing ended bytes = Whole status []
body_of status (framing.Counted n) ended bytes = reply_with status (counted n bytes)
body_of status framing.Chunked ended bytes = reply_with status (chunked bytes)
body_of status framing.ToEnd ended bytes = up_to_end status ended bytes

-- What bytes hold, where this is read as their next block.
pub data ReadsFrom (ended : Bool) : Reading (List ℕ) → Outcome → Type 0 where
  no_block : ReadsFrom ended Lacking Unfinished
  no_head : {block rest : List ℕ} → HasMeaning block meaning.Refuse → ReadsFrom ended (Got block rest) NotReply
  interim : {block rest : List ℕ} {o : Outcome} → HasMeaning block meaning.Interim → ReadsFrom ended (block_at rest) o
      → ReadsFrom ended (Got block rest) o
  final : {block rest : List ℕ} {o : Outcome} {status : ℕ} {framed : Framing}
      → HasMeaning block (meaning.Final status framed) → o ≡ body_of status framed ended rest
      → ReadsFrom ended (Got block rest) o

-- What these bytes hold, after which the link ended or not.
abbrev pub Reads : List ℕ → Bool → Outcome → Type 0
Reads bytes ended o = ReadsFrom ended (block_at bytes) o
