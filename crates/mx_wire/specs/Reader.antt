-- What a reader that took some bytes reads of the bytes to come: ours.
use Rattle.std.specs.Prelude.{◌≡◌, ℕ, Bool, false, List, [], ◌++◌}
use Rattle.mx_wire.specs.Reading.{with_front}
use Rattle.mx_wire.specs.Blocks.{block_from}
use Rattle.mx_wire.specs.Coding.{rest_of, is_over}
use Rattle.mx_wire.specs.Reply.{Outcome, reply_with, up_to_end, ReadsFrom}
use Rattle.mx_wire.specs.Reply.Outcome.{Whole, NotReply, Unfinished}
use Rattle.mx_wire.specs.declared.coding.Coding.{Coding}
use Rattle.mx_wire.specs.declared.coding.Coding.TheVariants as coding
use Rattle.mx_wire.specs.declared.line.InLine.TheVariants.{Start}
use Rattle.mx_wire.specs.declared.reader.Stage.{Stage}
use Rattle.mx_wire.specs.declared.reader.Stage.TheVariants as stage

-- At this stage, with this status and these bytes held, the bytes to come complete this outcome.
abbrev pub Resumes : Stage → ℕ → List ℕ → Bool → List ℕ → Outcome → Type 0
Resumes (stage.Block behind place) status held ended u o = ReadsFrom ended (block_from held behind place u) o
Resumes stage.ToEnd status held ended u o = o ≡ up_to_end status ended (held ++ u)
Resumes (stage.Body at) status held ended u o = o ≡ reply_with status (with_front held (rest_of at u))

-- The piece was taken: what the new state reads of any bytes, the old one reads of the piece and these.
pub record Takes (t : Stage) (status : ℕ) (held piece : List ℕ) (t' : Stage) (status' : ℕ) (held' : List ℕ) : Type 0
  where
    pub reads : (ended : Bool) (u : List ℕ) (o : Outcome) → Resumes t' status' held' ended u o
        → Resumes t status held ended (piece ++ u) o

-- The outcome of the bytes of a body that were taken so far.
abbrev pub body_outcome : Coding → ℕ → List ℕ → Outcome
body_outcome (coding.Counted more) status held = Unfinished
body_outcome (coding.Digits size) status held = Unfinished
body_outcome (coding.Extension value) status held = Unfinished
body_outcome (coding.SizeFeed value) status held = Unfinished
body_outcome (coding.Chunk more) status held = Unfinished
body_outcome coding.ChunkCr status held = Unfinished
body_outcome coding.ChunkFeed status held = Unfinished
body_outcome (coding.Trailer place) status held = Unfinished
body_outcome coding.LastFeed status held = Unfinished
body_outcome coding.Complete status held = Whole status held
body_outcome coding.Broken status held = NotReply

-- The outcome of the bytes that were taken so far.
abbrev pub outcome_of : Stage → ℕ → List ℕ → Bool → Outcome
outcome_of (stage.Block behind place) status held ended = Unfinished
outcome_of stage.ToEnd status held ended = up_to_end status ended held
outcome_of (stage.Body at) status held ended = body_outcome at status held

-- A reader at this stage took these bytes from the start of a reply.
abbrev pub HasTaken : List ℕ → Stage → ℕ → List ℕ → Type 0
HasTaken bytes t status held = Takes (stage.Block false Start) 0 [] bytes t status held

-- Nothing is read any more.
abbrev pub is_settled : Stage → Bool
is_settled (stage.Block behind place) = false
is_settled stage.ToEnd = false
is_settled (stage.Body at) = is_over at
