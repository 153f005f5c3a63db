-- How a reader goes on byte by byte.
use Rattle.std.proofs.Common.{◌≡◌, ℕ, Bool, true, false, ◌&&◌, ◌||◌, List, [], ◌∷◌, ◌++◌, Some, None, refl, ap, sym}
use Rattle.std.proofs.Common.{subst, ◌∙◌, append_assoc, append-nil}
use Rattle.std.specs.Prelude.{if◌then◌else◌}
use Rattle.mx_wire.specs.Reading.{Reading, with_front}
use Rattle.mx_wire.specs.Reading.Reading.{Got}
use Rattle.mx_wire.specs.Blocks.{block_from, next_in_block, ends_full, ends_empty, place_after}
use Rattle.mx_wire.specs.Bodies.{counted, digits, extension, trailer}
use Rattle.mx_wire.specs.Coding.{rest_of, is_over}
use Rattle.mx_wire.specs.Reply.{Outcome, reply_with, up_to_end, ReadsFrom, Reads}
use Rattle.mx_wire.specs.Standing.{HasBody}
use Rattle.mx_wire.specs.Reply.Outcome.{Whole}
use Rattle.mx_wire.specs.Reply.ReadsFrom.{no_block}
use Rattle.mx_wire.specs.Reader.{Resumes, Takes, HasTaken, body_outcome, outcome_of, is_settled}
use Rattle.mx_wire.specs.declared.line.InLine.{InLine}
use Rattle.mx_wire.specs.declared.coding.Coding.{Coding}
use Rattle.mx_wire.specs.declared.coding.Coding.TheVariants as coding
use Rattle.mx_wire.specs.declared.reader.Stage.{Stage}
use Rattle.mx_wire.specs.declared.reader.Stage.TheVariants as stage

choose-goes : (t : Bool) (stop go : Reading (List ℕ)) (f : Bool × InLine → Reading (List ℕ)) (x y : Bool × InLine)
    → Some x ≡ (if t then None else Some y) → go ≡ f y → elim t [ true ↦ stop | false ↦ go ] ≡ f x
choose-goes true stop go f x y next is = cc
choose-goes false stop go f x y next is = let same : y ≡ x = cc in is ∙ ap f same

choose-stops : (t : Bool) (stop go : Reading (List ℕ)) (y : Bool × InLine) → None ≡ (if t then None else Some y)
    → elim t [ true ↦ stop | false ↦ go ] ≡ stop
choose-stops true stop go y next = refl
choose-stops false stop go y next = cc

-- The byte doesn't end the block.
pub block_goes : (held : List ℕ) (behind : Bool) (place : InLine) (b : ℕ) (to : Bool × InLine) (u : List ℕ)
    → Some to ≡ next_in_block behind place b
    → block_from held behind place (b ∷ u) ≡ block_from (held ++ b ∷ []) to.0 to.1 u
unfolding block_from
block_goes held behind place b to u next =
    choose-goes (behind && ends_empty place b) (Got (held ++ b ∷ []) u)
    (block_from (held ++ b ∷ []) (behind || ends_full place b) (place_after place b) u)
    (λ x. block_from (held ++ b ∷ []) x.0 x.1 u) to (behind || ends_full place b, place_after place b) next refl

-- The byte ends the block.
pub block_stops : (held : List ℕ) (behind : Bool) (place : InLine) (b : ℕ) (u : List ℕ)
    → None ≡ next_in_block behind place b
    → block_from held behind place (b ∷ u) ≡ Got (held ++ b ∷ []) u
unfolding block_from
block_stops held behind place b u next =
    choose-stops (behind && ends_empty place b) (Got (held ++ b ∷ []) u)
    (block_from (held ++ b ∷ []) (behind || ends_full place b) (place_after place b) u)
    (behind || ends_full place b, place_after place b) next

-- Nothing was taken.
pub Takes-none : (t : Stage) (status : ℕ) (held : List ℕ) → Takes t status held [] t status held
Takes-none t status held = record { reads = λ ended u o resumes. resumes }

-- One piece was taken after another.
pub Takes-then : (t t' t'' : Stage) (status status' status'' : ℕ) (held held' held'' first second : List ℕ)
    → Takes t status held first t' status' held' → Takes t' status' held' second t'' status'' held''
    → Takes t status held (first ++ second) t'' status'' held''
Takes-then t t' t'' status status' status'' held held' held'' first second one two =
    record {
      reads = λ ended u o resumes.
          subst (λ (bytes : List ℕ). Resumes t status held ended bytes o) (sym (append_assoc first second u))
          (one.reads ended (second ++ u) o (two.reads ended u o resumes));
    }

settled-body : (at : Coding) (status : ℕ) (held more u : List ℕ) → is_over at ≡ true
    → reply_with status (with_front held (rest_of at u)) ≡ reply_with status (with_front held (rest_of at (more ++ u)))
settled-body (coding.Counted n) status held more u over = cc
settled-body (coding.Digits size) status held more u over = cc
settled-body (coding.Extension n) status held more u over = cc
settled-body (coding.SizeFeed n) status held more u over = cc
settled-body (coding.Chunk n) status held more u over = cc
settled-body coding.ChunkCr status held more u over = cc
settled-body coding.ChunkFeed status held more u over = cc
settled-body (coding.Trailer place) status held more u over = cc
settled-body coding.LastFeed status held more u over = cc
settled-body coding.Complete status held more u over = refl
settled-body coding.Broken status held more u over = refl

-- What comes behind a settled reply isn't looked at.
pub Takes-settled : (t : Stage) (status : ℕ) (held more : List ℕ) → is_settled t ≡ true
    → Takes t status held more t status held
Takes-settled (stage.Block behind place) status held more settled = cc
Takes-settled stage.ToEnd status held more settled = cc
Takes-settled (stage.Body at) status held more settled =
    record { reads = λ ended u o resumes. resumes ∙ settled-body at status held more u settled }

body-so : (at : Coding) (status : ℕ) (held : List ℕ)
    → body_outcome at status held ≡ reply_with status (with_front held (rest_of at []))
unfolding counted digits extension trailer
body-so (coding.Counted n) status held = refl
body-so (coding.Digits size) status held = refl
body-so (coding.Extension n) status held = refl
body-so (coding.SizeFeed n) status held = refl
body-so (coding.Chunk n) status held = refl
body-so coding.ChunkCr status held = refl
body-so coding.ChunkFeed status held = refl
body-so (coding.Trailer place) status held = refl
body-so coding.LastFeed status held = refl
body-so coding.Complete status held = ap (λ (l : List ℕ). Whole status l) (sym (append-nil held))
body-so coding.Broken status held = refl

-- Where no byte comes any more, this is the outcome.
pub ends_so : (t : Stage) (status : ℕ) (held : List ℕ) (ended : Bool)
    → Resumes t status held ended [] (outcome_of t status held ended)
unfolding block_from
ends_so (stage.Block behind place) status held ended = no_block
ends_so stage.ToEnd status held ended = ap (λ (l : List ℕ). up_to_end status ended l) (sym (append-nil held))
ends_so (stage.Body at) status held ended = body-so at status held

-- A byte within a block was taken.
pub takes_in_block : (held : List ℕ) (behind : Bool) (place : InLine) (b status : ℕ) (to : Bool × InLine)
    → Some to ≡ next_in_block behind place b
    → Takes (stage.Block behind place) status held (b ∷ []) (stage.Block to.0 to.1) status (held ++ b ∷ [])
takes_in_block held behind place b status to next =
    record {
      reads = λ ended u o resumes. subst (λ (r : Reading (List ℕ)). ReadsFrom ended r o)
          (sym (block_goes held behind place b to u next)) resumes;
    }

-- The last byte of a block was taken, and what the block means.
pub takes_block : (held : List ℕ) (behind : Bool) (place : InLine) (b status : ℕ) (t : Stage) (status' : ℕ)
    (held' : List ℕ)
    → None ≡ next_in_block behind place b → ((ended : Bool) (u : List ℕ) (o : Outcome)
    → Resumes t status' held' ended u o → ReadsFrom ended (Got (held ++ b ∷ []) u) o)
    → Takes (stage.Block behind place) status held (b ∷ []) t status' held'
takes_block held behind place b status t status' held' next means =
    record {
      reads = λ ended u o resumes. subst (λ (r : Reading (List ℕ)). ReadsFrom ended r o)
          (sym (block_stops held behind place b u next)) (means ended u o resumes);
    }

-- What a reader finds, the bytes that it took hold.
pub has_read : (bytes : List ℕ) (t : Stage) (status : ℕ) (held : List ℕ) (ended : Bool) → HasTaken bytes t status held
    → Reads bytes ended (outcome_of t status held ended)
has_read bytes t status held ended taken =
    let o = outcome_of t status held ended in
    subst (λ (l : List ℕ). Reads l ended o) (append-nil bytes) (taken.reads ended [] o (ends_so t status held ended))

-- What is held at a whole reply is its body.
pub found_body : (t : Stage) (status : ℕ) (held : List ℕ) (ended : Bool) → HasBody (outcome_of t status held ended) held
found_body (stage.Block behind place) status held ended = tt
found_body stage.ToEnd status held true = refl
found_body stage.ToEnd status held false = tt
found_body (stage.Body (coding.Counted n)) status held ended = tt
found_body (stage.Body (coding.Digits size)) status held ended = tt
found_body (stage.Body (coding.Extension n)) status held ended = tt
found_body (stage.Body (coding.SizeFeed n)) status held ended = tt
found_body (stage.Body (coding.Chunk n)) status held ended = tt
found_body (stage.Body coding.ChunkCr) status held ended = tt
found_body (stage.Body coding.ChunkFeed) status held ended = tt
found_body (stage.Body (coding.Trailer place)) status held ended = tt
found_body (stage.Body coding.LastFeed) status held ended = tt
found_body (stage.Body coding.Complete) status held ended = refl
found_body (stage.Body coding.Broken) status held ended = tt
