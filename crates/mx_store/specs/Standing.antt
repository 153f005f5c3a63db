-- Which history an image of the disk stands for, and where one that stands for none has its first fault: ours.
use Rattle.std.specs.Prelude.{◌≡◌, ◌≢◌, ◌⊎◌, ◌<◌, ℕ, List, ◌∷◌, ◌++◌, length}
use Rattle.mx_journal.specs.Image.{open_gate, IsPayload, body_of, front_of, StandsForPayloads}
use Rattle.mx_journal.specs.Fault.{IsFaultyGate, LacksHeader}
use Rattle.mx_records.specs.declared.entry.Entry.{Entry}
use Rattle.mx_records.specs.Entries.{payload_of}
use Rattle.mx_records.specs.History.{History}
use Rattle.mx_records.specs.Refusing.{IsAcceptable, IsValid, payloads_of}

-- An image stands for a valid history: it is the journal of the payloads of its entries, or it has at
-- most 17 bytes and the history has no entry.
pub record StandsFor (server image : List ℕ) (h : History) : Type 0 where
  pub valid : IsValid server h
  pub payloads : StandsForPayloads image (payloads_of h)

-- An image stands for one of two histories.
abbrev pub StandsForEitherHistory : List ℕ → History → History → List ℕ → Type 0
StandsForEitherHistory server old new image = StandsFor server image old ⊎ StandsFor server image new

-- These bytes are the payload of no entry that may come next.
abbrev pub IsNoNextPayload : List ℕ → History → List ℕ → Type 0
IsNoNextPayload server h payload =
    (entry : Entry) → IsAcceptable server h entry → payload ≢ payload_of entry

-- A whole record stands here, whose payload is that of no entry that may come next.
pub record HasBadRecord (server : List ℕ) (h : History) (bytes : List ℕ) : Type 0 where
  pub payload : List ℕ
  pub behind : List ℕ
  pub is : bytes ≡ open_gate ∷ (body_of payload ++ behind)
  pub fit : IsPayload payload
  pub bad : IsNoNextPayload server h payload

-- Behind the records of a valid history stands, at this offset, a faulty gate or the record of an entry
-- that may not come next.
pub record HasFaultBehind (server image : List ℕ) (offset : ℕ) : Type 0 where
  pub before : History
  pub behind : List ℕ
  pub valid : IsValid server before
  pub is : image ≡ front_of (payloads_of before) ++ behind
  pub place : length (front_of (payloads_of before)) ≡ offset
  pub faulty : IsFaultyGate behind ⊎ HasBadRecord server before behind

-- The image stands for no history, and its first fault is at this offset.
abbrev pub HasFirstFaultAt : List ℕ → List ℕ → ℕ → Type 0
HasFirstFaultAt server image offset =
    (17 < length image) × (LacksHeader image offset ⊎ HasFaultBehind server image offset)
