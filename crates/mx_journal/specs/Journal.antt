-- What a journal shows of itself, and what it stands for: ours.
use Rattle.std.specs.Prelude.{◌≡◌, ◌≢◌, ◌⊎◌, ◌≤◌, ℕ, List, ◌∷◌, ◌++◌, Option, Some, length, drop}
use Rattle.mx_journal.specs.declared.phase.Phase.{Phase}
use Rattle.mx_journal.specs.Image.{open_gate, ArePayloads, front_of, empty_journal, IsJournalOf}

-- What contracts see of a journal.
pub record Opened (D : Type 0) : Type 0 where
  pub disk : D
  -- where the next gate stands
  pub gate : ℕ
  pub phase : Phase
  -- the payload that is staged, and no bytes where none is
  pub staged : List ℕ

-- More than 17 bytes, or the empty journal: what opening leaves as it is.
abbrev pub IsLongOrEmpty : List ℕ → Type 0
IsLongOrEmpty content = length content ≤ 17 → content ≡ empty_journal

-- What the disk gives begins with the header and the records of these payloads, and the next gate
-- stands behind them.
pub record ReadTo (seen : Option (List ℕ)) (gate : ℕ) (content : List ℕ) (payloads : List (List ℕ)) : Type 0 where
  pub told : seen ≡ Some content
  pub whole : IsLongOrEmpty content
  pub front : content ≡ front_of payloads ++ drop gate content
  pub place : length (front_of payloads) ≡ gate
  pub fit : ArePayloads payloads

-- A closed gate stands here.
pub record HasClosedGate (content : List ℕ) (offset : ℕ) : Type 0 where
  pub gate : ℕ
  pub behind : List ℕ
  pub is : drop offset content ≡ gate ∷ behind
  pub closed : gate ≢ open_gate

-- Each image that a crash may leave is a journal of these payloads, whatever stands behind its closed gate.
abbrev pub LeavesJournals : List (List ℕ) → (List ℕ → Type 0) → Type 0
LeavesJournals payloads may_leave = (image : List ℕ) → may_leave image → IsJournalOf image payloads

-- Each image that a crash may leave is this content, or a journal of these payloads.
abbrev pub LeavesAlike : List ℕ → List (List ℕ) → (List ℕ → Type 0) → Type 0
LeavesAlike content payloads may_leave =
    (image : List ℕ) → may_leave image → (image ≡ content) ⊎ IsJournalOf image payloads

-- These are all payloads of what the disk gives, and of each image that a crash may leave.
pub record RestsAt (seen : Option (List ℕ)) (may_leave : List ℕ → Type 0) (gate : ℕ) (payloads : List (List ℕ)) : Type
    0 where
  pub content : List ℕ
  pub read : ReadTo seen gate content payloads
  pub gate_closed : HasClosedGate content gate
  pub durable : LeavesJournals payloads may_leave

-- The journal's disk gives this content, and these payloads were read.
abbrev pub HasRead : {D : Type 0} → (D → Option (List ℕ)) → Opened D → List ℕ → List (List ℕ) → Type 0
HasRead seen journal content payloads = ReadTo (seen journal.disk) journal.gate content payloads

-- All payloads were read, these are all, and a crash leaves a journal of just these.
abbrev pub Rests : {D : Type 0} → (D → Option (List ℕ)) → (D → List ℕ → Type 0) → Opened D → List (List ℕ) → Type 0
Rests seen may_leave journal payloads = RestsAt (seen journal.disk) (may_leave journal.disk) journal.gate payloads
