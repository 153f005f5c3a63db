-- How a journal is read on: ours.
use Rattle.std.specs.Prelude.{◌≡◌, ◌+◌, Bool, true, false, ℕ, List, ◌∷◌, ◌++◌, Result, Ok, Err, length, drop}
use Rattle.mx_journal.specs.declared.error.JournalError.{JournalError}
use Rattle.mx_journal.specs.declared.error.JournalError.TheVariants.{NotAJournal, DiskFault, OutOfMemory}
use Rattle.mx_journal.specs.declared.phase.Phase.{Phase}
use Rattle.mx_journal.specs.declared.phase.Phase.TheVariants.{Reading, Writing, Failed}
use Rattle.mx_journal.specs.Image.{open_gate, IsPayload, body_of}
use Rattle.mx_journal.specs.Fault.{IsFaultyGate}
use Rattle.mx_journal.specs.Journal.{HasClosedGate}

-- A record stands here: an open gate, and the body of a payload.
pub record HasRecord (content : List ℕ) (offset : ℕ) (payload : List ℕ) : Type 0 where
  pub is : drop offset content ≡ open_gate ∷ (body_of payload ++ drop (offset + 5 + length payload) content)
  pub fit : IsPayload payload

-- What stands at this offset: a record, a closed gate, a faulty gate, or a record for which there
-- was no memory.
abbrev pub Found : Result Bool JournalError → List ℕ → ℕ → List ℕ → Type 0
Found (Ok true) content offset payload = HasRecord content offset payload
Found (Ok false) content offset payload = HasClosedGate content offset
Found (Err (NotAJournal fault)) content offset payload = (fault ≡ offset) × IsFaultyGate (drop offset content)
Found (Err DiskFault) content offset payload = Unit {0}
Found (Err OutOfMemory) content offset payload = (longer : List ℕ) × HasRecord content offset longer

-- At the first closed gate all payloads were read.
abbrev pub phase_at_end : Phase → Phase
phase_at_end Reading = Writing
phase_at_end Writing = Writing
phase_at_end Failed = Failed

-- The phase after a call that reads on.
abbrev pub phase_after_reading : Result Bool JournalError → Phase → Phase
phase_after_reading (Ok true) phase = phase
phase_after_reading (Ok false) phase = phase_at_end phase
phase_after_reading (Err cause) phase = phase

-- The first of these payloads are those.
abbrev pub BeginsWith : List (List ℕ) → List (List ℕ) → Type 0
BeginsWith payloads front = (more : List (List ℕ)) × (payloads ≡ front ++ more)
