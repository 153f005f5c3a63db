-- What a journal holds of itself: ours.
use Rattle.std.specs.Prelude.{◌≡◌, ◌⊎◌, ◌-◌, ◌<◌, ◌^◌, ℕ, List, [], ◌∷◌, ◌++◌, Option, IfSome, length, take, drop}
use Rattle.mx_journal.specs.declared.phase.Phase.{Phase}
use Rattle.mx_journal.specs.declared.phase.Phase.TheVariants.{Writing}
use Rattle.mx_journal.specs.Image.{closed_gate, IsPayload, body_of}
use Rattle.mx_journal.specs.Journal.{HasClosedGate}

-- What a commit writes behind the gate: the record's body and a closed gate.
abbrev pub staged_bytes : List ℕ → List ℕ
staged_bytes payload = body_of payload ++ closed_gate ∷ []

-- The payload between its length and the closed gate.
abbrev pub payload_in : List ℕ → List ℕ
payload_in bytes = take (length bytes - 5) (drop 4 bytes)

-- Nothing is staged, or a payload.
abbrev pub IsStaged : List ℕ → Type 0
IsStaged bytes = (bytes ≡ []) ⊎ (IsPayload (payload_in bytes) × (bytes ≡ staged_bytes (payload_in bytes)))

-- What holds of each journal: the offset fits, and once all payloads were read its gate is closed.
pub record HoldsJournal {D : Type 0} (seen : D → Option (List ℕ)) (disk : D) (gate : ℕ) (phase : Phase)
    (bytes : List ℕ) : Type 0 where
  pub staged : IsStaged bytes
  pub bounded : gate < 2 ^ 63
  pub closed : phase ≡ Writing → IfSome (seen disk) (λ content. HasClosedGate content gate)
