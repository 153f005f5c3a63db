-- The bytes of a journal, from small to large, and the payloads that an image stands for: ours.
use Rattle.std.specs.Prelude.{◌≡◌, ◌≢◌, ◌⊎◌, ◌<◌, ◌≤◌, ℕ, List, [], ◌∷◌, ◌++◌, length, codes}
use Rattle.std.specs.Int.{w32, to_le_bytes}

-- A number as four bytes, the lowest first.
unfoldable pub number_bytes : ℕ → List ℕ
number_bytes n = to_le_bytes w32 n

-- The 16 bytes that each journal begins with: the name of the format, its version, and four bytes 0.
unfoldable pub header : List ℕ
header = codes "MXPUSHJ1" ++ number_bytes 1 ++ number_bytes 0

-- The gate of a record that counts. A gate of any other value is closed.
abbrev pub open_gate : ℕ
open_gate = 1

-- The closed gate that is written.
abbrev pub closed_gate : ℕ
closed_gate = 0

-- The most bytes that a payload has.
abbrev pub payload_limit : ℕ
payload_limit = 262144

-- A payload has 1 to 262,144 bytes.
abbrev pub IsPayload : List ℕ → Type 0
IsPayload payload = (0 < length payload) × (length payload ≤ payload_limit)

-- Each of these is a payload.
abbrev pub ArePayloads : List (List ℕ) → Type 0
ArePayloads [] = Unit {0}
ArePayloads (payload ∷ payloads) = IsPayload payload × ArePayloads payloads

-- What stands behind the gate of a record: the payload's length, and the payload.
abbrev pub body_of : List ℕ → List ℕ
body_of payload = number_bytes (length payload) ++ payload

-- A record for each payload, each behind an open gate.
abbrev pub records_of : List (List ℕ) → List ℕ
records_of [] = []
records_of (payload ∷ payloads) = open_gate ∷ (body_of payload ++ records_of payloads)

-- What stands before the first closed gate: the header and the records.
abbrev pub front_of : List (List ℕ) → List ℕ
front_of payloads = header ++ records_of payloads

-- The journal of no payload: the header and a closed gate.
abbrev pub empty_journal : List ℕ
empty_journal = header ++ closed_gate ∷ []

-- Header and records of these payloads, a closed gate, and any bytes behind it.
pub record IsJournalOf (image : List ℕ) (payloads : List (List ℕ)) : Type 0 where
  pub gate : ℕ
  pub behind : List ℕ
  pub is : image ≡ front_of payloads ++ gate ∷ behind
  pub closed : gate ≢ open_gate
  pub fit : ArePayloads payloads

-- An image of at most 17 bytes stands for no payload, whatever it holds.
abbrev pub StandsForPayloads : List ℕ → List (List ℕ) → Type 0
StandsForPayloads image payloads = ((length image ≤ 17) × (payloads ≡ [])) ⊎ IsJournalOf image payloads

-- An image stands for one of two lists.
abbrev pub StandsForEither : List (List ℕ) → List (List ℕ) → List ℕ → Type 0
StandsForEither old new image = StandsForPayloads image old ⊎ StandsForPayloads image new
