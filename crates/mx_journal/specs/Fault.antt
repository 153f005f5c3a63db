-- Where an image that is no journal has its first fault: ours.
use Rattle.std.specs.Prelude.{◌≡◌, ◌≢◌, ◌⊎◌, ◌+◌, ◌<◌, ◌≤◌, ℕ, List, [], ◌∷◌, ◌++◌, length, take}
use Rattle.std.specs.Int.{w32, from_le_bytes}
use Rattle.mx_journal.specs.Image.{number_bytes, header, open_gate, payload_limit, ArePayloads, front_of}

-- The number that four bytes hold, the lowest first.
unfoldable pub number_in : List ℕ → ℕ
number_in bytes = from_le_bytes w32 (take 4 bytes)

-- No whole record stands here: the length or the payload ends too early, or the length is 0 or too great.
abbrev pub LacksBody : List ℕ → Type 0
LacksBody bytes =
    (length bytes < 4) ⊎ ((number_in bytes ≡ 0)
    ⊎ ((payload_limit < number_in bytes) ⊎ (length bytes < 4 + number_in bytes)))

-- A payload of this length stands here, behind its length.
pub record HasBodyOf (bytes : List ℕ) (count : ℕ) : Type 0 where
  pub number : number_bytes count ≡ take 4 bytes
  pub some_bytes : 0 < count
  pub within : count ≤ payload_limit
  pub whole : 4 + count ≤ length bytes

-- The gate is missing, or it is open and no whole record stands behind it.
abbrev pub IsFaultyGate : List ℕ → Type 0
IsFaultyGate [] = Unit {0}
IsFaultyGate (gate ∷ behind) = (gate ≡ open_gate) × LacksBody behind

-- The image doesn't begin with the header. Its fault is at 0.
pub record LacksHeader (image : List ℕ) (offset : ℕ) : Type 0 where
  pub differs : take 16 image ≢ header
  pub first : offset ≡ 0

-- Behind the header and whole records stands a faulty gate, at this offset.
pub record HasFaultyGateAt (image : List ℕ) (offset : ℕ) : Type 0 where
  pub before : List (List ℕ)
  pub behind : List ℕ
  pub is : image ≡ front_of before ++ behind
  pub place : length (front_of before) ≡ offset
  pub fit : ArePayloads before
  pub faulty : IsFaultyGate behind

-- The image is no journal, and its first fault is at this offset.
abbrev pub IsNotAJournalAt : List ℕ → ℕ → Type 0
IsNotAJournalAt image offset = (17 < length image) × (LacksHeader image offset ⊎ HasFaultyGateAt image offset)
