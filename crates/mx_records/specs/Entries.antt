-- The one payload of each entry of a journal: a tag, and the text of an input or the numbers of an outcome. Ours.
use Rattle.std.specs.Prelude.{◌≡◌, ◌<◌, ◌^◌, ℕ, nat_le, Bool, ◌&&◌, if◌then◌else◌, List, [], ◌∷◌, ◌++◌, Option, None}
use Rattle.std.specs.Prelude.{Result, Ok, Err}
use Rattle.std.specs.Int.{w64, to_le_bytes}
use Rattle.std.specs.Result.{result_ok}
use Rattle.mx_json.specs.declared.reading.JsonError.{JsonError}
use Rattle.mx_json.specs.declared.value.Json.{Json}
use Rattle.mx_json.specs.Canonical.{canonical}
use Rattle.mx_json.specs.Reading.{read_json}
use Rattle.mx_records.specs.declared.entry.Entry.{Entry}
use Rattle.mx_records.specs.declared.entry.Entry.TheVariants.{Input as InputEntry, Outcome as OutcomeEntry}
use Rattle.mx_records.specs.declared.entry.Outcome.{Outcome}
use Rattle.mx_records.specs.declared.entry.Outcome.TheVariants.{Pushed, GaveUp, Rejected}
use Rattle.mx_records.specs.declared.entry_error.EntryError.{EntryError}
use Rattle.mx_records.specs.declared.entry_error.EntryError.TheVariants.{BadEntry, OutOfMemory}
use Rattle.mx_records.specs.declared.input.Input.{Input}
use Rattle.mx_records.specs.Forms.{input_in}
use Rattle.mx_records.specs.Normal.{normal_of, IsNormal}

-- the tag of an input
abbrev pub input_tag : ℕ
input_tag = 1

-- the tag of an outcome
abbrev pub outcome_tag : Outcome → ℕ
outcome_tag (Pushed pusher position) = 2
outcome_tag (GaveUp pusher position) = 3
outcome_tag (Rejected pusher position) = 4

-- the pusher of an outcome
abbrev pub pusher_of : Outcome → ℕ
pusher_of (Pushed pusher position) = pusher
pusher_of (GaveUp pusher position) = pusher
pusher_of (Rejected pusher position) = pusher

-- the position of an outcome
abbrev pub settled_by : Outcome → ℕ
settled_by (Pushed pusher position) = position
settled_by (GaveUp pusher position) = position
settled_by (Rejected pusher position) = position

-- a number as eight bytes, the lowest first
abbrev pub eight_bytes : ℕ → List ℕ
eight_bytes number = to_le_bytes w64 number

-- The payload of an entry: the tag, and the canonical text of the object that stands for an input, or
-- the numbers of an outcome's pusher and position.
unfoldable pub payload_of : Entry → List ℕ
payload_of (InputEntry input) = input_tag ∷ canonical (normal_of input)
payload_of (OutcomeEntry outcome) =
    outcome_tag outcome ∷ eight_bytes (pusher_of outcome) ++ eight_bytes (settled_by outcome)

-- An entry: an input that its object stands for, or an outcome whose numbers have eight bytes.
abbrev pub IsEntry : Entry → Type 0
IsEntry (InputEntry input) = IsNormal input
IsEntry (OutcomeEntry outcome) = (pusher_of outcome < 2 ^ 64) × (settled_by outcome < 2 ^ 64)

-- The bytes are the one payload of the entry.
pub record IsPayloadOf (bytes : List ℕ) (entry : Entry) : Type 0 where
  pub entry_is : IsEntry entry
  pub payload : bytes ≡ payload_of entry

-- where bytes that are no payload have their fault: at the tag where it is none of 1 to 4 or is
-- missing, else behind it
abbrev pub fault_in : List ℕ → ℕ
fault_in [] = 0
fault_in (tag ∷ rest) = if nat_le 1 tag && nat_le tag 4 then 1 else 0

-- the fault that is told is that of the bytes
abbrev pub IsFaultIn : List ℕ → EntryError → Type 0
IsFaultIn bytes (BadEntry offset) = offset ≡ fault_in bytes
IsFaultIn bytes OutOfMemory = Unit {0}

-- ---- how an input is read; for private clauses

-- how deep the object that stands for an input may be nested, where it is read
abbrev pub deepest_object : ℕ
deepest_object = 127

-- the input that a value is, if a value was read and it is one
abbrev pub input_read : Result Json JsonError → Option Input
input_read (Ok json) = result_ok (input_in json)
input_read (Err error) = None

-- the input that a text spells, if it spells one
unfoldable pub input_spelled : List ℕ → Option Input
input_spelled text = input_read (read_json text deepest_object)
