-- A history, and each of its entries, inputs and events together with what stood before it: ours.
use Rattle.std.specs.Prelude.{ℕ, ◌+◌, List, [], ◌∷◌, ◌++◌, length, Option, Some, None}
use Rattle.std.specs.List.{filter_map}
use Rattle.mx_json.specs.declared.value.Json.{Json}
use Rattle.mx_records.specs.declared.entry.Entry.{Entry}
use Rattle.mx_records.specs.declared.entry.Entry.TheVariants.{Input as InputEntry, Outcome as OutcomeEntry}
use Rattle.mx_records.specs.declared.entry.Outcome.{Outcome}
use Rattle.mx_records.specs.declared.input.Input.{Input}
use Rattle.mx_records.specs.declared.input.Input.TheVariants.{Event, Edit, Receipt, Pusher}

-- A history is the list of its entries, oldest first: the inputs that were accepted, and how
-- notifications were settled.
abbrev pub History : Type 0
History = List Entry

-- the history with this entry at its end
abbrev pub with_entry : History → Entry → History
with_entry h entry = h ++ entry ∷ []

-- The history with this input at its end.
abbrev pub with_input : History → Input → History
with_input h input = with_entry h (InputEntry input)

-- The history with this outcome at its end.
abbrev pub with_outcome : History → Outcome → History
with_outcome h outcome = with_entry h (OutcomeEntry outcome)

-- the input that an entry is, if it is one
abbrev pub input_of : Entry → Option Input
input_of (InputEntry input) = Some input
input_of (OutcomeEntry outcome) = None

-- the inputs of a history, oldest first
abbrev pub inputs_in : History → List Input
inputs_in h = filter_map input_of h

-- how many inputs a history has
abbrev pub inputs_of : History → ℕ
inputs_of h = length (inputs_in h)

-- The position of the input that comes straight after a history: inputs are numbered from 1, and
-- outcomes take no position.
abbrev pub position_after : History → ℕ
position_after before = inputs_of before + 1

-- An addition is an entry with the history before it.
pub record Addition : Type 0 where
  pub before : History
  pub entry : Entry

-- the additions of these entries after a history
unfoldable pub additions_after : History → List Entry → List Addition
additions_after before [] = []
additions_after before (entry ∷ entries) =
    record { before = before; entry = entry } ∷ additions_after (with_entry before entry) entries

-- each entry of a history, with what stood before it
abbrev pub additions : History → List Addition
additions h = additions_after [] h

-- An arrival is an input with the history before it.
pub record Arrival : Type 0 where
  pub before : History
  pub input : Input

-- what arrives where this entry comes after a history
abbrev pub arrival_by : History → Entry → Option Arrival
arrival_by before (InputEntry input) = Some (record { before = before; input = input })
arrival_by before (OutcomeEntry outcome) = None

-- what arrives at an addition
abbrev pub arrival_of : Addition → Option Arrival
arrival_of addition = arrival_by addition.before addition.entry

-- each input of a history, with what stood before it
abbrev pub arrivals : History → List Arrival
arrivals h = filter_map arrival_of (additions h)

-- A happening is an event with the history before it.
pub record Happening : Type 0 where
  pub before : History
  pub event : Json

-- what happens where this input comes after a history
abbrev pub happening_by : History → Input → Option Happening
happening_by before (Event event) = Some (record { before = before; event = event })
happening_by before (Edit user edit) = None
happening_by before (Receipt user room id private thread) = None
happening_by before (Pusher spec) = None

-- what happens at an arrival
abbrev pub happening_of : Arrival → Option Happening
happening_of arrival = happening_by arrival.before arrival.input

-- the events of a history, oldest first
unfoldable pub events : History → List Happening
events h = filter_map happening_of (arrivals h)
