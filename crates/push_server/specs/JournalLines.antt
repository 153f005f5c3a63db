-- What is said of a journal as a whole: JSON objects, and their lines. Ours.
use Rattle.std.specs.Prelude.{ℕ, List, [], ◌∷◌, codes}
use Rattle.mx_json.specs.declared.value.Json.{Json}
use Rattle.mx_lines.specs.Lines.{with_feed}
use Rattle.mx_lines.specs.Replies.{reply_text, object_of, number_of, error_value}

-- what `check` says of a journal: how many entries it has, and how many of them are inputs
abbrev pub tally_value : ℕ → ℕ → Json
tally_value entries inputs =
    object_of ((codes "entries", number_of entries) ∷ (codes "inputs", number_of inputs) ∷ [])

-- what is said of a file that is no journal: where its first fault is
abbrev pub fault_value : ℕ → Json
fault_value offset = error_value (codes "NotAJournal") ((codes "offset", number_of offset) ∷ [])

-- the line with which `check` says it
abbrev pub tally_line : ℕ → ℕ → List ℕ
tally_line entries inputs = with_feed (reply_text (tally_value entries inputs))

-- the line with which `run` and `check` say it
abbrev pub fault_line : ℕ → List ℕ
fault_line offset = with_feed (reply_text (fault_value offset))
