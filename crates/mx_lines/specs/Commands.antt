-- The table of commands, and what a line is read as: ours.
use Rattle.std.specs.Prelude.{◌≡◌, ℕ, Bool, true, List, [], ◌∷◌, codes, Option, None, Some, is_some, option_map}
use Rattle.std.specs.Prelude.{unwrap_or, Result, Ok, Err}
use Rattle.std.specs.Option.{option_map_or}
use Rattle.mx_json.specs.declared.value.Json.{Json}
use Rattle.mx_json.specs.declared.reading.JsonError.{JsonError}
use Rattle.mx_json.specs.declared.reading.JsonError.TheVariants.{BadJson, NotWhole, OutOfMemory}
use Rattle.mx_json.specs.Ids.{is_user_id, is_room_id}
use Rattle.mx_json.specs.Json.{member, text_or_empty, truth_at, truth_of}
use Rattle.mx_json.specs.Reading.{read_json}
use Rattle.mx_records.specs.declared.field_name.FieldName.TheVariants.{Cmd, User, RoomId, Threads}
use Rattle.mx_records.specs.declared.input.Input.{Input}
use Rattle.mx_records.specs.declared.input_word.InputWord.{InputWord}
use Rattle.mx_records.specs.declared.input_word.InputWord.TheVariants.{Pusher}
use Rattle.mx_records.specs.Forms.{Form, value_of_form, input_form_of, user_in}
use Rattle.mx_records.specs.InputWords.{input_word_in}
use Rattle.mx_records.specs.Normal.{IsNormal}
use Rattle.mx_records.specs.Refusing.{IsBuilt}
use Rattle.mx_records.specs.Rules.{is_valid_input}
use Rattle.mx_lines.specs.declared.command.Command.{Command}
use Rattle.mx_lines.specs.declared.command.Command.TheVariants.{Input as InputCommand, Counts, Rules}
use Rattle.mx_lines.specs.declared.command.LineError.{LineError}
use Rattle.mx_lines.specs.declared.command.LineError.TheVariants.{Refused, OutOfMemory as WantOfMemory}
use Rattle.mx_lines.specs.declared.command.LineRefusal.{LineRefusal}
use Rattle.mx_lines.specs.declared.command.LineRefusal.TheVariants.{BadLine, NotWhole as NumberNotWhole, BadField}
use Rattle.mx_lines.specs.declared.command.LineRefusal.TheVariants.{NotBuilt}
use Rattle.mx_lines.specs.declared.question_word.QuestionWord.{QuestionWord}
use Rattle.mx_lines.specs.declared.question_word.QuestionWord.TheVariants.{Counts as CountsWord, Rules as RulesWord}
use Rattle.mx_lines.specs.QuestionWords.{question_word_in}

-- how deep a line may be nested
abbrev pub deepest_line : ℕ
deepest_line = 100

-- ---- what stands in a line

-- the value of `room_id`, and the empty text where that is none
abbrev pub room_in : Json → List ℕ
room_in line = text_or_empty (codes "room_id") line

-- the value is true or false
abbrev pub is_truth : Json → Bool
is_truth json = is_some (truth_of json)

-- `threads` is absent, or a truth value
abbrev pub has_threads_or_none : Json → Bool
has_threads_or_none line = option_map_or is_truth (member (codes "threads") line) true

-- whether the counts are asked for thread by thread, as they are where nothing is said of it
abbrev pub threads_in : Json → Bool
threads_in line = unwrap_or (truth_at (codes "threads") line) true

-- ---- the table of commands

-- `counts`: a user id, a room id, and perhaps a truth value
abbrev pub counts_form : Json → Form Command
counts_form line = record {
  fields =
      (User, is_user_id (user_in line)) ∷ (RoomId, is_room_id (room_in line))
      ∷ (Threads, has_threads_or_none line) ∷ [];
  value = Counts (user_in line) (room_in line) (threads_in line);
}

-- `rules`: a user id
abbrev pub rules_form : Json → Form Command
rules_form line = record {
  fields = (User, is_user_id (user_in line)) ∷ [];
  value = Rules (user_in line);
}

-- The form of each command that is built and is no input.
abbrev pub question_form_of : QuestionWord → Json → Option (Form Command)
question_form_of CountsWord line = Some (counts_form line)
question_form_of RulesWord line = Some (rules_form line)
question_form_of other line = None

-- the command that asks for what has this form to be accepted
abbrev pub input_form : Form Input → Form Command
input_form form = record { fields = form.fields; value = InputCommand form.value }

-- The form of each command that is built and is an input: `pusher` isn't built.
abbrev pub accepting_form_of : InputWord → Json → Option (Form Command)
accepting_form_of Pusher line = None
accepting_form_of word line = option_map input_form (input_form_of word line)

-- ---- what a line is read as

-- the command of a form, or the first field that is missing or wrong
abbrev pub command_by : Form Command → Result Command LineRefusal
command_by form = value_of_form BadField form

-- a command that has no form isn't built
abbrev pub if_built : Option (Form Command) → Result Command LineRefusal
if_built form = option_map_or command_by form (Err NotBuilt)

-- what a value whose word is no input's is read as
unfoldable pub question_in : Json → Result Command LineRefusal
question_in line =
    option_map_or (λ word. if_built (question_form_of word line)) (question_word_in line)
    (Err (BadField Cmd))

-- what a value is read as: `cmd` is looked at first
unfoldable pub command_in : Json → Result Command LineRefusal
command_in line =
    option_map_or (λ word. if_built (accepting_form_of word line)) (input_word_in line)
    (question_in line)

-- what the outcome of reading JSON is read as, where want of memory is none of its outcomes
abbrev pub command_from : Result Json JsonError → Result Command LineRefusal
command_from (Ok line) = command_in line
command_from (Err BadJson) = Err BadLine
command_from (Err NotWhole) = Err NumberNotWhole
command_from (Err OutOfMemory) = Err BadLine

-- What a line is read as: a command, or the first refusal that applies.
unfoldable pub command_of : List ℕ → Result Command LineRefusal
command_of line = command_from (read_json line deepest_line)

-- The outcome of reading a line is what the line is read as, or there was no memory.
abbrev pub ReadsAs : Result Command LineRefusal → Result Command LineError → Type 0
ReadsAs expected (Ok command) = expected ≡ Ok command
ReadsAs expected (Err (Refused refusal)) = expected ≡ Err refusal
ReadsAs expected (Err WantOfMemory) = Unit {0}

-- An input that is ready to be accepted: what it holds is valid, its object stands for it, and it is
-- built.
pub record IsReadyInput (input : Input) : Type 0 where
  pub valid : is_valid_input input ≡ true
  pub normal : IsNormal input
  pub built : IsBuilt input

-- the input that a command asks to accept is ready
abbrev pub IsReady : Command → Type 0
IsReady (InputCommand input) = IsReadyInput input
IsReady (Counts user room threads) = Unit {0}
IsReady (Rules user) = Unit {0}
