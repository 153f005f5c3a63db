-- The command of an input, by what the input is read as.
use Rattle.std.proofs.Common.{◌≡◌, ◌⊎◌, inl, inr, Bool, true, Option, None, Some, option_and_then, Result, Ok, Err}
use Rattle.std.proofs.Common.{refl, sym, ap, subst, ◌∙◌}
use Rattle.std.specs.Option.{option_map_or}
use Rattle.mx_json.specs.declared.value.Json.{Json}
use Rattle.mx_event.specs.Event.{first_wrong}
use Rattle.mx_records.specs.declared.field_name.FieldName.{FieldName}
use Rattle.mx_records.specs.declared.input.Input.{Input}
use Rattle.mx_records.specs.declared.input_error.InputError.{InputError}
use Rattle.mx_records.specs.declared.input_error.InputError.TheVariants as input_error
use Rattle.mx_records.specs.declared.field_name.FieldName.TheVariants.{Cmd}
use Rattle.mx_records.specs.declared.input_word.InputWord.{InputWord}
use Rattle.mx_records.specs.declared.input_word.InputWord.TheVariants as word
use Rattle.mx_records.specs.Forms.{Form, delete_form, enable_form, event_form, input_form_in, input_form_of, input_in}
use Rattle.mx_records.specs.Forms.{put_form, receipt_form, set_actions_form, value_of_form}
use Rattle.mx_records.specs.InputWords.{input_word_in}
use Rattle.mx_records.specs.Normal.{IsNormal}
use Rattle.mx_records.specs.Refusing.{IsBuilt}
use Rattle.mx_records.specs.Rules.{is_valid_input}
use Rattle.mx_records.proofs.FormLemmas.{AreRight, found-right}
use Rattle.mx_lines.specs.declared.command.Command.{Command}
use Rattle.mx_lines.specs.declared.command.Command.TheVariants.{Input as InputCommand}
use Rattle.mx_lines.specs.declared.command.LineRefusal.{LineRefusal}
use Rattle.mx_lines.specs.declared.command.LineRefusal.TheVariants.{BadField, NotBuilt}
use Rattle.mx_lines.specs.Commands.{accepting_form_of, command_by, command_in, if_built, input_form, question_in}
use Rattle.mx_lines.specs.Commands.{IsReadyInput}

abbrev input_with : Option FieldName → Input → Result Input InputError
input_with wrong input = option_map_or (λ field. Err (input_error.BadField field)) wrong (Ok input)

abbrev command_with : Option FieldName → Input → Result Command LineRefusal
command_with wrong input = option_map_or (λ field. Err (BadField field)) wrong (Ok (InputCommand input))

right : (wrong : Option FieldName) (value input : Input) → input_with wrong value ≡ Ok input
    → command_with wrong value ≡ Ok (InputCommand input)
right None value input is = cc
right (Some field) value input is = absurd cc

wrong_at : (wrong : Option FieldName) (value : Input) (field : FieldName)
    → input_with wrong value ≡ Err (input_error.BadField field)
    → command_with wrong value ≡ Err (BadField field)
wrong_at None value field is = absurd cc
wrong_at (Some first) value field is = cc

input_in-by : (line : Json) (form : Form Input) → input_form_in line ≡ Some form
    → input_in line ≡ input_with (first_wrong form.fields) form.value
unfolding input_in
input_in-by line form is = rw is

-- an object that is read as an input gives its command
pub command_by-right : (line : Json) (form : Form Input) (input : Input) → input_form_in line ≡ Some form
    → input_in line ≡ Ok input
    → command_by (input_form form) ≡ Ok (InputCommand input)
command_by-right line form input is read =
    right (first_wrong form.fields) form.value input (sym (input_in-by line form is) ∙ read)

-- another is refused at the first wrong field
pub command_by-wrong : (line : Json) (form : Form Input) (error : InputError) (field : FieldName)
    → input_form_in line ≡ Some form
    → error ≡ input_error.BadField field → (input_in line ≡ Err error) ⊎ (error ≡ input_error.OutOfMemory)
    → command_by (input_form form) ≡ Err (BadField field)
command_by-wrong line form error field is at (inl read) =
    wrong_at (first_wrong form.fields) form.value field (sym (input_in-by line form is) ∙ read ∙ ap (λ e. Err e) at)
command_by-wrong line form error field is at (inr memory) = absurd cc

-- ---- which inputs are built

built-by : (of : InputWord) (line : Json) (form : Form Input) (input : Input) → input_form_of of line ≡ Some form
    → (of ≡ word.Pusher → ⊥) → value_of_form input_error.BadField form ≡ Ok input → IsBuilt input
built-by of line form input is other read = by of is other
  where
    found : AreRight form.fields × (form.value ≡ input)
    found = found-right form.fields form.value input read

    moved : (told : Form Input) → Some told ≡ Some form → IsBuilt told.value → IsBuilt input
    moved told is built =
        let same : told ≡ form = cc in
        subst IsBuilt found.1 (subst (λ (form : Form Input). IsBuilt form.value) same built)

    by : (of : InputWord) → input_form_of of line ≡ Some form → (of ≡ word.Pusher → ⊥) → IsBuilt input
    by word.Event is other = moved (event_form line) is tt
    by word.RulePut is other = moved (put_form line) is tt
    by word.RuleDelete is other = moved (delete_form line) is tt
    by word.RuleEnable is other = moved (enable_form line) is tt
    by word.RuleActions is other = moved (set_actions_form line) is tt
    by word.Receipt is other = moved (receipt_form line) is tt
    by word.Pusher is other = absurd (other refl)

abbrev by_form : Option (Form Input) → Result Input InputError
by_form form = option_map_or (value_of_form input_error.BadField) form (Err (input_error.BadField Cmd))

-- an input whose word isn't that of a pusher is built
pub read-built : (line : Json) (input : Input) → (input_word_in line ≡ Some word.Pusher → ⊥) → input_in line ≡ Ok input
    → IsBuilt input
unfolding input_in
read-built line input other read = by (input_word_in line) other read
  where
    with_form : (of : InputWord) (form : Option (Form Input)) → input_form_of of line ≡ form → (of ≡ word.Pusher → ⊥)
        → by_form form ≡ Ok input → IsBuilt input
    with_form of None has other is = absurd cc
    with_form of (Some form) has other is = built-by of line form input has other is

    by : (of : Option InputWord) → (of ≡ Some word.Pusher → ⊥)
        → by_form (option_and_then (λ word. input_form_of word line) of) ≡ Ok input → IsBuilt input
    by None other is = absurd cc
    by (Some of) other is =
        with_form of (input_form_of of line) refl (λ same. other (ap (λ w. Some w) same)) is

-- a command whose input is read so is ready
pub ready-read : (line : Json) (input : Input) → (input_word_in line ≡ Some word.Pusher → ⊥) → input_in line ≡ Ok input
    → is_valid_input input ≡ true → IsNormal input → IsReadyInput input
ready-read line input other read valid normal = record {
  valid = valid;
  normal = normal;
  built = read-built line input other read;
}

-- ---- the commands of inputs that are built

-- the command of an input that is built is that of its form
pub command_in-built : (line : Json) (of : InputWord) → input_word_in line ≡ Some of → (of ≡ word.Pusher → ⊥)
    → (form : Form Input) × (input_form_in line ≡ Some form) × (command_in line ≡ command_by (input_form form))
unfolding command_in
command_in-built line of has other = by of has other
  where
    with_form : (of : InputWord) (form : Form Input) → input_word_in line ≡ Some of → input_form_of of line ≡ Some form
        → accepting_form_of of line ≡ Some (input_form form)
        → (form : Form Input) × (input_form_in line ≡ Some form) × (command_in line ≡ command_by (input_form form))
    with_form of form has is accepts = (
      form,
      ap (λ (of : Option InputWord). option_and_then (λ word. input_form_of word line) of) has ∙ is,
      ap (λ (of : Option InputWord).
          option_map_or (λ word. if_built (accepting_form_of word line)) of (question_in line)) has
          ∙ ap if_built accepts,
    )

    by : (of : InputWord) → input_word_in line ≡ Some of → (of ≡ word.Pusher → ⊥)
        → (form : Form Input) × (input_form_in line ≡ Some form) × (command_in line ≡ command_by (input_form form))
    by word.Event has other = with_form word.Event (event_form line) has refl refl
    by word.RulePut has other = with_form word.RulePut (put_form line) has refl refl
    by word.RuleDelete has other = with_form word.RuleDelete (delete_form line) has refl refl
    by word.RuleEnable has other = with_form word.RuleEnable (enable_form line) has refl refl
    by word.RuleActions has other = with_form word.RuleActions (set_actions_form line) has refl refl
    by word.Receipt has other = with_form word.Receipt (receipt_form line) has refl refl
    by word.Pusher has other = absurd (other refl)

-- a pusher's isn't built
pub command_in-pusher : (line : Json) (of : InputWord) → input_word_in line ≡ Some of → of ≡ word.Pusher
    → command_in line ≡ Err NotBuilt
unfolding command_in
command_in-pusher line of has is =
    ap (λ (of : Option InputWord). option_map_or (λ word. if_built (accepting_form_of word line)) of (question_in line))
    has
    ∙ ap (λ of. if_built (accepting_form_of of line)) is
