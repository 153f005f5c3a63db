-- The words of the inputs, as `cmd` spells them: ours.
use Rattle.std.specs.Prelude.{ℕ, List, Option, Some, None, codes, option_and_then, if◌then◌else◌}
use Rattle.std.specs.Str.{bytes_eq}
use Rattle.mx_json.specs.declared.value.Json.{Json}
use Rattle.mx_json.specs.Json.{text_at}
use Rattle.mx_records.specs.declared.input_word.InputWord.{InputWord}
use Rattle.mx_records.specs.declared.input_word.InputWord.TheVariants.{Event, RulePut, RuleDelete, RuleEnable}
use Rattle.mx_records.specs.declared.input_word.InputWord.TheVariants.{RuleActions, Receipt, Pusher}

-- the word that a text spells, if it is one of the seven
unfoldable pub input_word_named : List ℕ → Option InputWord
input_word_named text =
    if bytes_eq text (codes "event") then Some Event
    else (if bytes_eq text (codes "rule_put") then Some RulePut
    else (if bytes_eq text (codes "rule_delete") then Some RuleDelete
    else (if bytes_eq text (codes "rule_enable") then Some RuleEnable
    else (if bytes_eq text (codes "rule_actions") then Some RuleActions
    else (if bytes_eq text (codes "receipt") then Some Receipt
    else (if bytes_eq text (codes "pusher") then Some Pusher
    else None))))))

-- the word that an object has under `cmd`, if it is that of an input
abbrev pub input_word_in : Json → Option InputWord
input_word_in json = option_and_then input_word_named (text_at (codes "cmd") json)
