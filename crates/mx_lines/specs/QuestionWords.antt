-- The words of the commands that are no inputs: questions, a turn, a checkpoint. Ours.
use Rattle.std.specs.Prelude.{ℕ, List, Option, Some, None, codes, option_and_then, if◌then◌else◌}
use Rattle.std.specs.Str.{bytes_eq}
use Rattle.mx_json.specs.declared.value.Json.{Json}
use Rattle.mx_json.specs.Json.{text_at}
use Rattle.mx_lines.specs.declared.question_word.QuestionWord.{QuestionWord}
use Rattle.mx_lines.specs.declared.question_word.QuestionWord.TheVariants.{Counts, Rules, Pushers, Turn, Stat}
use Rattle.mx_lines.specs.declared.question_word.QuestionWord.TheVariants.{Checkpoint}

-- the word that a text spells, if it is one of the six
unfoldable pub question_word_named : List ℕ → Option QuestionWord
question_word_named text =
    if bytes_eq text (codes "counts") then Some Counts
    else (if bytes_eq text (codes "rules") then Some Rules
    else (if bytes_eq text (codes "pushers") then Some Pushers
    else (if bytes_eq text (codes "turn") then Some Turn
    else (if bytes_eq text (codes "stat") then Some Stat
    else (if bytes_eq text (codes "checkpoint") then Some Checkpoint
    else None)))))

-- the word that a line has under `cmd`, if it is one of the six
abbrev pub question_word_in : Json → Option QuestionWord
question_word_in line = option_and_then question_word_named (text_at (codes "cmd") line)
