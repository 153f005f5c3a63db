-- A run of the server as plain data, and how far its output has taken the history: ours.
use Rattle.std.specs.Prelude.{ℕ, zero, suc, ◌+◌, Bool, true, false, ◌==◌, List, [], ◌∷◌, ◌++◌, length, count_by, Option}
use Rattle.std.specs.Prelude.{None, Some, slice_get, if◌then◌else◌}
use Rattle.mx_lines.specs.Lines.{lines_of}
use Rattle.mx_records.specs.History.{History}
use Rattle.mx_lines.specs.Admission.{after}

-- one run, from its call on
pub record Run : Type 0 where
  -- the bytes that were taken from the source
  pub input : List ℕ
  -- whether the source answered that it has ended
  pub ended : Bool
  -- the bytes that the sink took
  pub output : List ℕ
  -- the exit status; none while the run goes on
  pub status : Option ℕ

-- the last part without a line feed is a line where the source ended and the part isn't empty
abbrev pub last_line : Bool → List ℕ → List (List ℕ)
last_line false rest = []
last_line true [] = []
last_line true (b ∷ rest) = (b ∷ rest) ∷ []

-- the lines of bytes after which the source ended or not
abbrev pub lines_until : Bool → List ℕ → List (List ℕ)
lines_until ended bytes = (lines_of bytes).whole ++ last_line ended (lines_of bytes).rest

-- the lines that came in
abbrev pub input_lines : Run → List (List ℕ)
input_lines run = lines_until run.ended run.input

-- the whole lines that went out
abbrev pub output_lines : Run → List (List ℕ)
output_lines run = (lines_of run.output).whole

-- the line that was begun and isn't whole yet
abbrev pub begun : Run → List ℕ
begun run = (lines_of run.output).rest

-- an output line is an answer where it begins with `=`; each other one is a notice
abbrev pub is_answer : List ℕ → Bool
is_answer [] = false
is_answer (b ∷ bytes) = b == 61

-- the history after this notice, which is as before while there are no notices
unfoldable pub after_notice : List ℕ → History → List ℕ → History
after_notice server h notice = h

-- a point of the output: the history there, and how many lines have their answer
pub record Point : Type 0 where
  pub history : History
  pub answered : ℕ

-- past the answer to this line
abbrev pub past_answer : List ℕ → Point → Option (List ℕ) → Point
past_answer server p None = p
past_answer server p (Some line) =
    record { history = after server p.history line; answered = p.answered + 1 }

-- past this notice
abbrev pub past_notice : List ℕ → Point → List ℕ → Point
past_notice server p notice = record { history = after_notice server p.history notice; answered = p.answered }

-- past this output line: an answer is that to the next input line without one
abbrev pub past_line : List ℕ → List (List ℕ) → Point → List ℕ → Point
past_line server inputs p out =
    if is_answer out then past_answer server p (slice_get inputs p.answered) else past_notice server p out

-- past this output line, if there is one
abbrev pub past : List ℕ → List (List ℕ) → Point → Option (List ℕ) → Point
past server inputs p None = p
past server inputs p (Some out) = past_line server inputs p out

-- the point before output line k, counted from 0, where the history began as h0
unfoldable pub point_of : List ℕ → History → List (List ℕ) → List (List ℕ) → ℕ → Point
point_of server h0 inputs outputs zero = record { history = h0; answered = 0 }
point_of server h0 inputs outputs (suc k) =
    past server inputs (point_of server h0 inputs outputs k) (slice_get outputs k)

-- the point of this run before its output line k
abbrev pub point_at : List ℕ → History → Run → ℕ → Point
point_at server h0 run k = point_of server h0 (input_lines run) (output_lines run) k

-- the point of this run after its whole output lines
abbrev pub point_now : List ℕ → History → Run → Point
point_now server h0 run = point_at server h0 run (length (output_lines run))

-- past what there is of the line that is begun: an answer counts from its first byte on,
-- a notice when its line is whole
abbrev pub past_begun : List ℕ → List (List ℕ) → Point → List ℕ → Point
past_begun server inputs p out = if is_answer out then past_line server inputs p out else p

-- the acknowledged history
abbrev pub acknowledged : List ℕ → History → Run → History
acknowledged server h0 run = (past_begun server (input_lines run) (point_now server h0 run) (begun run)).history

-- how many answers were begun
abbrev pub answers_begun : Run → ℕ
answers_begun run = count_by is_answer (lines_until true run.output)

-- the history after each of these lines is answered, one behind another
abbrev pub after_lines : List ℕ → History → List (List ℕ) → History
after_lines server h [] = h
after_lines server h (line ∷ lines) = after_lines server (after server h line) lines

-- the run after the sink took more
abbrev pub told : Run → List ℕ → Run
told run out = record run { output = run.output ++ out }

-- the run, ended with this exit status
abbrev pub halted : Run → ℕ → Run
halted run status = record run { status = Some status }
