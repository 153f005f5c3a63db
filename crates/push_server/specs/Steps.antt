-- What one step of a run leaves: ours.
use Rattle.std.specs.Prelude.{◌≡◌, ℕ, ◌<◌, List, [], length, slice_get, Some, Result, Ok, Err}
use Rattle.mx_lines.specs.declared.cut.Cut.{Cut}
use Rattle.mx_lines.specs.declared.cut.Cut.TheVariants.{Line, TooLong, More}
use Rattle.mx_lines.specs.Lines.{lines_of}
use Rattle.mx_lines.specs.Cutting.{longest_line, Held, HasGiven}
use Rattle.mx_records.specs.History.{History}
use Rattle.mx_records.specs.Snapshot.{Snapshot}
use Rattle.mx_store.specs.Store.{Knows}
use Rattle.push_server.specs.declared.halt.Halt.{Halt}
use Rattle.mx_lines.specs.Admission.{admission_of}
use Rattle.push_server.specs.Answered.{IsAnswered}
use Rattle.push_server.specs.Headline.{HaltsAt}
use Rattle.mx_lines.specs.Runs.{Run, input_lines, point_now, told, halted}
use Rattle.mx_lines.specs.Laws.{Agrees, IsLawful, EachAnswered}

-- after the run the state stands for its history, and so many lines have their answer
pub record GoesOn (server : List ℕ) (h0 : History) (run : Run) (stands : History → Type 0) (answered : ℕ) : Type 0 where
  pub now : History
  pub agrees : Agrees server h0 run now
  pub stands_for : stands now
  pub count : (point_now server h0 run).answered ≡ answered

-- the line that a cut shows is answered; where it shows none, nothing changes
abbrev pub AnswersCut : List ℕ → History → Cut → Snapshot → List ℕ → List ℕ → Type 0
AnswersCut server h (Line bytes) shown before now =
    IsAnswered server h (admission_of server h bytes.now) shown before now
AnswersCut server h TooLong shown before now =
    (line : List ℕ) → longest_line < length line → IsAnswered server h (admission_of server h line) shown before now
AnswersCut server h More shown before now = Knows server shown h × (now ≡ before)

-- a line that the cut shows is the one after the first of these lines, so many
abbrev pub ShowsNext : Cut → List (List ℕ) → ℕ → Type 0
ShowsNext (Line bytes) lines count = slice_get lines count ≡ Some bytes.now
ShowsNext TooLong lines count = (line : List ℕ) × (slice_get lines count ≡ Some line) × (longest_line < length line)
ShowsNext More lines count = Unit {0}

-- the run may end where it is
abbrev pub MayEnd : List ℕ → History → Run → Type 0
MayEnd server h0 run = (status : ℕ) → IsLawful server h0 (halted run status)

-- the run is lawful where the answering halted, and this is said of what a stop leaves
pub record IsHalted (error : Halt) (server : List ℕ) (h0 : History) (run : Run) (leaves : Run → Type 0) : Type 0 where
  pub may_end : MayEnd server h0 run
  pub halts : HaltsAt error server h0 run
  pub left : leaves run

-- a step wrote `out`: after it so many lines have their answer, or it halted
abbrev pub StepsTo : {T : Type 0} → List ℕ → History → Run → ℕ → Result T Halt → (History → Type 0) → (Run → Type 0)
    → List ℕ → Type 0
StepsTo server h0 run answered (Ok value) stands leaves out = GoesOn server h0 (told run out) stands answered
StepsTo server h0 run answered (Err error) stands leaves out = IsHalted error server h0 (told run out) leaves

-- of these bytes each line that was cut has its answer, and the rest is held
pub record AnswersUpTo (bytes : List ℕ) (server : List ℕ) (h0 : History) (run : Run) (stands : History → Type 0)
    (held : Held) : Type 0 where
  pub answered : ℕ
  pub goes_on : GoesOn server h0 run stands answered
  pub given : HasGiven held (lines_of bytes) answered

-- the answers to the lines of a piece wrote `out`: all of them, or the answering halted
abbrev pub AnswersPiece : {T : Type 0} → List ℕ → History → Run → Result T Halt → (History → Type 0) → (Run → Type 0)
    → Held → List ℕ → Type 0
AnswersPiece server h0 run (Ok value) stands leaves held out =
    AnswersUpTo run.input server h0 (told run out) stands held
AnswersPiece server h0 run (Err error) stands leaves held out = IsHalted error server h0 (told run out) leaves

-- each line has its whole answer, the run may end, and this is said of what a stop leaves
pub record IsAllAnswered (server : List ℕ) (h0 : History) (run : Run) (leaves : Run → Type 0) : Type 0 where
  pub may_end : MayEnd server h0 run
  pub each : EachAnswered server h0 run
  pub left : leaves run

-- the answer to the last line wrote `out`, or the answering halted
abbrev pub AnswersAll : {T : Type 0} → List ℕ → History → Run → Result T Halt → (Run → Type 0) → List ℕ → Type 0
AnswersAll server h0 run (Ok value) leaves out = IsAllAnswered server h0 (told run out) leaves
AnswersAll server h0 run (Err error) leaves out = IsHalted error server h0 (told run out) leaves
