-- How a line is answered: ours.
use Rattle.std.specs.Prelude.{◌≡◌, ℕ, List, ◌++◌, Option, None, Some}
use Rattle.mx_records.specs.History.{History}
use Rattle.mx_records.specs.Snapshot.{Snapshot}
use Rattle.mx_lines.specs.declared.command.Command.{Command}
use Rattle.mx_lines.specs.declared.command.Command.TheVariants.{Input, Counts, Rules}
use Rattle.mx_lines.specs.declared.cut.Cut.{Cut}
use Rattle.mx_lines.specs.declared.cut.Cut.TheVariants.{Line, TooLong, More}
use Rattle.mx_lines.specs.Lines.{with_feed}
use Rattle.mx_lines.specs.Admission.{Admission, after, after_admission, reply_by}
use Rattle.mx_lines.specs.Replies.{reply_text}
use Rattle.mx_store.specs.Store.{Knows}
use Rattle.push_server.specs.declared.answer.AnswerError.{AnswerError}
use Rattle.push_server.specs.declared.answer.AnswerError.TheVariants as answer
use Rattle.push_server.specs.declared.halt.Halt.{Halt}
use Rattle.push_server.specs.declared.halt.Halt.TheVariants as halt

-- A line with this admission is answered: its reply comes to the end of what was written, and the state goes on with
-- the history.
pub record IsAnswered (server : List ℕ) (h : History) (admission : Admission) (shown : Snapshot)
    (before now : List ℕ) : Type 0 where
  pub text : now ≡ before ++ with_feed (reply_text (reply_by server h admission))
  pub history : Knows server shown (after_admission h admission)

-- the history after the line that a cut shows
abbrev pub after_cut : List ℕ → History → Cut → History
after_cut server h (Line bytes) = after server h bytes.now
after_cut server h TooLong = h
after_cut server h More = h

-- the user whom a question is about
abbrev pub asked_user : Command → Option (List ℕ)
asked_user (Input input) = None
asked_user (Counts user room threads) = Some user
asked_user (Rules user) = Some user

-- why the answering of lines ends where a line can't be answered
abbrev pub halt_of : AnswerError → Halt
halt_of answer.DiskFault = halt.DiskFault
halt_of answer.OutOfMemory = halt.OutOfMemory
