-- Whether and how a line is admitted, what is replied to it, and the history after it: ours.
use Rattle.std.specs.Prelude.{◌≡◌, ℕ, true, List, length, nat_lt, Option, Some, None, Result, Ok, Err, if◌then◌else◌}
use Rattle.std.specs.Option.{option_map_or}
use Rattle.mx_records.specs.declared.refusal.Refusal.{Refusal}
use Rattle.mx_records.specs.declared.refusal.Refusal.TheVariants.{NotLocal}
use Rattle.mx_json.specs.declared.value.Json.{Json}
use Rattle.mx_records.specs.History.{History, with_input, position_after}
use Rattle.mx_records.specs.Counting.{counts_of, room_counts_of, threads_of}
use Rattle.mx_records.specs.Refusing.{refusal_of}
use Rattle.mx_json.specs.Ids.{is_local}
use Rattle.mx_records.specs.Rules.{rules_of}
use Rattle.mx_rule.specs.Printed.{rules_object}
use Rattle.mx_lines.specs.declared.command.Command.{Command}
use Rattle.mx_lines.specs.declared.command.Command.TheVariants.{Input, Counts, Rules}
use Rattle.mx_lines.specs.declared.command.LineRefusal.{LineRefusal}
use Rattle.mx_lines.specs.declared.command.Denial.{Denial}
use Rattle.mx_lines.specs.declared.command.Denial.TheVariants.{TooLong, Line, Input as Refused}
use Rattle.mx_lines.specs.Cutting.{longest_line}
use Rattle.mx_lines.specs.Commands.{command_of}
use Rattle.mx_lines.specs.Replies.{ok_value, denied_value, by_thread, counts_value, reply_text}

-- What is to be done about a line: its command is followed, or it is denied.
abbrev pub Admission : Type 0
Admission = Result Command Denial

-- why this server answers no question of the user: the user isn't local
abbrev pub refusal_of_user : List ℕ → List ℕ → Option Refusal
refusal_of_user server user = if is_local server user then None else Some NotLocal

-- why the history refuses a command: an input as it says, a question whose user isn't local
abbrev pub refusal_to : List ℕ → History → Command → Option Refusal
refusal_to server h (Input input) = refusal_of server h input
refusal_to server h (Counts user room threads) = refusal_of_user server user
refusal_to server h (Rules user) = refusal_of_user server user

-- a command that the history doesn't refuse is followed
abbrev pub unless_refused : Command → Option Refusal → Admission
unless_refused command refusal = option_map_or (λ why. Err (Refused why)) refusal (Ok command)

-- the admission of a line by what it is read as
abbrev pub admission_by : List ℕ → History → Result Command LineRefusal → Admission
admission_by server h (Ok command) = unless_refused command (refusal_to server h command)
admission_by server h (Err refusal) = Err (Line refusal)

-- The admission of a line is its command, or the first refusal that applies. Its length is looked
-- at first.
unfoldable pub admission_of : List ℕ → History → List ℕ → Admission
admission_of server h line =
    if nat_lt longest_line (length line) then Err TooLong
    else admission_by server h (command_of line)

-- the history after this admission
abbrev pub after_admission : History → Admission → History
after_admission h (Ok (Input input)) = with_input h input
after_admission h (Ok (Counts user room threads)) = h
after_admission h (Ok (Rules user)) = h
after_admission h (Err denial) = h

-- The history after a line is answered: an accepted input comes to its end.
unfoldable pub after : List ℕ → History → List ℕ → History
after server h line = after_admission h (admission_of server h line)

-- what is replied to a command that is followed
abbrev pub reply_to : List ℕ → History → Command → Json
reply_to server h (Input input) = ok_value (position_after h)
reply_to server h (Counts user room threads) =
    if threads then by_thread (counts_of server h user room) (threads_of server h user room)
    else counts_value (room_counts_of server h user room)
reply_to server h (Rules user) = rules_object (rules_of server h user)

-- what is replied to a line of this admission
abbrev pub reply_by : List ℕ → History → Admission → Json
reply_by server h (Ok command) = reply_to server h command
reply_by server h (Err denial) = denied_value denial

-- The reply to a line, without its line feed, is computed from the history before it.
unfoldable pub reply : List ℕ → History → List ℕ → List ℕ
reply server h line = reply_text (reply_by server h (admission_of server h line))

-- the command is a question that this server answers: its user is local
abbrev pub IsQuestion : List ℕ → Command → Type 0
IsQuestion server (Input input) = ⊥
IsQuestion server (Counts user room threads) = is_local server user ≡ true
IsQuestion server (Rules user) = is_local server user ≡ true
