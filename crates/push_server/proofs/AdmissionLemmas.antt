-- Lemmas on the admission of a line and its answer.
use Rattle.std.proofs.Common.{◌≡◌, ℕ, ◌<◌, ◌≤◌, Bool, true, false, cond, List, ◌++◌, Result, Ok, Err, Option, None}
use Rattle.std.proofs.Common.{Some, is_some, Bor, OnOk, length, nat_lt, refl, ap, sym, ◌∙◌, subst, arith}
use Rattle.std.proofs.lemmas.Bool.Decides.{nat_tests}
use Rattle.mx_records.specs.History.{History}
use Rattle.mx_json.specs.Ids.{is_local}
use Rattle.mx_records.specs.declared.refusal.Refusal.TheVariants.{NotLocal}
use Rattle.mx_records.specs.Snapshot.{Snapshot}
use Rattle.mx_store.specs.Store.{Knows}
use Rattle.mx_lines.specs.declared.command.Command.{Command}
use Rattle.mx_lines.specs.declared.command.Command.TheVariants.{Input as InputCommand, Counts, Rules}
use Rattle.mx_lines.specs.declared.command.LineRefusal.{LineRefusal}
use Rattle.mx_lines.specs.declared.cut.Cut.TheVariants.{TooLong as LongCut}
use Rattle.mx_lines.specs.declared.command.Denial.{Denial}
use Rattle.mx_lines.specs.declared.command.Denial.TheVariants.{TooLong, Line, Input}
use Rattle.mx_lines.specs.Commands.{command_of}
use Rattle.mx_lines.specs.Cutting.{longest_line}
use Rattle.mx_lines.specs.Lines.{with_feed}
use Rattle.mx_lines.specs.Replies.{denied_value, reply_text}
use Rattle.mx_lines.specs.Admission.{Admission, admission_of, admission_by, unless_refused, after_admission, reply_to}
use Rattle.mx_lines.specs.Admission.{reply_by, reply, after, IsQuestion}
use Rattle.push_server.specs.Answered.{asked_user, IsAnswered}
use Rattle.push_server.specs.Steps.{AnswersCut}

-- ---- questions

located : {A : Type 0} (a b : A) → Some a ≡ Some b → a ≡ b
located a b is = cc

-- a question is followed where its user is local, and refused else
admission_by-question : (server : List ℕ) (h : History) (command : Command) (user : List ℕ) (is : Bool)
    → asked_user command ≡ Some user → is_local server user ≡ is
    → admission_by server h (Ok command) ≡ unless_refused command (cond is None (Some NotLocal))
admission_by-question server h (InputCommand input) user is about test = absurd cc
admission_by-question server h (Counts of room threads) user is about test =
    ap (λ (b : Bool). unless_refused (Counts of room threads) (cond b None (Some NotLocal)))
    (ap (is_local server) (located of user about) ∙ test)
admission_by-question server h (Rules of) user is about test =
    ap (λ (b : Bool). unless_refused (Rules of) (cond b None (Some NotLocal)))
    (ap (is_local server) (located of user about) ∙ test)

-- a question about a user who isn't local is refused
pub admission_by-remote : (server : List ℕ) (h : History) (command : Command) (user : List ℕ)
    → asked_user command ≡ Some user → is_local server user ≡ false
    → admission_by server h (Ok command) ≡ Err (Input NotLocal)
admission_by-remote server h command user about remote = admission_by-question server h command user false about remote

-- and one about a local user is followed
pub admission_by-local : (server : List ℕ) (h : History) (command : Command) (user : List ℕ)
    → asked_user command ≡ Some user → is_local server user ≡ true
    → admission_by server h (Ok command) ≡ Ok command
admission_by-local server h command user about local = admission_by-question server h command user true about local

-- a question of a local user is one that the server answers
pub is_question : (server : List ℕ) (command : Command) (user : List ℕ)
    → asked_user command ≡ Some user → is_local server user ≡ true → IsQuestion server command
is_question server (InputCommand input) user about local = absurd cc
is_question server (Counts of room threads) user about local = ap (is_local server) (located of user about) ∙ local
is_question server (Rules of) user about local = ap (is_local server) (located of user about) ∙ local

-- a question changes nothing
after-question : (h : History) (command : Command) (user : List ℕ) → asked_user command ≡ Some user
    → after_admission h (Ok command) ≡ h
after-question h (InputCommand input) user about = absurd cc
after-question h (Counts of room threads) user about = refl
after-question h (Rules of) user about = refl

by_test : {A : Type 0} (t u : Bool) (x y : A) → t ≡ u → cond t x y ≡ cond u x y
by_test t u x y same = ap (λ (b : Bool). cond b x y) same

-- a line that is too long is refused as such
pub admission_of-long : (server : List ℕ) (h : History) (line : List ℕ) → longest_line < length line
    → admission_of server h line ≡ Err TooLong
unfolding admission_of
admission_of-long server h line long =
    by_test (nat_lt longest_line (length line)) true (Err TooLong) (admission_by server h (command_of line))
    (grind (arith, nat_tests))

-- the admission of another line is that of what it is read as
pub admission_of-read : (server : List ℕ) (h : History) (line : List ℕ) (read : Result Command LineRefusal)
    → length line ≤ longest_line
    → command_of line ≡ read → admission_of server h line ≡ admission_by server h read
unfolding admission_of
admission_of-read server h line read short is =
    by_test (nat_lt longest_line (length line)) false (Err TooLong) (admission_by server h (command_of line))
    (grind (arith, nat_tests))
    ∙ ap (admission_by server h) is

-- an answer with an admission that is this one
pub answered_as : {T E : Type 0} (result : Result T E) (server : List ℕ) (h : History) (admission other : Admission)
    (shown : Snapshot) (before now : List ℕ)
    → admission ≡ other → OnOk result (IsAnswered server h other shown before now)
    → OnOk result (IsAnswered server h admission shown before now)
answered_as result server h admission other shown before now same answered =
    subst (λ (v : Admission). OnOk result (IsAnswered server h v shown before now)) (sym same) answered

-- a refusal changes nothing
pub answered_denied : {T E : Type 0} (result : Result T E) (server : List ℕ) (h : History) (denial : Denial)
    (shown : Snapshot) (before now : List ℕ)
    → Knows server shown h → OnOk result (now ≡ before ++ with_feed (reply_text (denied_value denial)))
    → OnOk result (IsAnswered server h (Err denial) shown before now)
answered_denied (Ok value) server h denial shown before now stands text = record { text = text; history = stands }
answered_denied (Err error) server h denial shown before now stands text = tt

-- an answer to a question changes nothing
pub answered_question : {T E : Type 0} (result : Result T E) (server : List ℕ) (h : History) (command : Command)
    (user : List ℕ) (shown : Snapshot) (before now : List ℕ)
    → asked_user command ≡ Some user → Knows server shown h
    → OnOk result (now ≡ before ++ with_feed (reply_text (reply_to server h command)))
    → OnOk result (IsAnswered server h (Ok command) shown before now)
answered_question (Ok value) server h command user shown before now about stands text =
    record { text = text; history = subst (Knows server shown) (sym (after-question h command user about)) stands }
answered_question (Err error) server h command user shown before now about stands text = tt

-- a line that is too long leaves the history as it was
pub after-long : (server : List ℕ) (h : History) (line : List ℕ) → longest_line < length line → after server h line ≡ h
unfolding after
after-long server h line long = ap (after_admission h) (admission_of-long server h line long)

-- what was done about a line, in the words of the history
pub reply-answered : (server line : List ℕ) (h : History) (shown : Snapshot) (before now : List ℕ)
    → IsAnswered server h (admission_of server h line) shown before now
    → now ≡ before ++ with_feed (reply server h line)
unfolding reply
reply-answered server line h shown before now answered = answered.text

pub after-answered : (server line : List ℕ) (h : History) (shown : Snapshot) (before now : List ℕ)
    → IsAnswered server h (admission_of server h line) shown before now → Knows server shown (after server h line)
unfolding after
after-answered server line h shown before now answered = answered.history

IsAnswered-too_long : (server : List ℕ) (h : History) (shown : Snapshot) (before now line : List ℕ)
    → longest_line < length line
    → Knows server shown h → now ≡ before ++ with_feed (reply_text (denied_value TooLong))
    → IsAnswered server h (admission_of server h line) shown before now
IsAnswered-too_long server h shown before now line long stands text =
    rw (admission_of-long server h line long) (record { text = text; history = stands })

-- ---- the history after a line

-- a line that isn't too long, by what it is read as
pub after-read : (server : List ℕ) (h : History) (line : List ℕ) (read : Result Command LineRefusal)
    → length line ≤ longest_line → command_of line ≡ read
    → after server h line ≡ after_admission h (admission_by server h read)
unfolding after
after-read server h line read short is = ap (after_admission h) (admission_of-read server h line read short is)

-- a question, answered or refused, leaves the history as it was
pub after-asked : (server : List ℕ) (h : History) (command : Command) (user : List ℕ)
    → asked_user command ≡ Some user → after_admission h (admission_by server h (Ok command)) ≡ h
after-asked server h command user about = by_local (is_local server user) refl
  where
    by_local : (is : Bool) → is_local server user ≡ is
        → after_admission h (admission_by server h (Ok command)) ≡ h
    by_local true local =
        ap (after_admission h) (admission_by-local server h command user about local)
        ∙ after-question h command user about
    by_local false remote = ap (after_admission h) (admission_by-remote server h command user about remote)

-- what is said of every line that is too long
pub answered_too_long : {T E : Type 0} (result : Result T E) (server : List ℕ) (h : History) (shown : Snapshot)
    (before now : List ℕ)
    → Knows server shown h → OnOk result (now ≡ before ++ with_feed (reply_text (denied_value TooLong)))
    → OnOk result (AnswersCut server h LongCut shown before now)
answered_too_long (Ok value) server h shown before now stands text =
    λ line long. IsAnswered-too_long server h shown before now line long stands text
answered_too_long (Err error) server h shown before now stands text = tt
