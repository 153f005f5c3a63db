-- Lemmas on whole calls of the server.
use Rattle.std.proofs.Common.{◌≡◌, ℕ, ◌+◌, ◌-◌, ◌<◌, ◌≤◌, ◌⊎◌, Bool, true, false, List, [], ◌++◌, Option, Some, None}
use Rattle.std.proofs.Common.{Result, Ok, Err, length, take, refl, sym, ap, subst, ◌∙◌, inl, inr, arith, append_assoc}
use Rattle.std.proofs.Common.{length-append}
use Rattle.std.proofs.lemmas.Bool.{false≢true}
use Rattle.std.proofs.lemmas.List.{append-nil, length-take-le}
use Rattle.mx_outside.specs.declared.source.Got.TheVariants as got
use Rattle.mx_outside.specs.Outside.{GivesBytes}
use Rattle.mx_outside.specs.Told.{WhereTold, Writes}
use Rattle.mx_outside.proofs.Told.{WhereTold-at, WhereTold-then}
use Rattle.mx_lines.specs.Lines.{lines_of}
use Rattle.mx_lines.specs.Cutting.{Held, nothing_held}
use Rattle.mx_lines.proofs.CuttingLemmas.{HasGiven-start}
use Rattle.mx_records.specs.History.{History}
use Rattle.push_server.specs.declared.answer.AnswerError.{AnswerError}
use Rattle.push_server.specs.declared.answer.AnswerError.TheVariants as answer
use Rattle.mx_store.specs.declared.error.StoreError.{StoreError}
use Rattle.mx_store.specs.declared.error.StoreError.TheVariants as store
use Rattle.push_server.specs.Answered.{halt_of}
use Rattle.push_server.specs.declared.halt.Halt.{Halt}
use Rattle.push_server.specs.declared.halt.Halt.TheVariants as halt
use Rattle.push_server.specs.declared.status.Status.{Status}
use Rattle.push_server.specs.declared.status.Status.TheVariants as ending
use Rattle.push_server.specs.Status.{code_of, status_of}
use Rattle.mx_lines.specs.Runs.{Run, point_of, point_now, begun, halted}
use Rattle.mx_lines.specs.Laws.{WholeLaws, Agrees}
use Rattle.mx_lines.proofs.AcknowledgedLemmas.{acknowledged-lawful}
use Rattle.push_server.specs.Crash.{LeavesSince, Start}
use Rattle.push_server.specs.Steps.{MayEnd, IsHalted, AnswersUpTo, AnswersPiece, AnswersAll}
use Rattle.push_server.specs.Headline.{EndsOn, EndsWell, HasLawfulRun}
use Rattle.mx_lines.proofs.LawsLemmas.{IsLawful-whole}
use Rattle.push_server.proofs.StepLemmas.{HaltsAt-nothing}
use Rattle.push_server.proofs.SessionLemmas.{AnswersUpTo-fed, AnswersUpTo-at_end, IsAllAnswered-going, LeavesStanding}

-- no halt gives the status of words that are wrong, of a source that failed or of the limit
pub not_usage : (error : Halt) → status_of error ≡ ending.Usage → ⊥
not_usage halt.OutOfMemory is = cc
not_usage halt.DiskFault is = cc
not_usage halt.WriteFault is = cc

pub not_opened : (error : Halt) → status_of error ≡ ending.NotAJournal → ⊥
not_opened halt.OutOfMemory is = cc
not_opened halt.DiskFault is = cc
not_opened halt.WriteFault is = cc

pub not_read_fault : (error : Halt) → status_of error ≡ ending.ReadFault → ⊥
not_read_fault halt.OutOfMemory is = cc
not_read_fault halt.DiskFault is = cc
not_read_fault halt.WriteFault is = cc

pub not_limit : (error : Halt) → status_of error ≡ ending.InputLimit → ⊥
not_limit halt.OutOfMemory is = cc
not_limit halt.DiskFault is = cc
not_limit halt.WriteFault is = cc

pub write_fault : (error : Halt) → status_of error ≡ ending.WriteFault → error ≡ halt.WriteFault
write_fault halt.OutOfMemory is = cc
write_fault halt.DiskFault is = cc
write_fault halt.WriteFault is = refl

pub disk_fault : (error : Halt) → status_of error ≡ ending.DiskFault → error ≡ halt.DiskFault
disk_fault halt.OutOfMemory is = cc
disk_fault halt.DiskFault is = refl
disk_fault halt.WriteFault is = cc

-- what is left where no other status may be
pub only_memory : (status : Status) → (status ≡ ending.Usage → ⊥) → (status ≡ ending.ReadFault → ⊥)
    → (status ≡ ending.WriteFault → ⊥) → (status ≡ ending.DiskFault → ⊥) → (status ≡ ending.NotAJournal → ⊥)
    → (status ≡ ending.InputLimit → ⊥) → (status ≡ ending.Done) ⊎ (status ≡ ending.OutOfMemory)
only_memory ending.Done usage read write disk journal limit = inl refl
only_memory ending.Usage usage read write disk journal limit = absurd (usage refl)
only_memory ending.ReadFault usage read write disk journal limit = absurd (read refl)
only_memory ending.WriteFault usage read write disk journal limit = absurd (write refl)
only_memory ending.DiskFault usage read write disk journal limit = absurd (disk refl)
only_memory ending.NotAJournal usage read write disk journal limit = absurd (journal refl)
only_memory ending.OutOfMemory usage read write disk journal limit = inr refl
only_memory ending.InputLimit usage read write disk journal limit = absurd (limit refl)

-- what is left where the journal has a fault
pub no_other : (status : Status)
    → (status ≡ ending.NotAJournal) ⊎ ((status ≡ ending.OutOfMemory)
    ⊎ ((status ≡ ending.WriteFault) ⊎ (status ≡ ending.DiskFault)))
    → (status ≡ ending.WriteFault → ⊥) → (status ≡ ending.DiskFault → ⊥)
    → (status ≡ ending.NotAJournal) ⊎ (status ≡ ending.OutOfMemory)
no_other status (inl journal) write disk = inl journal
no_other status (inr (inl memory)) write disk = inr memory
no_other status (inr (inr (inl is))) write disk = absurd (write is)
no_other status (inr (inr (inr is))) write disk = absurd (disk is)

pub only_journal : (status : Status) → (status ≡ ending.Done → ⊥) → (status ≡ ending.Usage → ⊥)
    → (status ≡ ending.ReadFault → ⊥) → (status ≡ ending.WriteFault → ⊥) → (status ≡ ending.DiskFault → ⊥)
    → (status ≡ ending.InputLimit → ⊥) → (status ≡ ending.NotAJournal) ⊎ (status ≡ ending.OutOfMemory)
only_journal ending.Done done usage read write disk limit = absurd (done refl)
only_journal ending.Usage done usage read write disk limit = absurd (usage refl)
only_journal ending.ReadFault done usage read write disk limit = absurd (read refl)
only_journal ending.WriteFault done usage read write disk limit = absurd (write refl)
only_journal ending.DiskFault done usage read write disk limit = absurd (disk refl)
only_journal ending.NotAJournal done usage read write disk limit = inl refl
only_journal ending.OutOfMemory done usage read write disk limit = inr refl
only_journal ending.InputLimit done usage read write disk limit = absurd (limit refl)

-- ---- what was read

-- so much of the limit is left after the bytes that were taken
abbrev pub HasTaken : ℕ → ℕ → List ℕ → List ℕ → Type 0
HasTaken limit budget old new = (input : List ℕ) × (old ≡ input ++ new) × (length input + budget ≡ limit)

pub HasTaken-nothing : (limit : ℕ) (a : Option (List ℕ)) → WhereTold a a (HasTaken limit limit)
HasTaken-nothing limit None = tt
HasTaken-nothing limit (Some left) = ([], refl, omega arith)

took_more : (limit budget count : ℕ) (into x y z : List ℕ) → count ≤ length into → count ≤ budget
    → HasTaken limit budget x y → y ≡ take count into ++ z
    → HasTaken limit (budget - count) x z
took_more limit budget count into x y z within fits had is =
    let size = length-take-le count into within in (
      had.0 ++ take count into,
      had.1 ∙ ap (λ (rest : List ℕ). had.0 ++ rest) is ∙ sym (append_assoc had.0 (take count into) z),
      omega (arith, had.2, size, fits, length-append had.0 (take count into)),
    )

pub HasTaken-more : (limit budget count : ℕ) (into : List ℕ) (a b c : Option (List ℕ)) → count ≤ length into
    → count ≤ budget
    → WhereTold a b (HasTaken limit budget) → WhereTold b c (GivesBytes (got.Bytes count) into)
    → WhereTold a c (HasTaken limit (budget - count))
HasTaken-more limit budget count into a b c within fits had gives =
    WhereTold-then _ _ _ a b c had gives (λ x y z p q. took_more limit budget count into x y z within fits p q)

pub limit_reached : (limit budget : ℕ) (left : List ℕ) (a b : Option (List ℕ)) → a ≡ Some left → budget ≤ 0
    → WhereTold a b (HasTaken limit budget) → limit ≤ length left
limit_reached limit budget left a b is none had =
    let t = WhereTold-at _ a b left had is in
    omega (arith, none, t.2.2, ap length t.2.1, length-append t.2.0 t.0)

-- ---- the run of a call

-- the run that took this input and wrote this output
abbrev pub run_of : Bool → List ℕ → List ℕ → Run
run_of ended input output = record { input = input; ended = ended; output = output; status = None }

-- the run of a call so far: all that was taken is answered, as far as lines ended
pub record Running (limit budget : ℕ) (server : List ℕ) (h0 : History) (left : List ℕ) (left_now : Option (List ℕ))
    (before : List ℕ) (taken_now : Option (List ℕ)) (stands : History → Type 0) (held : Held) : Type 0 where
  pub input : List ℕ
  pub output : List ℕ
  pub rest : List ℕ
  pub left_told : left_now ≡ Some rest
  pub taken_told : taken_now ≡ Some (before ++ output)
  pub front : left ≡ input ++ rest
  pub count : length input + budget ≡ limit
  pub answers : AnswersUpTo input server h0 (run_of false input output) stands held

WholeLaws-start : (server : List ℕ) (h0 : History) → WholeLaws server h0 (run_of false [] [])
unfolding lines_of
WholeLaws-start server h0 k out at = cc

begun-start : begun (run_of false [] []) ≡ []
unfolding lines_of
begun-start = refl

history-start : (server : List ℕ) (h0 : History) → (point_now server h0 (run_of false [] [])).history ≡ h0
unfolding lines_of point_of
history-start server h0 = refl

answered-start : (server : List ℕ) (h0 : History) → (point_now server h0 (run_of false [] [])).answered ≡ 0
unfolding lines_of point_of
answered-start server h0 = refl

pub Agrees-start : (server : List ℕ) (h0 : History) → Agrees server h0 (run_of false [] []) h0
Agrees-start server h0 = record {
  whole = WholeLaws-start server h0;
  at_line_end = begun-start;
  history = history-start server h0;
}

pub Running-starts : (limit : ℕ) (server : List ℕ) (h0 : History) (left before : List ℕ) (a k : Option (List ℕ))
    (stands : History → Type 0) (held : Held) → a ≡ Some left → k ≡ Some before → stands h0 → held ≡ nothing_held
    → Running limit limit server h0 left a before k stands held
Running-starts limit server h0 left before a k stands held left_told taken_told stands_for empty = record {
  input = [];
  output = [];
  rest = left;
  left_told = left_told;
  taken_told = taken_told ∙ ap Some (sym (append-nil before));
  front = refl;
  count = omega arith;
  answers = record {
    answered = 0;
    goes_on = record {
      now = h0;
      agrees = Agrees-start server h0;
      stands_for = stands_for;
      count = answered-start server h0;
    };
    given = rw empty HasGiven-start;
  };
}

-- what the call that answers a piece says, from one history at the start
abbrev pub PieceExtends : {T : Type 0} → List ℕ → History → List ℕ → (History → Type 0) → Held → Result T Halt
    → (History → Type 0) → (Run → Type 0) → Held → Option (List ℕ) → Option (List ℕ) → Type 0
PieceExtends server h0 piece old held result new leaves next k l =
    (run : Run) (bytes : List ℕ) → run.input ≡ bytes ++ piece → AnswersUpTo bytes server h0 run old held
    → Writes k l (AnswersPiece server h0 run result new leaves next)

-- the same of a server's name that is equal
pub PieceExtends-server : {T : Type 0} (server other : List ℕ) (h0 : History) (piece : List ℕ)
    (old : History → Type 0) (held : Held) (result : Result T Halt) (new : History → Type 0)
    (leaves : List ℕ → Run → Type 0) (next : Held) (k l : Option (List ℕ)) → server ≡ other
    → PieceExtends server h0 piece old held result new (leaves server) next k l
    → PieceExtends other h0 piece old held result new (leaves other) next k l
PieceExtends-server server other h0 piece old held result new leaves next k l same extends =
    subst (λ (name : List ℕ). PieceExtends name h0 piece old held result new (leaves name) next k l) same extends

-- the run with the piece, and what the answers to it wrote
record PieceRun {T : Type 0} (limit budget count : ℕ) (server : List ℕ) (h0 : History) (left : List ℕ)
    (left_now : Option (List ℕ)) (before : List ℕ) (taken_now : Option (List ℕ)) (result : Result T Halt)
    (new : History → Type 0) (leaves : Run → Type 0) (next : Held) : Type 0 where
  input : List ℕ
  written : List ℕ
  out : List ℕ
  rest : List ℕ
  left_told : left_now ≡ Some rest
  taken_told : taken_now ≡ Some (before ++ (written ++ out))
  front : left ≡ input ++ rest
  budget_left : length input + (budget - count) ≡ limit
  answers : AnswersPiece server h0 (run_of false input written) result new leaves next out

PieceRun-of : {T : Type 0} (result : Result T Halt) (limit budget count : ℕ) (server : List ℕ) (h0 : History)
    (left before into : List ℕ) (a b k l : Option (List ℕ)) (old new : History → Type 0) (leaves : Run → Type 0)
    (held next : Held) → Running limit budget server h0 left a before k old held → count ≤ length into → count ≤ budget
    → WhereTold a b (GivesBytes (got.Bytes count) into)
    → PieceExtends server h0 (take count into) old held result new leaves next k l
    → PieceRun limit budget count server h0 left b before l result new leaves next
PieceRun-of result limit budget count server h0 left before into a b k l old new leaves held next running fits within
    gives extends =
    let piece = take count into in
    let t = WhereTold-at _ a b running.rest gives running.left_told in
    let up = AnswersUpTo-fed running.input server h0 (run_of false running.input running.output) piece old held refl
    running.answers in
    let w = extends (run_of false (running.input ++ piece) running.output) running.input refl up
    (before ++ running.output) running.taken_told in
    let size = length-take-le count into fits in
    record {
      input = running.input ++ piece;
      written = running.output;
      out = w.0;
      rest = t.0;
      left_told = t.1;
      taken_told = w.1 ∙ ap Some (append_assoc before running.output w.0);
      front = running.front ∙ ap (λ (later : List ℕ). running.input ++ later) t.2
          ∙ sym (append_assoc running.input piece t.0);
      budget_left = omega (arith, running.count, size, within, length-append running.input piece);
      answers = w.2;
    }

pub Running-piece : {T : Type 0} (value : T) (limit budget count : ℕ) (server : List ℕ) (h0 : History)
    (left before into : List ℕ) (a b k l : Option (List ℕ)) (old new : History → Type 0) (leaves : Run → Type 0)
    (held next : Held) → Running limit budget server h0 left a before k old held → count ≤ length into → count ≤ budget
    → WhereTold a b (GivesBytes (got.Bytes count) into)
    → PieceExtends server h0 (take count into) old held (Ok value) new leaves next k l
    → Running limit (budget - count) server h0 left b before l new next
Running-piece value limit budget count server h0 left before into a b k l old new leaves held next running fits within
    gives extends =
    let p =
    PieceRun-of (Ok value) limit budget count server h0 left before into a b k l old new leaves held next running
    fits within gives extends in
    record {
      input = p.input;
      output = p.written ++ p.out;
      rest = p.rest;
      left_told = p.left_told;
      taken_told = p.taken_told;
      front = p.front;
      count = p.budget_left;
      answers = p.answers;
    }

-- ---- how a call ends

-- what is said of a run stays said of it when it is halted
abbrev pub StaysHalted : (Run → Type 0) → Type 0
StaysHalted leaves = (run : Run) (status : ℕ) → leaves run → leaves (halted run status)

-- the lawful run of a call
HasLawfulRun-of : (limit : ℕ) (server : List ℕ) (h0 : History) (left before input output rest : List ℕ) (ended : Bool)
    (status : Status) (b l : Option (List ℕ)) (leaves : Run → Type 0) → b ≡ Some rest → l ≡ Some (before ++ output)
    → left ≡ input ++ rest → (ended ≡ true → rest ≡ []) → MayEnd server h0 (run_of ended input output)
    → EndsWell limit status server h0 (halted (run_of ended input output) (code_of status))
    → leaves (halted (run_of ended input output) (code_of status))
    → HasLawfulRun limit server h0 left b before l status leaves
HasLawfulRun-of limit server h0 left before input output rest ended status b l leaves left_told taken_told front none
    may_end well left_on = record {
      rest = rest;
      left_told = left_told;
      after = before ++ output;
      taken_told = taken_told;
      run = halted (run_of ended input output) (code_of status);
      is_run = record { input = front; ended = none; output = refl; status = refl };
      lawful = may_end (code_of status);
      ends_well = well;
      acknowledges = acknowledged-lawful server h0 (halted (run_of ended input output) (code_of status))
          (may_end (code_of status));
      left_on_disk = left_on;
    }

not_ended : (rest : List ℕ) → false ≡ true → rest ≡ []
not_ended rest e = absurd (false≢true e)

-- a halt ends a run well
EndsWell-halted : (error : Halt) (limit : ℕ) (server : List ℕ) (h0 : History) (input output : List ℕ) (ended : Bool)
    (leaves : Run → Type 0) → length input ≤ limit → (ended ≡ true → length input < limit)
    → IsHalted error server h0 (run_of ended input output) leaves
    → EndsWell limit (status_of error) server h0 (halted (run_of ended input output) (code_of (status_of error)))
EndsWell-halted halt.OutOfMemory limit server h0 input output ended leaves within below is_halted =
    (record { within = within; below = below }, is_halted.halts)
EndsWell-halted halt.DiskFault limit server h0 input output ended leaves within below is_halted =
    (record { within = within; below = below }, is_halted.halts)
EndsWell-halted halt.WriteFault limit server h0 input output ended leaves within below is_halted =
    (record { within = within; below = below }, is_halted.halts)

-- before anything was read, memory may have been wanting or the disk may have failed
pub HasLawfulRun-silent : (error : AnswerError) (limit : ℕ) (server : List ℕ) (h0 : History) (left before : List ℕ)
    (a k : Option (List ℕ)) (leaves : Run → Type 0) → a ≡ Some left → k ≡ Some before
    → StaysHalted leaves → leaves (run_of false [] [])
    → HasLawfulRun limit server h0 left a before k (status_of (halt_of error)) leaves
HasLawfulRun-silent error limit server h0 left before a k leaves left_told taken_told stays left_on =
    let agrees = Agrees-start server h0 in
    let may_end : MayEnd server h0 (run_of false [] []) =
    λ status. IsLawful-whole server h0 (run_of false [] []) status agrees.whole agrees.at_line_end in
    HasLawfulRun-of limit server h0 left before [] [] left false (status_of (halt_of error)) a k leaves left_told
    (taken_told ∙ ap Some (sym (append-nil before))) refl (not_ended left) may_end
    (EndsWell-halted (halt_of error) limit server h0 [] [] false leaves (omega arith) (λ e. absurd (false≢true e))
    (record {
      may_end = may_end;
      halts = HaltsAt-nothing error server h0 (run_of false [] []) h0 agrees;
      left = left_on;
    }))
    (stays (run_of false [] []) (code_of (status_of (halt_of error))) left_on)

-- where the answering of a piece halted
pub HasLawfulRun-halted : (T : Type 0) (error : Halt) (limit budget count : ℕ) (server : List ℕ) (h0 : History)
    (left before into : List ℕ) (a b k l : Option (List ℕ)) (old new : History → Type 0) (leaves : Run → Type 0)
    (held next : Held) → StaysHalted leaves → Running limit budget server h0 left a before k old held
    → count ≤ length into → count ≤ budget → WhereTold a b (GivesBytes (got.Bytes count) into)
    → PieceExtends {T = T} server h0 (take count into) old held (Err error) new leaves next k l
    → HasLawfulRun limit server h0 left b before l (status_of error) leaves
HasLawfulRun-halted T error limit budget count server h0 left before into a b k l old new leaves held next stays running
    fits within gives extends =
    let p =
    PieceRun-of {T = T} (Err error) limit budget count server h0 left before into a b k l old new leaves held next
    running fits within gives extends in
    let below : length p.input ≤ limit = omega (arith, p.budget_left) in
    let run = run_of false p.input (p.written ++ p.out) in
    HasLawfulRun-of limit server h0 left before p.input (p.written ++ p.out) p.rest false (status_of error) b l leaves
    p.left_told p.taken_told p.front (not_ended p.rest) p.answers.may_end
    (EndsWell-halted error limit server h0 p.input (p.written ++ p.out) false leaves below
    (λ e. absurd (false≢true e)) p.answers)
    (stays run (code_of (status_of error)) p.answers.left)

-- the status of the answer to the last line
abbrev pub last_status : {T : Type 0} → Result T Halt → Status
last_status (Ok value) = ending.Done
last_status (Err error) = status_of error

-- what the call that answers the last line says, from one history at the start
abbrev pub LastExtends : {T : Type 0} → List ℕ → History → (History → Type 0) → Held → Result T Halt → (Run → Type 0)
    → Option (List ℕ) → Option (List ℕ) → Type 0
LastExtends server h0 old held result leaves k l =
    (run : Run) → run.ended ≡ true → AnswersUpTo run.input server h0 run old held
    → Writes k l (AnswersAll server h0 run result leaves)

pub LastExtends-server : {T : Type 0} (server other : List ℕ) (h0 : History) (old : History → Type 0) (held : Held)
    (result : Result T Halt) (leaves : List ℕ → Run → Type 0) (k l : Option (List ℕ)) → server ≡ other
    → LastExtends server h0 old held result (leaves server) k l
    → LastExtends other h0 old held result (leaves other) k l
LastExtends-server server other h0 old held result leaves k l same extends =
    subst (λ (name : List ℕ). LastExtends name h0 old held result (leaves name) k l) same extends

MayEnd-last : {T : Type 0} (result : Result T Halt) (server : List ℕ) (h0 : History) (run : Run) (leaves : Run → Type 0)
    (out : List ℕ) → AnswersAll server h0 run result leaves out
    → MayEnd server h0 (record run { output = run.output ++ out })
MayEnd-last (Ok value) server h0 run leaves out answers = answers.may_end
MayEnd-last (Err error) server h0 run leaves out answers = answers.may_end

left-last : {T : Type 0} (result : Result T Halt) (server : List ℕ) (h0 : History) (run : Run) (leaves : Run → Type 0)
    (out : List ℕ) → AnswersAll server h0 run result leaves out → leaves (record run { output = run.output ++ out })
left-last (Ok value) server h0 run leaves out answers = answers.left
left-last (Err error) server h0 run leaves out answers = answers.left

EndsWell-last : {T : Type 0} (result : Result T Halt) (limit : ℕ) (server : List ℕ) (h0 : History)
    (input written out : List ℕ) (leaves : Run → Type 0) → length input < limit
    → AnswersAll server h0 (run_of true input written) result leaves out
    → EndsWell limit (last_status result) server h0
    (halted (run_of true input (written ++ out)) (code_of (last_status result)))
EndsWell-last (Ok value) limit server h0 input written out leaves below answers = (refl, below, answers.each)
EndsWell-last (Err error) limit server h0 input written out leaves below answers =
    EndsWell-halted error limit server h0 input (written ++ out) true leaves (omega arith) (λ e. below) answers

-- where the source ended
pub HasLawfulRun-last : {T : Type 0} (result : Result T Halt) (limit budget : ℕ) (server : List ℕ) (h0 : History)
    (left before into : List ℕ) (a b k l : Option (List ℕ)) (stands : History → Type 0) (leaves : Run → Type 0)
    (held : Held) → StaysHalted leaves → 0 < budget → Running limit budget server h0 left a before k stands held
    → WhereTold a b (GivesBytes got.End into) → LastExtends server h0 stands held result leaves k l
    → HasLawfulRun limit server h0 left b before l (last_status result) leaves
HasLawfulRun-last result limit budget server h0 left before into a b k l stands leaves held stays some running
    gives extends =
    let t = WhereTold-at _ a b running.rest gives running.left_told in
    let up = AnswersUpTo-at_end running.input server h0 (run_of false running.input running.output) stands held refl
    running.answers in
    let w = extends (run_of true running.input running.output) refl up (before ++ running.output) running.taken_told in
    let below : length running.input < limit = omega (arith, running.count, some) in
    let front : left ≡ running.input ++ t.0 =
    running.front ∙ ap (λ (later : List ℕ). running.input ++ later) (t.2.0 ∙ sym t.2.1) in
    let run = run_of true running.input running.output in
    HasLawfulRun-of limit server h0 left before running.input (running.output ++ w.0) t.0 true (last_status result) b l
    leaves t.1 (w.1 ∙ ap Some (append_assoc before running.output w.0)) front (λ e. t.2.1)
    (MayEnd-last result server h0 run leaves w.0 w.2)
    (EndsWell-last result limit server h0 running.input running.output w.0 leaves below w.2)
    (stays (run_of true running.input (running.output ++ w.0)) (code_of (last_status result))
    (left-last result server h0 run leaves w.0 w.2))

-- where the source failed
pub HasLawfulRun-failed : (limit budget : ℕ) (server : List ℕ) (h0 : History) (left before into : List ℕ)
    (a b k : Option (List ℕ)) (stands : History → Type 0) (leaves : Run → Type 0) (held : Held) → StaysHalted leaves
    → LeavesStanding server h0 stands leaves → 0 < budget → held.ended ≡ false
    → Running limit budget server h0 left a before k stands held → WhereTold a b (GivesBytes got.Failed into)
    → HasLawfulRun limit server h0 left b before k ending.ReadFault leaves
HasLawfulRun-failed limit budget server h0 left before into a b k stands leaves held stays standing some ready
    running gives =
    let t = WhereTold-at _ a b running.rest gives running.left_told in
    let run = run_of false running.input running.output in
    let all = IsAllAnswered-going server h0 run stands leaves held standing refl ready running.answers in
    let below : length running.input < limit = omega (arith, running.count, some) in
    let front : left ≡ running.input ++ t.0 =
    running.front ∙ ap (λ (later : List ℕ). running.input ++ later) (sym t.2) in
    HasLawfulRun-of limit server h0 left before running.input running.output t.0 false ending.ReadFault b k leaves t.1
    running.taken_told front (not_ended t.0) all.may_end (refl, below, all.each)
    (stays run (code_of ending.ReadFault) all.left)

-- where the limit was reached
pub HasLawfulRun-limit : (limit budget : ℕ) (server : List ℕ) (h0 : History) (left before : List ℕ)
    (a k : Option (List ℕ)) (stands : History → Type 0) (leaves : Run → Type 0) (held : Held) → StaysHalted leaves
    → LeavesStanding server h0 stands leaves → budget ≤ 0 → held.ended ≡ false
    → Running limit budget server h0 left a before k stands held
    → HasLawfulRun limit server h0 left a before k ending.InputLimit leaves
HasLawfulRun-limit limit budget server h0 left before a k stands leaves held stays standing none ready running =
    let run = run_of false running.input running.output in
    let all = IsAllAnswered-going server h0 run stands leaves held standing refl ready running.answers in
    let full : length running.input ≡ limit = omega (arith, running.count, none) in
    HasLawfulRun-of limit server h0 left before running.input running.output running.rest false ending.InputLimit a k
    leaves running.left_told running.taken_told running.front (not_ended running.rest) all.may_end
    (refl, full, all.each)
    (stays run (code_of ending.InputLimit) all.left)

-- where a store couldn't be opened for another cause than a fault of its journal
pub HasLawfulRun-unopened : (cause : StoreError) (status : Status) (limit : ℕ) (server : List ℕ) (h0 : History)
    (left before : List ℕ) (a k : Option (List ℕ)) (leaves : Run → Type 0) → EndsOn cause status
    → ((offset : ℕ) → cause ≡ store.NotAJournal offset → ⊥) → a ≡ Some left → k ≡ Some before → StaysHalted leaves
    → leaves (run_of false [] []) → HasLawfulRun limit server h0 left a before k status leaves
HasLawfulRun-unopened (store.NotAJournal offset) status limit server h0 left before a k leaves ends none left_told
    taken_told stays left_on =
    absurd (none offset refl)
HasLawfulRun-unopened store.DiskFault status limit server h0 left before a k leaves ends none left_told taken_told
    stays left_on =
    rw ends
    (HasLawfulRun-silent answer.DiskFault limit server h0 left before a k leaves left_told taken_told stays left_on)
HasLawfulRun-unopened store.OutOfMemory status limit server h0 left before a k leaves ends none left_told taken_told
    stays left_on =
    rw ends
    (HasLawfulRun-silent answer.OutOfMemory limit server h0 left before a k leaves left_told taken_told stays left_on)

-- ---- a disk that is lent

-- what is said of a run over a disk that was lent is said of the disk itself
pub lawful_lent : {L D : Type 0} (now : L → D) (may_leave : D → List ℕ → Type 0) (moment : D → ℕ)
    (left_since : D → ℕ → List ℕ → Type 0) (limit : ℕ) (server other : List ℕ) (h0 : History) (left before : List ℕ)
    (b l : Option (List ℕ)) (status : Status) (content : List ℕ) (first last : L) (disk : D) → other ≡ server
    → now last ≡ disk
    → HasLawfulRun limit other h0 left b before l status
    (LeavesSince (λ d. may_leave (now d)) (λ d. moment (now d)) (λ d. left_since (now d)) other last
    (record { disk = first; content = content; history = h0 }))
    → HasLawfulRun limit server h0 left b before l status
    (LeavesSince may_leave moment left_since server disk
    (record { disk = now first; content = content; history = h0 }))
lawful_lent {L} {D} now may_leave moment left_since limit server other h0 left before b l status content first last disk
    same is lawful =
    subst
    (λ (d : D). HasLawfulRun limit server h0 left b before l status
    (LeavesSince may_leave moment left_since server d
    (record { disk = now first; content = content; history = h0 })))
    is
    (subst
    (λ (name : List ℕ). HasLawfulRun limit name h0 left b before l status
    (LeavesSince may_leave moment left_since name (now last)
    (record { disk = now first; content = content; history = h0 })))
    same lawful)

-- how a call may end that can't open a store
pub ends_unopened : (cause : StoreError) (status : Status) → EndsOn cause status
    → (status ≡ ending.NotAJournal) ⊎ ((status ≡ ending.OutOfMemory)
    ⊎ ((status ≡ ending.WriteFault) ⊎ (status ≡ ending.DiskFault)))
ends_unopened (store.NotAJournal offset) status (inl is) = inl is
ends_unopened (store.NotAJournal offset) status (inr (inl is)) = inr (inr (inl is))
ends_unopened (store.NotAJournal offset) status (inr (inr is)) = inr (inl is)
ends_unopened store.DiskFault status is = inr (inr (inr is))
ends_unopened store.OutOfMemory status is = inr (inl is)

-- a call that tells a fault of a journal has that cause
pub journal_cause : (cause : StoreError) (status : Status) → EndsOn cause status → status ≡ ending.NotAJournal
    → (offset : ℕ) × (cause ≡ store.NotAJournal offset)
journal_cause (store.NotAJournal offset) status ends is = (offset, refl)
journal_cause store.DiskFault status ends is = absurd cc
journal_cause store.OutOfMemory status ends is = absurd cc
