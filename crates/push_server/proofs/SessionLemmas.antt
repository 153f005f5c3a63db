-- Lemmas on the answering of a piece.
use Rattle.std.proofs.Common.{◌≡◌, ℕ, ◌+◌, ◌<◌, ◌≤◌, Bool, true, false, List, [], ◌∷◌, ◌++◌, Some, Option, Result, Ok}
use Rattle.std.proofs.Common.{Err, length, take, drop, refl, sym, ap, subst, ◌∙◌, arith, append_assoc, length-append}
use Rattle.std.proofs.Common.{add-zero}
use Rattle.std.specs.List.{slice_get}
use Rattle.std.proofs.lemmas.List.{append-nil, take_all, take-append-drop}
use Rattle.mx_outside.specs.Told.{Writes}
use Rattle.mx_lines.specs.declared.cut.Cut.{Cut}
use Rattle.mx_lines.specs.declared.cut.Cut.TheVariants.{Line, TooLong, More}
use Rattle.mx_lines.specs.Lines.{Lines, lines_of}
use Rattle.mx_lines.specs.Cutting.{Held, HasGiven, IsNextLine, IsLastLine, shown_count}
use Rattle.mx_lines.specs.Resting.{GivesNext}
use Rattle.mx_lines.proofs.LinesLemmas.{whole-append}
use Rattle.mx_lines.proofs.CuttingLemmas.{HasGiven-all}
use Rattle.mx_lines.proofs.CallerLemmas.{FeedsRest, HasGiven-fed}
use Rattle.mx_records.specs.History.{History}
use Rattle.push_server.specs.declared.halt.Halt.{Halt}
use Rattle.mx_lines.specs.Runs.{Run, Point, last_line, input_lines, told}
use Rattle.mx_lines.specs.Laws.{Agrees}
use Rattle.push_server.specs.Crash.{Start}
use Rattle.push_server.specs.Steps.{GoesOn, ShowsNext, StepsTo, IsHalted, AnswersUpTo, IsAllAnswered, AnswersAll}
use Rattle.mx_lines.proofs.ListLemmas.{slice_get-more, slice_get-seam}
use Rattle.mx_lines.proofs.LawsLemmas.{IsLawful-whole}
use Rattle.mx_lines.proofs.AnswerLemmas.{Agrees-more}

-- ---- the lines of a run and those of the bytes that were cut

-- a line of the run's first bytes is one of the run's
input_line : (run : Run) (bytes later line : List ℕ) (count : ℕ) → run.input ≡ bytes ++ later
    → slice_get (lines_of bytes).whole count ≡ Some line → slice_get (input_lines run) count ≡ Some line
input_line run bytes later line count is at =
    let more = whole-append bytes later in
    let front : slice_get (lines_of (bytes ++ later)).whole count ≡ Some line =
    rw more.1 (slice_get-more (lines_of bytes).whole more.0 count line at) in
    let own : slice_get (lines_of run.input).whole count ≡ Some line = rw is front in
    slice_get-more (lines_of run.input).whole (last_line run.ended (lines_of run.input).rest) count line own

-- the next line of the run's first bytes is that of the run
ShowsNext-front : (cut : Cut) (run : Run) (bytes later : List ℕ) (count : ℕ) → run.input ≡ bytes ++ later
    → IsNextLine cut (lines_of bytes).whole count → ShowsNext cut (input_lines run) count
ShowsNext-front (Line line) run bytes later count is next = input_line run bytes later line.now count is next.0
ShowsNext-front TooLong run bytes later count is next =
    (next.0, input_line run bytes later next.0 count is next.1, next.2)
ShowsNext-front More run bytes later count is next = tt

last_line-some : (rest : List ℕ) → 0 < length rest → last_line true rest ≡ rest ∷ []
last_line-some [] some = absurd (omega arith)
last_line-some (b ∷ rest) some = refl

-- the last line of a run that ended, and how many lines there are
record IsLast (cut : Cut) (lines : List (List ℕ)) (count : ℕ) : Type 0 where
  shows : ShowsNext cut lines count
  all : length lines ≡ count + shown_count cut

last_is_next : (whole : List (List ℕ)) (rest : List ℕ) (count : ℕ) → length whole ≡ count → 0 < length rest
    → (slice_get (whole ++ last_line true rest) count ≡ Some rest) × (length (whole ++ last_line true rest) ≡ count + 1)
last_is_next whole rest count is some =
    rw (last_line-some rest some, ← is)
    (slice_get-seam whole rest [], length-append whole (rest ∷ []))

IsLast-of : (cut : Cut) (whole : List (List ℕ)) (rest : List ℕ) (count : ℕ) → length whole ≡ count
    → IsLastLine cut rest → IsLast cut (whole ++ last_line true rest) count
IsLast-of (Line line) whole rest count is last =
    let some : 0 < length rest = omega (arith, last.1, ap length last.0) in
    let next = last_is_next whole rest count is some in
    record { shows = next.0 ∙ ap (λ (bytes : List ℕ). Some bytes) last.0; all = next.1 }
IsLast-of TooLong whole rest count is last =
    let some : 0 < length rest = omega (arith, last) in
    let next = last_is_next whole rest count is some in
    record { shows = (rest, next.0, last); all = next.1 }
IsLast-of More whole rest count is last =
    rw (last, append-nil) (record { shows = tt; all = is ∙ sym (add-zero count) })

IsLast-run : (cut : Cut) (run : Run) (count : ℕ) → run.ended ≡ true → length (lines_of run.input).whole ≡ count
    → IsLastLine cut (lines_of run.input).rest → IsLast cut (input_lines run) count
IsLast-run cut run count ended is last =
    rw ended (IsLast-of cut (lines_of run.input).whole (lines_of run.input).rest count is last)

-- a cutter that holds no ended line has given all of them
pub all_given : (held : Held) (lines : Lines) (count : ℕ) → held.ended ≡ false → HasGiven held lines count
    → length lines.whole ≡ count
all_given held lines count ready given =
    HasGiven-all held.kept lines count
    (subst (λ (ended : Bool). HasGiven (record { kept = held.kept; ended = ended }) lines count) ready given)

-- ---- the loop over a piece

-- what the step for a cut says, for each start of the call
abbrev pub Extends : {T D : Type 0} → List ℕ → Cut → (Start D → History → Type 0) → Result T Halt
    → (Start D → History → Type 0) → (Start D → Run → Type 0) → Option (List ℕ) → Option (List ℕ) → Type 0
Extends {T} {D} server cut old result new leaves a b =
    (start : Start D) (run : Run) (answered : ℕ) → GoesOn server start.history run (old start) answered
    → ShowsNext cut (input_lines run) answered
    → Writes a b (StepsTo server start.history run (answered + shown_count cut) result (new start) (leaves start))

-- the same of a server's name that is equal
pub Extends-server : {T D : Type 0} (server other : List ℕ) (cut : Cut) (old : Start D → History → Type 0)
    (result : Result T Halt) (new : Start D → History → Type 0) (leaves : List ℕ → Start D → Run → Type 0)
    (a b : Option (List ℕ)) → server ≡ other → Extends server cut old result new (leaves server) a b
    → Extends other cut old result new (leaves other) a b
Extends-server server other cut old result new leaves a b same extends =
    subst (λ (name : List ℕ). Extends name cut old result new (leaves name) a b) same extends

-- the cut shows the next line of all bytes that were fed
abbrev pub GivesLine : Cut → Held → Type 0
GivesLine cut fed = (bytes : List ℕ) (count : ℕ) → HasGiven fed (lines_of bytes) count
    → IsNextLine cut (lines_of bytes).whole count

-- what one turn of the loop knows: so many bytes were fed from this place on, and the cut was given
pub record Turns (piece : List ℕ) (at n : ℕ) (cut : Cut) (old fed new : Held) : Type 0 where
  pub feeds : FeedsRest old piece at n fed
  pub gives : GivesNext cut fed new
  pub line : GivesLine cut fed

-- the lines that end before this place of the piece have their answers
abbrev pub AnswersSoFar : {D : Type 0} → List ℕ → List ℕ → ℕ → (Start D → History → Type 0) → Held
    → (Start D → History → Type 0) → Held → Option (List ℕ) → Option (List ℕ) → Type 0
AnswersSoFar {D} server piece at old held stands now a b =
    (start : Start D) (run : Run) (bytes : List ℕ) → run.input ≡ bytes ++ piece
    → AnswersUpTo bytes server start.history run (old start) held
    → Writes a b (λ out. AnswersUpTo (bytes ++ take at piece) server start.history (told run out) (stands start) now)

pub AnswersSoFar-starts : {D : Type 0} (server piece : List ℕ) (old : Start D → History → Type 0) (held : Held)
    (a : Option (List ℕ)) → AnswersSoFar server piece 0 old held old held a a
AnswersSoFar-starts server piece old held a start run bytes is up before told_before =
    ([], told_before ∙ ap Some (sym (append-nil before)), rw (append-nil, append-nil) up)

told-told : (run : Run) (x y : List ℕ) → told (told run x) y ≡ told run (x ++ y)
told-told run x y = ap (λ (output : List ℕ). record run { output = output }) (append_assoc run.output x y)

split_input : (run : Run) (bytes piece : List ℕ) (at : ℕ) → run.input ≡ bytes ++ piece
    → run.input ≡ (bytes ++ take at piece) ++ drop at piece
split_input run bytes piece at is =
    is ∙ ap (λ (all : List ℕ). bytes ++ all) (sym (take-append-drop at piece))
    ∙ sym (append_assoc bytes (take at piece) (drop at piece))

-- what a turn makes of a run at this place
record AtTurn (server : List ℕ) (h0 : History) (run : Run) (bytes : List ℕ) (cut : Cut) (stands : History → Type 0)
    (new : Held) : Type 0 where
  answered : ℕ
  goes_on : GoesOn server h0 run stands answered
  shows : ShowsNext cut (input_lines run) answered
  given : HasGiven new (lines_of bytes) (answered + shown_count cut)

AtTurn-of : (server : List ℕ) (h0 : History) (run : Run) (bytes piece : List ℕ) (at n : ℕ) (cut : Cut)
    (stands : History → Type 0) (old fed new : Held) → run.input ≡ bytes ++ piece → Turns piece at n cut old fed new
    → AnswersUpTo (bytes ++ take at piece) server h0 run stands old
    → AtTurn server h0 run (bytes ++ take (at + n) piece) cut stands new
AtTurn-of server h0 run bytes piece at n cut stands old fed new is turns up =
    let given = HasGiven-fed old fed bytes piece at n up.answered turns.feeds up.given in
    let next = turns.line (bytes ++ take (at + n) piece) up.answered given in
    record {
      answered = up.answered;
      goes_on = up.goes_on;
      shows = ShowsNext-front cut run (bytes ++ take (at + n) piece) (drop (at + n) piece) up.answered
          (split_input run bytes piece (at + n) is) next;
      given = turns.gives.lines (lines_of (bytes ++ take (at + n) piece)) up.answered given;
    }

pub AnswersSoFar-turn : {T D : Type 0} (server piece : List ℕ) (at n : ℕ) (cut : Cut)
    (first stands new : Start D → History → Type 0) (leaves : Start D → Run → Type 0) (begun old fed next : Held)
    (value : T) (a b c : Option (List ℕ)) → AnswersSoFar server piece at first begun stands old a b
    → Turns piece at n cut old fed next → Extends server cut stands (Ok value) new leaves b c
    → AnswersSoFar server piece (at + n) first begun new next a c
AnswersSoFar-turn server piece at n cut first stands new leaves begun old fed next value a b c so_far turns extends
    start run bytes is up before told_before =
    let h0 = start.history in
    let w = so_far start run bytes is up before told_before in
    let here = AtTurn-of server h0 (told run w.0) bytes piece at n cut (stands start) old fed next is turns w.2 in
    let v = extends start (told run w.0) here.answered here.goes_on here.shows (before ++ w.0) w.1 in
    let both : told (told run w.0) v.0 ≡ told run (w.0 ++ v.0) = told-told run w.0 v.0 in (
      w.0 ++ v.0,
      v.1 ∙ ap Some (append_assoc before w.0 v.0),
      rw (← both) (record { answered = here.answered + shown_count cut; goes_on = v.2; given = here.given }),
    )

pub AnswersSoFar-halts : (T : Type 0) {D : Type 0} (error : Halt) (server piece : List ℕ) (at n : ℕ) (cut : Cut)
    (first stands new : Start D → History → Type 0) (leaves : Start D → Run → Type 0) (begun old fed next : Held)
    (a b c : Option (List ℕ)) → AnswersSoFar server piece at first begun stands old a b
    → Turns piece at n cut old fed next → Extends {T = T} server cut stands (Err error) new leaves b c
    → (start : Start D) (run : Run) (bytes : List ℕ) → run.input ≡ bytes ++ piece
    → AnswersUpTo bytes server start.history run (first start) begun
    → Writes a c (λ out. IsHalted error server start.history (told run out) (leaves start))
AnswersSoFar-halts T error server piece at n cut first stands new leaves begun old fed next a b c so_far turns extends
    start run bytes is up before told_before =
    let h0 = start.history in
    let w = so_far start run bytes is up before told_before in
    let here = AtTurn-of server h0 (told run w.0) bytes piece at n cut (stands start) old fed next is turns w.2 in
    let v = extends start (told run w.0) here.answered here.goes_on here.shows (before ++ w.0) w.1 in
    let both : told (told run w.0) v.0 ≡ told run (w.0 ++ v.0) = told-told run w.0 v.0 in
    (w.0 ++ v.0, v.1 ∙ ap Some (append_assoc before w.0 v.0), rw (← both) v.2)

pub AnswersSoFar-ends : {D : Type 0} (server piece : List ℕ) (at : ℕ) (old stands : Start D → History → Type 0)
    (held now : Held) (a b : Option (List ℕ)) → AnswersSoFar server piece at old held stands now a b → length piece ≤ at
    → (start : Start D) (run : Run) (bytes : List ℕ) → run.input ≡ bytes ++ piece
    → AnswersUpTo bytes server start.history run (old start) held
    → Writes a b (λ out. AnswersUpTo run.input server start.history (told run out) (stands start) now)
AnswersSoFar-ends server piece at old stands held now a b so_far past start run bytes is up before told_before =
    let w = so_far start run bytes is up before told_before in
    let whole : bytes ++ take at piece ≡ run.input =
    ap (λ (all : List ℕ). bytes ++ all) (take_all at piece past) ∙ sym is in
    (w.0, w.1, rw whole at w.2)

-- ---- the last line

-- where the store stands for the history of a run at its line's end, this is said of what a stop leaves
abbrev pub LeavesStanding : List ℕ → History → (History → Type 0) → (Run → Type 0) → Type 0
LeavesStanding server h0 stands leaves = (run : Run) (now : History) → Agrees server h0 run now → stands now
    → leaves run

-- the cut shows what follows the last line feed of all bytes that were fed
abbrev pub GivesLast : Cut → Held → Type 0
GivesLast cut held = (bytes : List ℕ) (count : ℕ) → HasGiven held (lines_of bytes) count
    → IsLastLine cut (lines_of bytes).rest

IsAllAnswered-of : (server : List ℕ) (h0 : History) (run : Run) (stands : History → Type 0) (leaves : Run → Type 0)
    (answered : ℕ) → LeavesStanding server h0 stands leaves → GoesOn server h0 run stands answered
    → length (input_lines run) ≡ answered → IsAllAnswered server h0 run leaves
IsAllAnswered-of server h0 run stands leaves answered standing goes_on all = record {
  may_end = λ status. IsLawful-whole server h0 run status goes_on.agrees.whole goes_on.agrees.at_line_end;
  each = (goes_on.count ∙ sym all, goes_on.agrees.at_line_end);
  left = standing run goes_on.now goes_on.agrees goes_on.stands_for;
}

AnswersAll-of : {T : Type 0} (result : Result T Halt) (server : List ℕ) (h0 : History) (run : Run) (answered : ℕ)
    (stands : History → Type 0) (leaves : Run → Type 0) (out : List ℕ) → LeavesStanding server h0 stands leaves
    → length (input_lines run) ≡ answered → StepsTo server h0 run answered result stands leaves out
    → AnswersAll server h0 run result leaves out
AnswersAll-of (Ok value) server h0 run answered stands leaves out standing all step =
    IsAllAnswered-of server h0 (told run out) stands leaves answered standing step all
AnswersAll-of (Err error) server h0 run answered stands leaves out standing all step = step

pub answers_last : {T D : Type 0} (result : Result T Halt) (server : List ℕ) (cut : Cut)
    (old new : Start D → History → Type 0) (leaves : Start D → Run → Type 0) (held : Held) (a b : Option (List ℕ))
    → held.ended ≡ false → GivesLast cut held → Extends server cut old result new leaves a b
    → ((start : Start D) → LeavesStanding server start.history (new start) (leaves start))
    → (start : Start D) (run : Run) → run.ended ≡ true → AnswersUpTo run.input server start.history run (old start) held
    → Writes a b (AnswersAll server start.history run result (leaves start))
answers_last result server cut old new leaves held a b ready last extends standing start run ended up before
    told_before =
    let all = all_given held (lines_of run.input) up.answered ready up.given in
    let is_last = IsLast-run cut run up.answered ended all (last run.input up.answered up.given) in
    let v = extends start run up.answered up.goes_on is_last.shows before told_before in (
      v.0,
      v.1,
      AnswersAll-of result server start.history run (up.answered + shown_count cut) (new start) (leaves start)
          v.0 (standing start) is_last.all v.2,
    )

-- ---- a run that took more, or ended

-- a run that didn't end has answered all of its lines
pub IsAllAnswered-going : (server : List ℕ) (h0 : History) (run : Run) (stands : History
    → Type 0) (leaves : Run → Type 0)
    (held : Held) → LeavesStanding server h0 stands leaves → run.ended ≡ false → held.ended ≡ false
    → AnswersUpTo run.input server h0 run stands held → IsAllAnswered server h0 run leaves
IsAllAnswered-going server h0 run stands leaves held standing going ready up =
    let all = all_given held (lines_of run.input) up.answered ready up.given in
    IsAllAnswered-of server h0 run stands leaves up.answered standing up.goes_on (rw (going, append-nil) all)

-- more lines that came in change nothing of what was answered
AnswersUpTo-more : (bytes server : List ℕ) (h0 : History) (run new : Run) (more : List (List ℕ))
    (stands : History → Type 0) (held : Held) → new.output ≡ run.output → input_lines new ≡ input_lines run ++ more
    → AnswersUpTo bytes server h0 run stands held → AnswersUpTo bytes server h0 new stands held
AnswersUpTo-more bytes server h0 run new more stands held output inputs up =
    let later = Agrees-more server h0 run new more up.goes_on.now output inputs up.goes_on.agrees in
    record {
      answered = up.answered;
      goes_on = record {
        now = up.goes_on.now;
        agrees = later.0;
        stands_for = up.goes_on.stands_for;
        count = ap (λ (p : Point). p.answered) later.1 ∙ up.goes_on.count;
      };
      given = up.given;
    }

-- the run that took this piece too
abbrev pub fed : Run → List ℕ → Run
fed run piece = record run { input = run.input ++ piece }

-- the run whose input ended
abbrev pub at_end : Run → Run
at_end run = record run { ended = true }

pub AnswersUpTo-fed : (bytes server : List ℕ) (h0 : History) (run : Run) (piece : List ℕ) (stands : History → Type 0)
    (held : Held) → run.ended ≡ false → AnswersUpTo bytes server h0 run stands held
    → AnswersUpTo bytes server h0 (fed run piece) stands held
AnswersUpTo-fed bytes server h0 run piece stands held going up =
    let more = whole-append run.input piece in
    let lines : input_lines (fed run piece) ≡ input_lines run ++ more.0 = rw (going, append-nil, append-nil) more.1 in
    AnswersUpTo-more bytes server h0 run (fed run piece) more.0 stands held refl lines up

pub AnswersUpTo-at_end : (bytes server : List ℕ) (h0 : History) (run : Run) (stands : History → Type 0) (held : Held)
    → run.ended ≡ false → AnswersUpTo bytes server h0 run stands held
    → AnswersUpTo bytes server h0 (at_end run) stands held
AnswersUpTo-at_end bytes server h0 run stands held going up =
    let more = last_line true (lines_of run.input).rest in
    let lines : input_lines (at_end run) ≡ input_lines run ++ more = rw (going, append-nil) refl in
    AnswersUpTo-more bytes server h0 run (at_end run) more stands held refl lines up
