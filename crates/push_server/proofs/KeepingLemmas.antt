-- Lemmas on a line that is answered over a store: for what the store stands then, and what a stop leaves.
use Rattle.std.proofs.Common.{◌≡◌, ◌⊎◌, ⊎_elim, ℕ, ◌<◌, ◌≤◌, arith, List, [], ◌++◌, Option, Some, Result, Ok, Err}
use Rattle.std.proofs.Common.{length, take, refl, sym, subst, inl, inr}
use Rattle.mx_outside.specs.Disk.{LeavesOnly, Only}
use Rattle.mx_lines.specs.declared.cut.Cut.{Cut}
use Rattle.mx_lines.specs.declared.cut.Cut.TheVariants.{Line, TooLong, More}
use Rattle.mx_lines.specs.Runs.{Run, acknowledged, halted, input_lines, told}
use Rattle.mx_lines.specs.Laws.{Agrees}
use Rattle.mx_records.specs.History.{History}
use Rattle.mx_records.specs.Refusing.{IsValid}
use Rattle.mx_records.specs.Snapshot.{Snapshot, snapshot_of}
use Rattle.mx_store.specs.Standing.{StandsFor}
use Rattle.mx_store.specs.Store.{Keeps, Knows, Stored}
use Rattle.push_server.specs.Answered.{after_cut}
use Rattle.push_server.specs.Crash.{IsAfterNextLine, LeavesFronts, LeavesSince, MovesTo, Stands, StandsBetween, Start}
use Rattle.push_server.specs.Steps.{AnswersCut, GoesOn, ShowsNext}
use Rattle.push_server.proofs.AdmissionLemmas.{after-answered, after-long}
use Rattle.push_server.proofs.CrashLemmas.{between_one, front_cut, front_same, keeps_then, since_either}
use Rattle.push_server.proofs.SessionLemmas.{LeavesStanding}
use Rattle.push_server.proofs.StepLemmas.{HasAnswer, IsNextHistory-cut, leaves_at_end, leaves_part}

-- what the call that answers a cut says of the store
abbrev pub MovesByCut : {T E D : Type 0} → Result T E → (D → Option (List ℕ)) → (D → List ℕ → Type 0) → (D → ℕ)
    → (D → ℕ → List ℕ → Type 0) → Cut → Stored D → Stored D → Type 0
MovesByCut result seen may_leave moment left_since cut old new =
    (h : History) → Keeps seen may_leave old h
    → MovesTo result seen may_leave moment left_since old new h (after_cut old.server h cut)

-- the state after a cut was answered
knows_cut : (cut : Cut) (server : List ℕ) (h : History) (lines : List (List ℕ)) (answered : ℕ) (shown : Snapshot)
    (before now : List ℕ) → ShowsNext cut lines answered → AnswersCut server h cut shown before now
    → Knows server shown (after_cut server h cut)
knows_cut (Line bytes) server h lines answered shown before now shows answer =
    after-answered server bytes.now h shown before now answer
knows_cut TooLong server h lines answered shown before now shows answer =
    subst (Knows server shown) (after-long server h shows.0 shows.2)
    (after-answered server shows.0 h shown before now (answer shows.0 shows.2))
knows_cut More server h lines answered shown before now shows answer = answer.0

-- after a cut was answered the store stands for the next history
pub stands_cut : {T E D : Type 0} (value : T) (seen : D → Option (List ℕ)) (may_leave : D → List ℕ → Type 0)
    (moment : D → ℕ) (left_since : D → ℕ → List ℕ
    → Type 0) (cut : Cut) (old new : Stored D) (start : Start D) (run : Run)
    (answered : ℕ) (before text : List ℕ)
    → (goes_on : GoesOn old.server start.history run (Stands seen may_leave moment left_since old start) answered)
    → ShowsNext cut (input_lines run) answered → AnswersCut old.server goes_on.now cut new.shown before text
    → new.server ≡ old.server → MovesByCut {T = T} {E = E} (Ok value) seen may_leave moment left_since cut old new
    → Stands seen may_leave moment left_since new start (after_cut old.server goes_on.now cut)
stands_cut {T} {E} value seen may_leave moment left_since cut old new start run answered before text goes_on shows
    answer same moves =
    let next = after_cut old.server goes_on.now cut in
    record {
      knows = subst (λ (s : List ℕ). Knows s new.shown next) (sym same)
          (knows_cut cut old.server goes_on.now (input_lines run) answered new.shown before text shows answer);
      kept = λ quiet.
          let kept = goes_on.stands_for.kept quiet in
          keeps_then {T = T} {E = E} value seen may_leave moment left_since old new start goes_on.now next same
          (front_cut old.server goes_on.now cut) kept (moves goes_on.now kept.keeps);
    }

-- what a stop leaves where nothing was written
pub left_before : {T E D : Type 0} (result : Result T E) (seen : D → Option (List ℕ)) (may_leave : D → List ℕ → Type 0)
    (moment : D → ℕ) (left_since : D → ℕ → List ℕ
    → Type 0) (cut : Cut) (old new : Stored D) (start : Start D) (run : Run)
    (answered : ℕ)
    → (goes_on : GoesOn old.server start.history run (Stands seen may_leave moment left_since old start) answered)
    → ShowsNext cut (input_lines run) answered → MovesByCut result seen may_leave moment left_since cut old new
    → LeavesSince may_leave moment left_since old.server new.journal.disk start run
left_before result seen may_leave moment left_since cut old new start run answered goes_on shows moves quiet =
    let server = old.server in
    let kept = goes_on.stands_for.kept quiet in
    let moved = moves goes_on.now kept.keeps in
    let next = after_cut server goes_on.now cut in
    let to = front_cut server goes_on.now cut in
    leaves_at_end server start.history run goes_on.now next (may_leave new.journal.disk)
    (left_since new.journal.disk (moment start.disk)) goes_on.agrees
    (IsNextHistory-cut cut server start.history run (Stands seen may_leave moment left_since old start) answered goes_on
    shows) to moved.stopped
    (λ image left.
    since_either result seen may_leave moment left_since old new start goes_on.now next image to kept moved
    left)

-- what a stop leaves where a part of the answer was written
pub left_part : {T E D : Type 0} (value : T) (seen : D → Option (List ℕ)) (may_leave : D → List ℕ → Type 0)
    (moment : D → ℕ) (left_since : D → ℕ → List ℕ
    → Type 0) (cut : Cut) (old new : Stored D) (start : Start D) (run : Run)
    (answered : ℕ) (text : List ℕ)
    → (goes_on : GoesOn old.server start.history run (Stands seen may_leave moment left_since old start) answered)
    → new.server ≡ old.server → MovesByCut {T = T} {E = E} (Ok value) seen may_leave moment left_since cut old new
    → HasAnswer old.server start.history run goes_on.now (after_cut old.server goes_on.now cut) text
    → (count : ℕ) → count < length text
    → LeavesSince may_leave moment left_since old.server new.journal.disk start (told run (take count text))
left_part {T} {E} value seen may_leave moment left_since cut old new start run answered text goes_on same moves has
    count below quiet =
    let server = old.server in
    let kept = goes_on.stands_for.kept quiet in
    let moved = moves goes_on.now kept.keeps in
    let next = after_cut server goes_on.now cut in
    let to = front_cut server goes_on.now cut in
    leaves_part server start.history run goes_on.now next text count (may_leave new.journal.disk)
    (left_since new.journal.disk (moment start.disk)) goes_on.agrees has below to
    (λ image left. stands_kept server same moved.keeps image left)
    (λ image left.
    since_either {T = T} {E = E} (Ok value) seen may_leave moment left_since old new start goes_on.now next image to
    kept moved left)
  where
    stands_kept : (server : List ℕ) → new.server ≡ server
        → Keeps seen may_leave new (after_cut old.server goes_on.now cut)
        → (image : List ℕ) → may_leave new.journal.disk image
        → StandsFor server image (after_cut old.server goes_on.now cut)
    stands_kept server same keeps image left = record {
      valid = subst (λ (s : List ℕ). IsValid s (after_cut old.server goes_on.now cut)) same keeps.knows.valid;
      payloads = inr (keeps.rests.durable image left);
    }

-- ---- where a call ends at a line's end

-- what a stop leaves of a store that keeps the history of the run
pub left_standing : {D : Type 0} (seen : D → Option (List ℕ)) (may_leave : D → List ℕ → Type 0) (moment : D → ℕ)
    (left_since : D → ℕ → List ℕ → Type 0) (server : List ℕ) (store : Stored D) (start : Start D)
    → store.server ≡ server
    → LeavesStanding server start.history (Stands seen may_leave moment left_since store start)
    (LeavesSince may_leave moment left_since server store.journal.disk start)
left_standing seen may_leave moment left_since server store start same run now agrees stands quiet =
    let kept = stands.kept quiet in
    leaves_at_end server start.history run now now (may_leave store.journal.disk)
    (left_since store.journal.disk (moment start.disk)) agrees (inl refl) (front_same now)
    (λ image left. inl (record {
      valid = subst (λ (s : List ℕ). IsValid s now) same kept.keeps.knows.valid;
      payloads = inr (kept.keeps.rests.durable image left);
    }))
    (λ image left. rw (← same) (kept.since.each image left))

-- what a stop leaves doesn't hang on the status
pub left_halted : {D : Type 0} (may_leave : D → List ℕ → Type 0) (moment : D → ℕ)
    (left_since : D → ℕ → List ℕ → Type 0) (server : List ℕ) (disk : D) (start : Start D) (run : Run) (status : ℕ)
    → LeavesSince may_leave moment left_since server disk start run
    → LeavesSince may_leave moment left_since server disk start (halted run status)
left_halted may_leave moment left_since server disk start run status left quiet =
    let leaves = left quiet in
    record {
      ahead = leaves.ahead;
      is_ahead = ahead leaves.ahead leaves.is_ahead;
      now_fronts = leaves.now_fronts;
      since_fronts = leaves.since_fronts;
    }
  where
    ahead : (h : History)
        → (h ≡ acknowledged server start.history run) ⊎ IsAfterNextLine server start.history run h
        → (h ≡ acknowledged server start.history (halted run status))
        ⊎ IsAfterNextLine server start.history (halted run status) h
    ahead h (inl same) = inl same
    ahead h (inr after_line) = inr (record {
      line = after_line.line;
      next = after_line.next;
      at_line_end = after_line.at_line_end;
      is = after_line.is;
    })

-- ---- where a call begins

-- a store that was opened stands for the history for which its disk stood
pub opened_stands : {D : Type 0} (seen : D → Option (List ℕ)) (may_leave : D → List ℕ → Type 0) (moment : D → ℕ)
    (left_since : D → ℕ → List ℕ → Type 0) (server : List ℕ) (store : Stored D) (start : Start D)
    → store.server ≡ server
    → StandsFor server start.content start.history → store.shown ≡ snapshot_of server start.history
    → (Only start.content (may_leave start.disk) → Keeps seen may_leave store start.history)
    → (Only start.content (may_leave start.disk)
    → LeavesOnly moment left_since start.disk store.journal.disk (λ image. StandsFor server image start.history))
    → Stands seen may_leave moment left_since store start start.history
opened_stands seen may_leave moment left_since server store start same stands shown keeps any_moment = record {
  knows = rw same (record { valid = stands.valid; is = shown });
  kept = λ quiet. record {
    keeps = keeps quiet;
    from_start = front_same start.history;
    since = rw same (between quiet);
  };
}
  where
    one : (image : List ℕ) → StandsFor server image start.history
        → StandsBetween server start.history start.history image
    one image is =
        between_one server image start.history start.history start.history is (front_same start.history)
        (front_same start.history)

    between : Only start.content (may_leave start.disk)
        → LeavesOnly moment left_since start.disk store.journal.disk (StandsBetween server start.history start.history)
    between quiet =
        let all = any_moment quiet in
        record {
          later = all.later;
          each = λ image left. one image (all.each image left);
          before = λ t image le left.
              ⊎_elim (λ (early : left_since start.disk t image). inl early)
              (λ (late : StandsFor server image start.history). inr (one image late)) (all.before t image le left);
        }

-- what a stop leaves before any line, where all images stand for the first history
pub left_first : {D : Type 0} (may_leave : D → List ℕ → Type 0) (moment : D → ℕ)
    (left_since : D → ℕ → List ℕ → Type 0) (server : List ℕ) (disk : D) (start : Start D) (run : Run)
    → ((d : D) (t : ℕ) (image : List ℕ) → t ≤ moment d → may_leave d image → left_since d t image)
    → Agrees server start.history run start.history
    → (Only start.content (may_leave start.disk)
    → LeavesOnly moment left_since start.disk disk (λ image. StandsFor server image start.history))
    → LeavesSince may_leave moment left_since server disk start run
left_first may_leave moment left_since server disk start run counts_now agrees any_moment quiet =
    let all = any_moment quiet in
    leaves_at_end server start.history run start.history start.history (may_leave disk)
    (left_since disk (moment start.disk))
    agrees (inl refl) (front_same start.history)
    (λ image left. inl (all.each image (counts_now disk (moment start.disk) image all.later left)))
    (λ image left. between_one server image start.history start.history start.history (all.each image left)
    (front_same start.history) (front_same start.history))

-- a disk that wasn't touched
pub untouched : {D : Type 0} (may_leave : D → List ℕ → Type 0) (moment : D → ℕ)
    (left_since : D → ℕ → List ℕ → Type 0) (server content : List ℕ) (disk : D) (h : History)
    → ((d : D) (image : List ℕ) → left_since d (moment d) image → may_leave d image)
    → StandsFor server content h → Only content (may_leave disk)
    → LeavesOnly moment left_since disk disk (λ image. StandsFor server image h)
untouched may_leave moment left_since server content disk h only_now stands quiet = record {
  later = omega arith;
  each = λ image left.
      subst (λ (i : List ℕ). StandsFor server i h) (sym (quiet image (only_now disk image left))) stands;
  before = λ t image le left. inl left;
}

-- the same of a store that is the one that was opened
pub opened_as : {D : Type 0} (seen : D → Option (List ℕ)) (may_leave : D → List ℕ → Type 0) (moment : D → ℕ)
    (left_since : D → ℕ → List ℕ → Type 0) (server : List ℕ) (store held : Stored D) (start : Start D) → held ≡ store
    → store.server ≡ server → StandsFor server start.content start.history
    → store.shown ≡ snapshot_of server start.history
    → (Only start.content (may_leave start.disk) → Keeps seen may_leave store start.history)
    → (Only start.content (may_leave start.disk)
    → LeavesOnly moment left_since start.disk store.journal.disk (λ image. StandsFor server image start.history))
    → Stands seen may_leave moment left_since held start start.history
opened_as {D} seen may_leave moment left_since server store held start is same stands shown keeps any_moment =
    subst (λ (s : Stored D). Stands seen may_leave moment left_since s start start.history) (sym is)
    (opened_stands seen may_leave moment left_since server store start same stands shown keeps any_moment)

-- ---- a disk that is lent

-- a disk that was lent, and is the same all along where it was lent, is the same afterwards
pub same_lent : {L D : Type 0} (now : L → D) (same : D → D → Type 0)
    → ((a b c : D) → same a b → same b c → same a c) → (first : D) (opened begun ended : L) (value : D)
    → begun ≡ opened → value ≡ now ended → same first (now opened) → same (now begun) (now ended) → same first value
same_lent now same then first opened begun ended value held is to on =
    subst (same first) (sym is)
    (then first (now opened) (now ended) to (subst (λ l. same (now l) (now ended)) held on))
