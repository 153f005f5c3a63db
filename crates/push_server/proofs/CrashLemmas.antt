-- Lemmas on what a stop leaves.
use Rattle.std.proofs.Common.{◌≡◌, ◌⊎◌, inl, inr, ⊎_elim, ℕ, ◌≤◌, ◌<◌, Bool, true, false, cond, List, [], ◌∷◌, ◌++◌}
use Rattle.std.proofs.Common.{Option, None, Some, Result, Ok, Err, OnOk, length, take, refl, sym, ap, subst, ◌∙◌, arith}
use Rattle.std.specs.List.{All}
use Rattle.std.proofs.lemmas.List.{append-nil, append_assoc}
use Rattle.std.proofs.lemmas.List.Elements.{All-head}
use Rattle.mx_outside.specs.Disk.{LeavesOnly, Only}
use Rattle.mx_journal.specs.Journal.{Rests}
use Rattle.mx_records.specs.declared.input.Input.{Input}
use Rattle.mx_records.specs.declared.refusal.Refusal.{Refusal}
use Rattle.mx_records.specs.History.{History, with_input}
use Rattle.mx_records.specs.declared.entry.Entry.TheVariants.{Input as InputEntry}
use Rattle.mx_records.specs.Refusing.{IsAcceptableInput, refusal_of}
use Rattle.mx_lines.specs.declared.command.Command.{Command}
use Rattle.mx_lines.specs.declared.command.Command.TheVariants.{Input as InputCommand, Counts, Rules}
use Rattle.mx_lines.specs.declared.command.Denial.TheVariants.{Input as Refused}
use Rattle.mx_lines.specs.Admission.{Admission, after, after_admission, admission_by, admission_of}
use Rattle.mx_lines.specs.declared.cut.Cut.{Cut}
use Rattle.mx_lines.specs.declared.cut.Cut.TheVariants.{Line, TooLong, More}
use Rattle.mx_store.specs.Standing.{StandsFor, StandsForEitherHistory}
use Rattle.mx_store.specs.Store.{Keeps, Knows, Stored}
use Rattle.mx_records.proofs.ValidLemmas.{IsValid-parts}
use Rattle.push_server.specs.Answered.{after_cut}
use Rattle.push_server.specs.Crash.{GoesOnFrom, KeepsSince, LeavesFronts, MovesTo, Stands, StandsBetween, Start}

-- ---- histories that go on from others

pub front_same : (h : History) → GoesOnFrom h h
front_same h = record { rest = []; is = sym (append-nil h) }

pub front_then : (a b c : History) → GoesOnFrom a b → GoesOnFrom b c → GoesOnFrom a c
front_then a b c first second = record {
  rest = first.rest ++ second.rest;
  is = second.is ∙ ap (λ (x : History). x ++ second.rest) first.is ∙ append_assoc a first.rest second.rest;
}

-- an admission adds one entry at most
pub front_admission : (h : History) (admission : Admission) → GoesOnFrom h (after_admission h admission)
front_admission h (Ok (InputCommand input)) = record { rest = _; is = refl }
front_admission h (Ok (Counts user room threads)) = front_same h
front_admission h (Ok (Rules user)) = front_same h
front_admission h (Err denial) = front_same h

pub front_after : (server : List ℕ) (h : History) (line : List ℕ) → GoesOnFrom h (after server h line)
unfolding after
front_after server h line = front_admission h (admission_of server h line)

pub front_cut : (server : List ℕ) (h : History) (cut : Cut) → GoesOnFrom h (after_cut server h cut)
front_cut server h (Line bytes) = front_after server h bytes.now
front_cut server h TooLong = front_same h
front_cut server h More = front_same h

-- ---- images

pub between_one : (server image : List ℕ) (least most h : History) → StandsFor server image h → GoesOnFrom least h
    → GoesOnFrom h most → StandsBetween server least most image
between_one server image least most h stands from to =
    record { history = h; stands = stands; from_least = from; to_most = to }

-- one of two histories lies between a first one and the second
pub between_either : (server image : List ℕ) (least h next : History) → GoesOnFrom least h → GoesOnFrom h next
    → StandsForEitherHistory server h next image → StandsBetween server least next image
between_either server image least h next from to (inl old) = between_one server image least next h old from to
between_either server image least h next from to (inr new) =
    between_one server image least next next new (front_then least h next from to) (front_same next)

pub between_more : (server image : List ℕ) (least most more : History) → GoesOnFrom most more
    → StandsBetween server least most image → StandsBetween server least more image
between_more server image least most more to between = record {
  history = between.history;
  stands = between.stands;
  from_least = between.from_least;
  to_most = front_then between.history most more between.to_most to;
}

-- ---- a call that moves the store

-- where nothing is done, a crash leaves the history
pub MovesTo-same : {T E D : Type 0} (result : Result T E) (seen : D → Option (List ℕ)) (may_leave : D → List ℕ → Type 0)
    (moment : D → ℕ) (left_since : D → ℕ → List ℕ → Type 0)
    → ((disk : D) (image : List ℕ) → left_since disk (moment disk) image → may_leave disk image)
    → (store : Stored D) (h next : History) → next ≡ h → Keeps seen may_leave store h
    → MovesTo result seen may_leave moment left_since store store h next
MovesTo-same {T} {E} {D} result seen may_leave moment left_since only_now store h next is keeps =
    subst (λ (n : History). MovesTo result seen may_leave moment left_since store store h n) (sym is) (record {
      keeps = each result;
      stopped = λ image left. stood image left;
      any_moment = record {
        later = omega arith;
        each = λ image left. stood image (only_now store.journal.disk image left);
        before = λ t image le left. inl left;
      };
    })
  where
    each : (r : Result T E) → OnOk r (Keeps seen may_leave store h)
    each (Ok value) = keeps
    each (Err error) = tt

    stood : (image : List ℕ) → may_leave store.journal.disk image → StandsForEitherHistory store.server h h image
    stood image left = inl (record { valid = keeps.knows.valid; payloads = inr (keeps.rests.durable image left) })

-- ---- accepting

-- what stands for the history with an input stands for that after the input is admitted
pub either_admitted : (server image : List ℕ) (h : History) (input : Input)
    → StandsForEitherHistory server h (with_input h input) image
    → StandsForEitherHistory server h (after_admission h (admission_by server h (Ok (InputCommand input)))) image
either_admitted server image h input (inl old) = inl old
either_admitted server image h input (inr new) =
    let next = (IsValid-parts server h (InputEntry input) new.valid).1 in
    inr (rw next.unrefused new)

-- an input that is accepted comes to the history's end
pub after_accepted : (server : List ℕ) (h : History) (input : Input) → IsAcceptableInput server h input
    → after_admission h (admission_by server h (Ok (InputCommand input))) ≡ with_input h input
after_accepted server h input next = rw next.unrefused refl

-- a refused one doesn't
pub after_refused : (server : List ℕ) (h : History) (input : Input) (refusal : Refusal)
    → refusal_of server h input ≡ Some refusal
    → admission_by server h (Ok (InputCommand input)) ≡ Err (Refused refusal)
after_refused server h input refusal is = rw is refl

-- ---- times that follow one another

pub LeavesOnly-then : {D : Type 0} (moment : D → ℕ) (left_since : D → ℕ → List ℕ → Type 0) (a b c : D)
    (P Q R : List ℕ → Type 0) → LeavesOnly moment left_since a b P → LeavesOnly moment left_since b c Q
    → ((image : List ℕ) → P image → R image) → ((image : List ℕ) → Q image → R image)
    → LeavesOnly moment left_since a c R
LeavesOnly-then moment left_since a b c P Q R first second from_first from_second = record {
  later = omega (arith, first.later, second.later);
  each = λ image left.
      ⊎_elim (λ (early : left_since b (moment a) image). from_first image (first.each image early))
      (λ (late : Q image). from_second image late)
      (second.before (moment a) image first.later left);
  before = λ t image le left.
      ⊎_elim (λ (early : left_since b t image).
      ⊎_elim (λ (before : left_since a t image). inl before) (λ (p : P image). inr (from_first image p))
      (first.before t image le early))
      (λ (late : Q image). inr (from_second image late))
      (second.before t image (omega (arith, le, first.later)) left);
}

-- ---- what a stop leaves behind a call that moved the store

-- the store keeps the next history since the start
pub keeps_then : {T E D : Type 0} (value : T) (seen : D → Option (List ℕ)) (may_leave : D → List ℕ → Type 0)
    (moment : D → ℕ) (left_since : D → ℕ → List ℕ → Type 0) (old new : Stored D) (start : Start D) (now next : History)
    → new.server ≡ old.server → GoesOnFrom now next → KeepsSince seen may_leave moment left_since old start now
    → MovesTo {T = T} {E = E} (Ok value) seen may_leave moment left_since old new now next
    → KeepsSince seen may_leave moment left_since new start next
keeps_then value seen may_leave moment left_since old new start now next same to kept moves = record {
  keeps = moves.keeps;
  from_start = front_then start.history now next kept.from_start to;
  since = rw same
      (LeavesOnly-then moment left_since start.disk old.journal.disk new.journal.disk
      (StandsBetween old.server start.history now) (StandsForEitherHistory old.server now next)
      (StandsBetween old.server start.history next) kept.since moves.any_moment
      (λ image between. between_more old.server image start.history now next to between)
      (λ image either. between_either old.server image start.history now next kept.from_start to either));
}

-- an image that a crash since the start might have left
pub since_either : {T E D : Type 0} (result : Result T E) (seen : D → Option (List ℕ)) (may_leave : D → List ℕ → Type 0)
    (moment : D → ℕ) (left_since : D → ℕ → List ℕ → Type 0) (old new : Stored D) (start : Start D) (now next : History)
    (image : List ℕ) → GoesOnFrom now next → KeepsSince seen may_leave moment left_since old start now
    → MovesTo result seen may_leave moment left_since old new now next
    → left_since new.journal.disk (moment start.disk) image → StandsBetween old.server start.history next image
since_either result seen may_leave moment left_since old new start now next image to kept moves left =
    ⊎_elim
    (λ (early : left_since old.journal.disk (moment start.disk) image).
    between_more old.server image start.history now next to (kept.since.each image early))
    (λ (late : StandsForEitherHistory old.server now next image).
    between_either old.server image start.history now next kept.from_start to late)
    (moves.any_moment.before (moment start.disk) image kept.since.later left)

-- a call that failed before the input was applied, or after: either way one of the two histories is left
pub MovesTo-failed : {T E D : Type 0} (error : E) (seen : D → Option (List ℕ)) (may_leave : D → List ℕ → Type 0)
    (moment : D → ℕ) (left_since : D → ℕ → List ℕ → Type 0) (old new : Stored D) (h : History) (input : Input)
    → ((image : List ℕ) → may_leave new.journal.disk image
    → StandsForEitherHistory old.server h (with_input h input) image)
    → LeavesOnly moment left_since old.journal.disk new.journal.disk
    (StandsForEitherHistory old.server h (with_input h input))
    → MovesTo {T = T} (Err error) seen may_leave moment left_since old new h
    (after_admission h (admission_by old.server h (Ok (InputCommand input))))
MovesTo-failed error seen may_leave moment left_since old new h input stopped any_moment = record {
  keeps = tt;
  stopped = λ image left. either_admitted old.server image h input (stopped image left);
  any_moment = record {
    later = any_moment.later;
    each = λ image left. either_admitted old.server image h input (any_moment.each image left);
    before = λ t image le left.
        ⊎_elim (λ (early : left_since old.journal.disk t image). inl early)
        (λ (late : StandsForEitherHistory old.server h (with_input h input) image).
        inr (either_admitted old.server image h input late))
        (any_moment.before t image le left);
  };
}
