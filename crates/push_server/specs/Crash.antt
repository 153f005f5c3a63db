-- What a stop at any moment leaves on the disk: ours.
use Rattle.std.specs.Prelude.{◌≡◌, ◌⊎◌, ℕ, List, [], ◌++◌, Option, Some, slice_get, Result, OnOk}
use Rattle.mx_outside.specs.Disk.{LeavesOnly, Only}
use Rattle.mx_records.specs.History.{History}
use Rattle.mx_lines.specs.Admission.{after}
use Rattle.mx_lines.specs.Runs.{Run, acknowledged, begun, input_lines, point_now}
use Rattle.mx_store.specs.Standing.{StandsFor, StandsForEitherHistory}
use Rattle.mx_store.specs.Store.{Keeps, Knows, Stored}

-- A history that goes on from this one, or is it.
pub record GoesOnFrom (front whole : History) : Type 0 where
  pub rest : History
  pub is : whole ≡ front ++ rest

-- An image that stands for a history between two.
pub record StandsBetween (server : List ℕ) (least most : History) (image : List ℕ) : Type 0 where
  pub history : History
  pub stands : StandsFor server image history
  pub from_least : GoesOnFrom least history
  pub to_most : GoesOnFrom history most

-- The history after the next line without an answer, where no answer is begun.
pub record IsAfterNextLine (server : List ℕ) (h0 : History) (run : Run) (ahead : History) : Type 0 where
  pub line : List ℕ
  pub next : slice_get (input_lines run) (point_now server h0 run).answered ≡ Some line
  pub at_line_end : begun run ≡ []
  pub is : ahead ≡ after server (acknowledged server h0 run) line

-- What a stop leaves: there is the acknowledged history, or the one after the next line, so that each image
-- that a crash now may leave stands for a history between what is acknowledged and that one, and each that a
-- crash since the call began might have left for one between the first history and that one.
pub record LeavesFronts (server : List ℕ) (h0 : History) (run : Run) (now since : List ℕ → Type 0) : Type 0 where
  pub ahead : History
  pub is_ahead : (ahead ≡ acknowledged server h0 run) ⊎ IsAfterNextLine server h0 run ahead
  pub now_fronts : (image : List ℕ) → now image → StandsBetween server (acknowledged server h0 run) ahead image
  pub since_fronts : (image : List ℕ) → since image → StandsBetween server h0 ahead image

-- ---- from one line to the next; for private clauses

-- What stood as a call began: the disk, what it gave, and the history for which that stands.
pub record Start (D : Type 0) : Type 0 where
  pub disk : D
  pub content : List ℕ
  pub history : History

-- The store keeps this history, and a crash since the start left one between the first and this one.
pub record KeepsSince {D : Type 0} (seen : D → Option (List ℕ)) (may_leave : D → List ℕ → Type 0) (moment : D → ℕ)
    (left_since : D → ℕ → List ℕ → Type 0) (store : Stored D) (start : Start D) (now : History) : Type 0 where
  pub keeps : Keeps seen may_leave store now
  pub from_start : GoesOnFrom start.history now
  pub since : LeavesOnly moment left_since start.disk store.journal.disk (StandsBetween store.server start.history now)

-- The store stands for this history, and where nothing was pending at the start, it keeps it.
pub record Stands {D : Type 0} (seen : D → Option (List ℕ)) (may_leave : D → List ℕ → Type 0) (moment : D → ℕ)
    (left_since : D → ℕ → List ℕ → Type 0) (store : Stored D) (start : Start D) (now : History) : Type 0 where
  pub knows : Knows store.server store.shown now
  pub kept : Only start.content (may_leave start.disk) → KeepsSince seen may_leave moment left_since store start now

-- Where nothing was pending at the start, this is what a stop leaves.
abbrev pub LeavesSince : {D : Type 0} → (D → List ℕ → Type 0) → (D → ℕ) → (D → ℕ → List ℕ → Type 0) → List ℕ → D
    → Start D → Run → Type 0
LeavesSince may_leave moment left_since server disk start run =
    Only start.content (may_leave start.disk)
    → LeavesFronts server start.history run (may_leave disk) (left_since disk (moment start.disk))

-- The call took the store from a history to the next, and a crash on the way leaves one of the two.
pub record MovesTo {T E D : Type 0} (result : Result T E) (seen : D → Option (List ℕ)) (may_leave : D → List ℕ → Type 0)
    (moment : D → ℕ) (left_since : D → ℕ → List ℕ → Type 0) (old new : Stored D) (h next : History) : Type 0 where
  pub keeps : OnOk result (Keeps seen may_leave new next)
  pub stopped : (image : List ℕ) → may_leave new.journal.disk image → StandsForEitherHistory old.server h next image
  pub any_moment : LeavesOnly moment left_since old.journal.disk new.journal.disk
      (StandsForEitherHistory old.server h next)
