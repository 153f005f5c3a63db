-- What became of one pusher in this run, and what follows from it: what is in flight, when the
-- pusher is due, and when a giving up is ripe. Ours; moments are in milliseconds.
use Rattle.std.specs.Prelude.{◌≡◌, ℕ, ◌+◌, ◌-◌, ◌*◌, ◌^◌, ◌≤◌, min, List, [], ◌∷◌, length, Option, Some, None, IfSome}
use Rattle.std.specs.Prelude.{eqb, if◌then◌else◌}
use Rattle.std.specs.Option.{option_or}
use Rattle.mx_pusher.specs.declared.failure.Failure.{Failure}

-- an exchange was opened for a position; the exchange for a position failed at a moment; or an
-- exchange was settled or a position given up, which settles it
pub data PusherStep : Type 0 where
  posted : ℕ → PusherStep
  failed : ℕ → ℕ → PusherStep
  settled : PusherStep

-- what became of a pusher in this run, the newest step first
abbrev pub Course : Type 0
Course = List PusherStep

-- the position that is in flight: that of the last step, where it opened an exchange
abbrev pub flight_in : Course → Option ℕ
flight_in [] = None
flight_in (posted position ∷ _) = Some position
flight_in (failed _ _ ∷ _) = None
flight_in (settled ∷ _) = None

-- ---- backoff

-- the failures since the last settlement, the newest first
abbrev pub recent_failures : Course → List Failure
recent_failures [] = []
recent_failures (posted _ ∷ earlier) = recent_failures earlier
recent_failures (failed position moment ∷ earlier) =
    record { position = position; moment = moment } ∷ recent_failures earlier
recent_failures (settled ∷ _) = []

-- how long a pusher waits after so many failures: a second, then twice as long each time, and at
-- most an hour
abbrev pub backoff : ℕ → ℕ
backoff count = min (1000 * 2 ^ (count - 1)) 3600000

-- from when on it is posted again, after these failures
abbrev pub next_after : List Failure → Option ℕ
next_after [] = None
next_after (last ∷ before) = Some (last.moment + backoff (length before + 1))

-- The moment from which on the pusher may post again, where a failure makes it wait.
abbrev pub next_in : Course → Option ℕ
next_in course = next_after (recent_failures course)

-- A pusher is due where nothing is in flight, and it has not failed since the last settlement or
-- has waited long enough.
pub record IsDue (course : Course) (now : ℕ) : Type 0 where
  pub idle : flight_in course ≡ None
  pub waited : IfSome (next_in course) (λ next. next ≤ now)

-- ---- giving up

-- the last position that failed in this run
abbrev pub last_failed_in : Course → Option ℕ
last_failed_in [] = None
last_failed_in (posted _ ∷ earlier) = last_failed_in earlier
last_failed_in (failed position _ ∷ _) = Some position
last_failed_in (settled ∷ earlier) = last_failed_in earlier

-- the moment of the first failure of this position in this run
abbrev pub first_failure : Course → ℕ → Option ℕ
first_failure [] position = None
first_failure (posted _ ∷ earlier) position = first_failure earlier position
first_failure (failed other moment ∷ earlier) position =
    option_or (first_failure earlier position) (if eqb other position then Some moment else None)
first_failure (settled ∷ earlier) position = first_failure earlier position

-- how long a position may fail: a day
abbrev pub patience : ℕ
patience = 86400000

-- A giving up of the position, where that is the least pending one, is ripe where nothing is in
-- flight and the position failed first at this moment, a day ago or earlier.
pub record IsRipe (course : Course) (position now since : ℕ) : Type 0 where
  pub idle : flight_in course ≡ None
  pub first : first_failure course position ≡ Some since
  pub past : since + patience ≤ now
