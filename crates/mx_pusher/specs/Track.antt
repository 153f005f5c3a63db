-- What a pusher keeps of its course in this run, and of which courses it does.
use Rattle.std.specs.Prelude.{◌≡◌, ℕ, ◌+◌, ◌-◌, ◌^◌, ◌≤◌, length, Option, Some, None, IfSome, option_map, eqb}
use Rattle.std.specs.Prelude.{if◌then◌else◌}
use Rattle.mx_pusher.specs.declared.failure.Failure.{Failure}
use Rattle.mx_pusher.specs.Course.{Course, flight_in, recent_failures, backoff, next_in, last_failed_in, first_failure}

-- What is seen of a `Pusher`: its number, what is in flight, how long it waits after the next failure, from
-- when on it is posted again, and the last position that failed with its first failure.
pub record Track : Type 0 where
  pub number : ℕ
  pub in_flight : Option ℕ
  pub pause : ℕ  -- how long it waits after the next failure
  pub next : Option ℕ  -- from when on it is posted again, if it failed since the last settlement
  pub failing : Option Failure  -- the last position that failed, and when it failed first

-- the latest moment that there is
abbrev pub greatest_moment : ℕ
greatest_moment = 2 ^ 53 - 1

-- the position that failed
abbrev pub position_of : Option Failure → Option ℕ
position_of failing = option_map (λ (failure : Failure). failure.position) failing

-- the last position that failed
abbrev pub last_failed : Track → Option ℕ
last_failed track = position_of track.failing

-- no position above this one failed last
abbrev pub IsNotBelow : Option ℕ → ℕ → Type 0
IsNotBelow last position = IfSome last (λ failed. failed ≤ position)

-- what is in flight, if anything, isn't below the last position that failed
abbrev pub IsInOrder : Option ℕ → Option ℕ → Type 0
IsInOrder in_flight last = IfSome in_flight (IsNotBelow last)

-- when this position failed first, if it is the one that is kept
abbrev pub first_kept : Option Failure → ℕ → Option ℕ
first_kept None position = None
first_kept (Some failure) position =
    if eqb failure.position position then Some failure.moment else None

-- What is kept is that of this course. The first failure is known of each position that isn't below
-- the last one that failed, and so of each that may still be pending.
pub record StandsFor (track : Track) (course : Course) : Type 0 where
  pub in_flight : track.in_flight ≡ flight_in course
  pub pause : track.pause ≡ backoff (length (recent_failures course) + 1)
  pub next : track.next ≡ next_in course
  pub last_failed : last_failed track ≡ last_failed_in course
  pub first : (position : ℕ) → IsNotBelow (last_failed_in course) position
      → first_failure course position ≡ first_kept track.failing position

-- this is so for each course that the pusher stands for
abbrev pub EachCourse : Track → (Course → Type 0) → Type 0
EachCourse track P = (course : Course) → StandsFor track course → P course
