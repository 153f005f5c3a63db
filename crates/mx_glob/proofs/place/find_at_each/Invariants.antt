use Rattle.std.proofs.Common.{◌+◌, ◌-◌, ℕ, ◌*◌, ◌<◌, ◌≤◌, length}
use Rattle.mx_json.specs.Folded.{RisesAtMost}
use Rattle.mx_glob.specs.Leads.{IsPlace}
use Rattle.mx_glob.proofs.place.find_at_each.Given as goal

abbrev pub invariant-loop-place : goal.invariant-loop-place
invariant-loop-place l =
    (l.from ≤ l.place)
    × (l.place - l.from ≤ l.last + 1 - l.from)
    × RisesAtMost (length l.segment * (l.place - l.from)) l.initial.meter l.meter
    × ((j : ℕ) → l.from ≤ j → j < l.place → IsPlace l.value l.segment j → ⊥)

abbrev pub decreases-loop-place : goal.decreases-loop-place
decreases-loop-place l = l.last + 1 - l.place
