use Rattle.std.proofs.Common.{◌+◌, ◌-◌, ℕ, ◌*◌, ◌<◌, ◌≤◌, length}
use Rattle.mx_json.specs.Folded.{RisesAtMost}
use Rattle.mx_glob.specs.Leads.{IsEndPlace}
use Rattle.mx_glob.proofs.rest.ends_word_tried.Given as goal

abbrev pub invariant-loop-place : goal.invariant-loop-place
invariant-loop-place l =
    (l.from ≤ l.place)
    × (l.place ≤ l.last + 1)
    × RisesAtMost ((length l.segment + 1) * (l.place - l.from)) l.initial.meter l.meter
    × ((j : ℕ) → l.from ≤ j → j < l.place → IsEndPlace l.value l.segment j → ⊥)

abbrev pub decreases-loop-place : goal.decreases-loop-place
decreases-loop-place l = l.last + 1 - l.place
