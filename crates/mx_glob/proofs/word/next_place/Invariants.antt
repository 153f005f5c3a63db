use Rattle.std.proofs.Common.{◌≡◌, ◌-◌, ℕ, ◌<◌, ◌≤◌, slice_get, Some, None}
use Rattle.mx_json.specs.Folded.{RisesAtMost}
use Rattle.mx_glob.proofs.word.next_place.Given as goal

abbrev pub invariant-loop-place : goal.invariant-loop-place
invariant-loop-place l =
    (l.from ≤ l.place)
    × (l.place ≤ l.past)
    × ((j : ℕ) → l.from ≤ j → j < l.place → slice_get l.value j ≡ Some l.wanted → ⊥)
    × RisesAtMost (l.place - l.from) l.initial.counted l.counted
    × (l.found ≡ None)

abbrev pub decreases-loop-place : goal.decreases-loop-place
decreases-loop-place l = l.past - l.place
