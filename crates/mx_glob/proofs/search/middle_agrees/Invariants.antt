use Rattle.std.proofs.Common.{◌≡◌, ◌+◌, ◌-◌, ℕ, ◌<◌, ◌≤◌, length, slice_get}
use Rattle.mx_json.specs.Folded.{RisesAtMost}
use Rattle.mx_glob.proofs.search.middle_agrees.Given as goal

abbrev pub invariant-loop-k : goal.invariant-loop-k
invariant-loop-k l =
    (l.k - 1 ≤ length l.name - 2)
    × ((j : ℕ) → j < l.k → slice_get l.name j ≡ slice_get l.value (l.place + j))
    × RisesAtMost (l.k - 1) l.initial.meter l.meter
