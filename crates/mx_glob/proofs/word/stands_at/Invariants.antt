use Rattle.std.proofs.Common.{◌≡◌, ℕ, ◌+◌, ◌*◌, ◌<◌, slice_get}
use Rattle.mx_json.specs.Folded.{RisesAtMost}
use Rattle.mx_glob.proofs.word.stands_at.Given as goal

abbrev pub invariant-loop-k : goal.invariant-loop-k
invariant-loop-k l =
    ((j : ℕ) → j < l.k → slice_get l.name j ≡ slice_get l.value (l.place + j))
    × RisesAtMost (2 * l.k) l.initial.meter l.meter
