use Rattle.std.proofs.Common.{ℕ, ◌+◌, ◌*◌, ◌<◌, length}
use Rattle.mx_json.specs.Folded.{RisesAtMost}
use Rattle.mx_glob.specs.Leads.{IsNameAt}
use Rattle.mx_glob.proofs.word.long_word.Given as goal

abbrev pub invariant-loop-place : goal.invariant-loop-place
invariant-loop-place l =
    ((j : ℕ) → j < l.place → IsNameAt l.value l.name j → ⊥)
    × RisesAtMost (2 * (length l.name + 1) * l.place) l.initial.meter l.meter
