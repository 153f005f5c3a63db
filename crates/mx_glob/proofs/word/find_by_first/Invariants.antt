use Rattle.std.proofs.Common.{◌≡◌, ◌+◌, ◌-◌, ℕ, ◌*◌, ◌<◌, ◌≤◌, length}
use Rattle.mx_json.specs.Folded.{RisesAtMost}
use Rattle.mx_glob.specs.Leads.{IsWordPlace}
use Rattle.mx_glob.specs.Words.{character_before}
use Rattle.mx_glob.proofs.word.find_by_first.Given as goal

abbrev pub invariant-loop-place : goal.invariant-loop-place
invariant-loop-place l =
    (l.before ≡ character_before l.value l.from)
    × RisesAtMost ((length l.segment + 1) * l.from) l.initial.meter l.meter
    × ((j : ℕ) → 0 ≤ j → j < l.from → IsWordPlace l.value l.segment l.whole j → ⊥)
    × (l.from ≤ l.past)

abbrev pub decreases-loop-place : goal.decreases-loop-place
decreases-loop-place l = l.past - l.from
