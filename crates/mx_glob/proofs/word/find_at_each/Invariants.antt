use Rattle.std.proofs.Common.{◌≡◌, ◌+◌, ◌-◌, ℕ, ◌*◌, ◌<◌, ◌≤◌, length}
use Rattle.mx_json.specs.Folded.{RisesAtMost}
use Rattle.mx_glob.specs.Leads.{IsWordPlace}
use Rattle.mx_glob.specs.Words.{character_before}
use Rattle.mx_glob.proofs.word.find_at_each.Given as goal

abbrev pub invariant-loop-here : goal.invariant-loop-here
invariant-loop-here l =
    (l.before ≡ character_before l.value l.place)
    × RisesAtMost ((length l.segment + 1) * l.place) l.initial.meter l.meter
    × ((j : ℕ) → 0 ≤ j → j < l.place → IsWordPlace l.value l.segment l.whole j → ⊥)
    × (l.place ≤ l.last)

abbrev pub decreases-loop-here : goal.decreases-loop-here
decreases-loop-here l = l.last - l.place
