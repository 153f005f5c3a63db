use Rattle.std.proofs.Common.{◌≡◌, ℕ, ◌-◌, ◌<◌, ◌≤◌, length, slice_get, Some, None}
use Rattle.mx_json.specs.Folded.{RisesAtMost}
use Rattle.mx_glob.specs.Words.{character_before}
use Rattle.mx_glob.proofs.onward.scan.Given as goal

abbrev pub invariant-loop-here : goal.invariant-loop-here
invariant-loop-here l =
    (l.from ≤ l.place)
    × (l.place ≤ length l.value)
    × (l.found ≡ None)
    × ((j : ℕ) → l.from ≤ j → j < l.place → slice_get l.value j ≡ Some l.wanted → ⊥)
    × (l.fn.before ≡ character_before l.value l.from → l.previous ≡ character_before l.value l.place)
    × RisesAtMost (l.place - l.from) l.initial.counted l.counted

abbrev pub decreases-loop-here : goal.decreases-loop-here
decreases-loop-here l = length l.value - l.place
