use Rattle.std.proofs.Common.{◌≡◌, ◌-◌, ◌≤◌, length, min, None}
use Rattle.mx_json.specs.Folded.{RisesAtMost}
use Rattle.mx_glob.specs.Search.{NoneEnds}
use Rattle.mx_glob.proofs.search.Search.next_end.Given as goal

abbrev pub invariant-loop-here : goal.invariant-loop-here
invariant-loop-here l =
    (l.from ≤ l.end)
    × NoneEnds l.value l.self l.from l.end
    × RisesAtMost (min l.end (length l.value) - l.from) l.initial.counted l.counted
    × (l.found ≡ None)

abbrev pub decreases-loop-here : goal.decreases-loop-here
decreases-loop-here l = length l.value - l.end
