use Rattle.std.proofs.Common.{◌≡◌, ◌*◌, take}
use Rattle.mx_json.specs.Folded.{RisesAtMost}
use Rattle.mx_glob.proofs.glob.equals.Given as goal

abbrev pub invariant-loop-k : goal.invariant-loop-k
invariant-loop-k l =
    (take l.k l.value ≡ take l.k l.pattern) × RisesAtMost (2 * l.k) l.initial.meter l.meter
