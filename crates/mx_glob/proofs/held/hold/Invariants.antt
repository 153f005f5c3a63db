use Rattle.std.proofs.Common.{◌≡◌, length, take}
use Rattle.mx_json.specs.Folded.{RisesAtMost}
use Rattle.mx_glob.proofs.held.hold.Given as goal

abbrev pub invariant-loop-k : goal.invariant-loop-k
invariant-loop-k l =
    (length l.room ≡ length l.initial.room)
    × (take l.k l.room ≡ take l.k l.text)
    × RisesAtMost l.k l.initial.meter l.meter
