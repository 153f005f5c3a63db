use Rattle.std.proofs.Common.{◌+◌, ◌↔◌, drop}
use Rattle.mx_json.specs.Folded.{RisesAtMost}
use Rattle.mx_glob.specs.Leads.{FitsAt}
use Rattle.mx_glob.proofs.place.agrees.Given as goal

abbrev pub invariant-loop-k : goal.invariant-loop-k
invariant-loop-k l =
    (FitsAt l.value l.segment l.place ↔ FitsAt l.value (drop l.k l.segment) (l.place + l.k))
    × RisesAtMost l.k l.initial.meter l.meter
