use Rattle.std.proofs.Common.{◌≡◌, ◌+◌, ◌-◌, ◌*◌, ◌≤◌, ◌↔◌, length}
use Rattle.mx_json.specs.Folded.{RisesAtMost}
use Rattle.mx_glob.specs.Automaton.{IsExact}
use Rattle.mx_glob.specs.Leads.{LeadsOn, ends_at}
use Rattle.mx_glob.proofs.rest.leads_on.Given as goal

abbrev pub invariant-loop-segment : goal.invariant-loop-segment
invariant-loop-segment l =
    (l.from ≤ l.reached)
    × (l.reached ≤ length l.value)
    × (length l.rest ≤ length l.pattern)
    × (LeadsOn (ends_at l.end l.value) l.value l.pattern l.from
    ↔ LeadsOn (ends_at l.end l.value) l.value l.rest l.reached)
    × RisesAtMost ((length l.pattern + 1) * (l.reached - l.from)) l.initial.meter l.meter
    × (IsExact l.pattern → IsExact l.rest × RisesAtMost (2 * (l.reached - l.from)) l.initial.meter l.meter)
    × (length l.falls ≡ length l.initial.falls)

abbrev pub decreases-loop-segment : goal.decreases-loop-segment
decreases-loop-segment l = length l.rest
