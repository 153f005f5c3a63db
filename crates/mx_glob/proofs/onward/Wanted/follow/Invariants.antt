use Rattle.std.proofs.Common.{◌-◌, ◌≤◌, length}
use Rattle.mx_json.specs.Folded.{RisesAtMost}
use Rattle.mx_glob.specs.Automaton.{IsReached}
use Rattle.mx_glob.proofs.onward.Wanted.follow.Given as goal

abbrev pub invariant-loop-now : goal.invariant-loop-now
invariant-loop-now l = record {
  on : l.fn.reached.place ≤ l.now.place;
  reached : IsReached l.value l.self.segment.now l.self.begins l.self.ends l.from l.now.place l.now.size l.now.before;
  reads : RisesAtMost (l.now.place - l.fn.reached.place) l.initial.meter l.meter;
}

abbrev pub decreases-loop-now : goal.decreases-loop-now
decreases-loop-now l = length l.value - l.now.place
