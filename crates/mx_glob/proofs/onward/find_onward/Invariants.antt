use Rattle.std.proofs.Common.{◌≡◌, ◌-◌, length, IsTrue}
use Rattle.mx_json.specs.Folded.{RisesAtMost}
use Rattle.mx_glob.specs.Automaton.{AreFalls, IsReached}
use Rattle.mx_glob.proofs.onward.find_onward.Given as goal

abbrev pub invariant-loop-entered : goal.invariant-loop-entered
invariant-loop-entered l = record {
  reached : IsReached l.value l.wanted.segment.now l.wanted.begins l.wanted.ends l.from l.reached.place l.reached.size
      l.reached.before;
  made : IsTrue l.is_made → AreFalls l.wanted.segment.now l.falls (length l.wanted.segment.now);
  room : length l.falls ≡ length l.initial.falls;
  reads : RisesAtMost (l.reached.place - l.from) l.initial.meter l.meter;
}

abbrev pub decreases-loop-entered : goal.decreases-loop-entered
decreases-loop-entered l = length l.value - l.reached.place
