use Rattle.std.proofs.Common.{◌+◌, ◌-◌, ◌*◌, ◌<◌, ◌≤◌, length}
use Rattle.mx_glob.specs.Search.{NoneEnds}
use Rattle.mx_glob.proofs.search.has_word.Given as goal

abbrev pub invariant-loop-end : goal.invariant-loop-end
invariant-loop-end l = record {
  long : length l.name ≤ l.from + 1;
  in_text : l.from < length l.value;
  never_falls : l.initial.meter ≤ l.meter;
  ahead : l.meter + 2 * length l.name ≤ l.initial.meter + 2 * (l.from + 1);
  none : NoneEnds l.value l.name 0 l.from;
}

abbrev pub decreases-loop-end : goal.decreases-loop-end
decreases-loop-end l = length l.value - l.from
