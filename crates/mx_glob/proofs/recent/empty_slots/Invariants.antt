use Rattle.std.proofs.Common.{◌-◌, ◌≤◌, vec_len}
use Rattle.mx_glob.specs.declared.recent.TheConstants.{MOST_OTHERS}
use Rattle.mx_glob.proofs.recent.empty_slots.Given as goal

abbrev pub invariant-loop-alloc : goal.invariant-loop-alloc
invariant-loop-alloc l = vec_len l.slots ≤ MOST_OTHERS

abbrev pub decreases-loop-alloc : goal.decreases-loop-alloc
decreases-loop-alloc l = MOST_OTHERS - vec_len l.slots
