use Rattle.std.proofs.Common.{◌≡◌, length}
use Rattle.mx_glob.specs.Automaton.{AreFalls}
use Rattle.mx_glob.proofs.fall.make_falls.Given as goal

abbrev pub invariant-loop-k : goal.invariant-loop-k
invariant-loop-k l = (length l.falls ≡ length l.initial.falls) × AreFalls l.segment l.falls l.k
