use Rattle.std.proofs.Common.{◌-◌, ◌<◌}
use Rattle.mx_glob.specs.Automaton.{StandsAt}
use Rattle.mx_glob.proofs.FallLemmas.{NoneLonger}
use Rattle.mx_glob.proofs.fall.fallen_state.Given as goal

abbrev pub invariant-loop-here : goal.invariant-loop-here
invariant-loop-here l =
    (l.shorter < l.state)
    × StandsAt l.segment l.segment l.shorter (l.state - l.shorter)
    × NoneLonger l.segment l.state l.here l.shorter

abbrev pub decreases-loop-here : goal.decreases-loop-here
decreases-loop-here l = l.shorter
