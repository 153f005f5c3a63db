use Rattle.std.proofs.Common.{◌≡◌, None}
use Rattle.mx_pusher.specs.Track.{IsNotBelow, last_failed}
use Rattle.pushers_tests.proofs.pushers.next_after.Given as goal

abbrev pub invariant-loop : goal.invariant-loop
invariant-loop l = (l.pusher.in_flight ≡ None) × IsNotBelow (last_failed l.pusher) 4
