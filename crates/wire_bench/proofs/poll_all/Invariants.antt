use Rattle.std.proofs.Common.{◌≡◌, false}
use Rattle.mx_outside.specs.Link.{IsOpen}
use Rattle.mx_outside.specs.ScriptLink.{log_of}
use Rattle.wire_bench.proofs.poll_all.Given as goal

abbrev pub invariant-loop-polls : goal.invariant-loop-polls
invariant-loop-polls l =
    (l.exchange.done ≡ false) × IsOpen (log_of l.link) l.exchange.number × (l.exchange.opened_at ≡ 0)
