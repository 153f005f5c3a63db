use Rattle.std.proofs.Common.{length, ◌-◌, ◌≤◌, ◌≡◌, ◌++◌, take}
use Rattle.mx_outside.specs.Told.{WhereTold}
use Rattle.push_server.proofs.writing.write_all.Given as goal

abbrev pub invariant-loop-at : goal.invariant-loop-at
invariant-loop-at g l = record {
  bytes : WhereTold (g.K.Sink.taken l.initial.sink) (g.K.Sink.taken l.sink) (λ old new. new ≡ old ++ take l.at l.text);
  within : l.at ≤ length l.text;
  steady : g.K.Sink.faults l.sink ≡ g.K.Sink.faults l.initial.sink;
}

abbrev pub decreases-loop-at : goal.decreases-loop-at
decreases-loop-at g l = length l.text - l.at
