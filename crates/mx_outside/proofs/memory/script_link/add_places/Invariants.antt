use Rattle.std.proofs.Common.{◌≡◌, ◌++◌}
use Rattle.std.specs.Prelude.{replicate}
use Rattle.mx_outside.specs.Script.{unscripted}
use Rattle.mx_outside.specs.ScriptLink.{place_for}
use Rattle.mx_outside.proofs.memory.script_link.add_places.Given as goal

abbrev pub invariant-loop : goal.invariant-loop
invariant-loop l = l.places.items ≡ l.initial.places.items ++ replicate l.counter (place_for l.room unscripted)
