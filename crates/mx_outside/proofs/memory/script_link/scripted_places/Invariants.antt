use Rattle.std.proofs.Common.{◌≡◌, map}
use Rattle.mx_outside.specs.ScriptLink.{place_for}
use Rattle.mx_outside.proofs.memory.script_link.scripted_places.Given as goal

abbrev pub invariant-loop-script : goal.invariant-loop-script
invariant-loop-script l = l.places.items ≡ map (place_for l.room) l.yielded
