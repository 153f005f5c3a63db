use Rattle.std.proofs.Common.{◌≡◌, take}
use Rattle.mx_defaults.specs.Row.{actions_of}
use Rattle.mx_defaults.proofs.values.actions_of.Given as goal

abbrev pub invariant-loop-each : goal.invariant-loop-each
invariant-loop-each l = l.actions.items ≡ actions_of (take l.each-index l.does)
