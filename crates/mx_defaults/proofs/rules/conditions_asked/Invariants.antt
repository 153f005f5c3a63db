use Rattle.std.proofs.Common.{◌≡◌, take}
use Rattle.mx_defaults.specs.Row.{conditions_asked}
use Rattle.mx_defaults.proofs.rules.conditions_asked.Given as goal

abbrev pub invariant-loop-asked : goal.invariant-loop-asked
invariant-loop-asked l = l.conditions.items ≡ conditions_asked l.owner (take l.asked-index l.asks)
