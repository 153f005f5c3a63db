use Rattle.std.proofs.Common.{◌≡◌, take, map}
use Rattle.mx_defaults.specs.Row.{rule_of}
use Rattle.mx_defaults.proofs.rules.rules_of.Given as goal

abbrev pub invariant-loop-row : goal.invariant-loop-row
invariant-loop-row l = l.rules.items ≡ map (rule_of l.owner) (take l.row-index l.rows)
