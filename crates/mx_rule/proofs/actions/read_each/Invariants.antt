use Rattle.std.proofs.Common.{◌≡◌, map, take}
use Rattle.mx_rule.specs.Actions.{action_of}
use Rattle.mx_rule.proofs.actions.read_each.Given as goal

abbrev pub invariant-loop-json : goal.invariant-loop-json
invariant-loop-json l = l.read.items ≡ map action_of (take l.json-index l.given)
