use Rattle.std.proofs.Common.{◌≡◌, take, map}
use Rattle.mx_json.specs.declared.value.Json.{Text}
use Rattle.mx_defaults.proofs.values.object_of.Given as goal

abbrev pub invariant-loop-key : goal.invariant-loop-key
invariant-loop-key l = l.pairs.items ≡ map (λ member. (member.0.now, Text member.1.now)) (take l.key-index l.members)
