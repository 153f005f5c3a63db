use Rattle.std.proofs.Common.{◌≡◌, ◌++◌, [], drop}
use Rattle.mx_rule.specs.Printed.{separated}
use Rattle.mx_rule.proofs.printing.write_conditions.Given as goal

abbrev pub invariant-loop-condition : goal.invariant-loop-condition
invariant-loop-condition l =
    l.out.items ++ separated l.separator (drop l.condition-index l.conditions)
    ≡ l.initial.out.items ++ separated [] l.conditions
