use Rattle.std.proofs.Common.{◌≡◌, ◌++◌, [], drop}
use Rattle.mx_rule.specs.Printed.{separated}
use Rattle.mx_rule.proofs.printing.write_actions.Given as goal

abbrev pub invariant-loop-action : goal.invariant-loop-action
invariant-loop-action l =
    l.out.items ++ separated l.separator (drop l.action-index l.actions) ≡ l.initial.out.items ++ separated [] l.actions
