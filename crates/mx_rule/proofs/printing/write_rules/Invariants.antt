use Rattle.std.proofs.Common.{◌≡◌, ◌++◌, [], drop}
use Rattle.mx_rule.proofs.PrintLemmas.{rules_text}
use Rattle.mx_rule.proofs.printing.write_rules.Given as goal

abbrev pub invariant-loop-rule : goal.invariant-loop-rule
invariant-loop-rule l =
    l.out.items ++ rules_text l.separator (drop l.rule-index l.rules) ≡ l.initial.out.items ++ rules_text [] l.rules
