use Rattle.std.proofs.Common.{◌≡◌, drop}
use Rattle.mx_rule.specs.Editing.{flag_of}
use Rattle.mx_edit.proofs.put.flag_of.Given as goal

abbrev pub invariant-loop-rule : goal.invariant-loop-rule
invariant-loop-rule l = flag_of l.id l.rules ≡ flag_of l.id (drop l.rule-index l.rules)
