use Rattle.std.proofs.Common.{◌≡◌, take}
use Rattle.mx_rule.specs.Editing.{without}
use Rattle.mx_edit.proofs.lists.others.Given as goal

abbrev pub invariant-loop-rule : goal.invariant-loop-rule
invariant-loop-rule l = l.list.items ≡ without l.id (take l.rule-index l.rules)
