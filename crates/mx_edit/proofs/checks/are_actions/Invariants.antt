use Rattle.std.proofs.Common.{◌≡◌, drop}
use Rattle.std.specs.List.{list_all}
use Rattle.mx_rule.specs.Editing.{is_action}
use Rattle.mx_edit.proofs.checks.are_actions.Given as goal

abbrev pub invariant-loop-json : goal.invariant-loop-json
invariant-loop-json l = list_all is_action l.given ≡ list_all is_action (drop l.json-index l.given)
