use Rattle.std.proofs.Common.{◌≡◌, take}
use Rattle.mx_rule.specs.Actions.{highlight_in, last_said}
use Rattle.mx_rule.proofs.verdict.says_highlight.Given as goal

abbrev pub invariant-loop-action : goal.invariant-loop-action
invariant-loop-action l = l.said ≡ last_said highlight_in (take l.action-index l.actions)
