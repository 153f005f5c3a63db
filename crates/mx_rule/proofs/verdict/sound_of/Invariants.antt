use Rattle.std.proofs.Common.{◌≡◌, take, option_map}
use Rattle.std.specs.Option.{option_copied}
use Rattle.mx_rule.specs.Actions.{last_said, sound_in}
use Rattle.mx_rule.proofs.verdict.sound_of.Given as goal

abbrev pub invariant-loop-action : goal.invariant-loop-action
invariant-loop-action l = option_map option_copied l.said ≡ last_said sound_in (take l.action-index l.actions)
