use Rattle.mx_defaults.proofs.RowLemmas.{actions_of-valid}
use Rattle.mx_defaults.proofs.rules.read_actions.Goals as goal

pub read-requires : goal.read-requires
read-requires c = rw c.in_ok-actions_of.ensures (actions_of-valid c.args.does.now c.requires)
