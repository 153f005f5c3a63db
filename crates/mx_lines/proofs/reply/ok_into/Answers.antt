use Rattle.mx_lines.proofs.ValueLemmas.{valid-ok}
use Rattle.mx_lines.proofs.reply.ok_into.Goals as goal

pub value_into-requires : goal.value_into-requires
value_into-requires c = rw c.in_ok-ok_value.ensures (valid-ok c.args.position c.requires)
