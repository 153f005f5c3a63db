use Rattle.mx_lines.proofs.ValueLemmas.{valid-denied}
use Rattle.mx_lines.proofs.reply.denied_into.Goals as goal

pub value_into-requires : goal.value_into-requires
value_into-requires c = rw c.in_ok-denied_value.ensures (valid-denied c.args.denial.now c.requires)
