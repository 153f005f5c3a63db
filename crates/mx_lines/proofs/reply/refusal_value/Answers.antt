use Rattle.mx_lines.proofs.reply.refusal_value.Goals as goal

pub returns-in-NotLocal : goal.returns-in-NotLocal
returns-in-NotLocal c = rw c.in-NotLocal.is c.error_value.ensures

pub returns-in-UnknownEvent : goal.returns-in-UnknownEvent
returns-in-UnknownEvent c = rw c.in-UnknownEvent.is c.error_value-in-UnknownEvent.ensures
