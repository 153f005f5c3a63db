use Rattle.std.proofs.Common.{inl}
use Rattle.mx_records.proofs.FormLemmas.{value-right, value-wrong}
use Rattle.mx_records.proofs.input.read_event.Goals as goal

pub returns-in-Ok : goal.returns-in-Ok
returns-in-Ok c = value-right c.args.json c.take_event.result c.in-Ok.event c.take_event.ensures.value c.in-Ok.ensures

pub returns-in-Err-BadEvent : goal.returns-in-Err-BadEvent
returns-in-Err-BadEvent c =
    inl (rw c.name_in_event.ensures
    (value-wrong c.args.json c.take_event.result c.in-Err-BadEvent.field-0 c.in-Err-BadEvent.field
    c.take_event.ensures.value c.in-Err-BadEvent.field-0-is c.in-Err-BadEvent.ensures))
