-- Where bytes come next, they are some.
use Rattle.std.proofs.Common.{◌∙◌, ap, Some}
use Rattle.mx_outside.proofs.memory.opened.Opened.recv.Goals as goal

pub give-requires-clause-some : goal.give-requires-clause-some
give-requires-clause-some c =
    rw (← c.self.view_is) (c.next.ensures.some c.in-Some-Bytes.field-0-0
    (c.in-Some-Bytes.is ∙ ap (λ (s : _). Some s) c.in-Some-Bytes.field-0-is))
