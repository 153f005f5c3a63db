-- Some of the reply was received.
use Rattle.std.proofs.Common.{refl, arith}
use Rattle.mx_wire.proofs.Polling.{polls_gets}
use Rattle.mx_wire.proofs.conversation.Conversation.receive_into.Goals as goal

pub returns-in-Bytes-clause-polls : goal.returns-in-Bytes-clause-polls
returns-in-Bytes-clause-polls g c =
    let inside = c.self.inside in
    let sent = rw (← c.self.view_is) at c.requires.sent in
    let room = rw (← c.self.view_is) at c.requires.room in
    let heard = rw (← c.self.view_is) at c.take.ensures.heard in
    let given = (c.in-Bytes.ensures).received in
    rw (← c.self.view_is) (polls_gets _ _ _ _ _ c.in-Bytes.count c.recv.new.into _ sent (omega (arith, given.1))
    (given.0, omega (arith, given.1)) refl (c.in-Bytes.ensures).log heard)
