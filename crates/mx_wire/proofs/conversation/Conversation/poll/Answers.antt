-- The exchange stays open.
use Rattle.mx_wire.proofs.Polling.{polls_open}
use Rattle.mx_wire.proofs.conversation.Conversation.poll.Goals as goal

pub returns-then-self-len-clause-open : goal.returns-then-self-len-clause-open
returns-then-self-len-clause-open g c = polls_open _ _ _ _ _ c.send.ensures.polls c.requires.open

pub returns-else-self-len-clause-open : goal.returns-else-self-len-clause-open
returns-else-self-len-clause-open g c = polls_open _ _ _ _ _ c.receive.ensures.polls c.requires.open
