use Rattle.std.proofs.Common.{Ok}
use Rattle.push_server.proofs.AdmissionLemmas.{answered_too_long}
use Rattle.push_server.proofs.answer.answer.Goals as goal

pub returns-in_ok-denied_into-in-TooLong-clause-answered : goal.returns-in_ok-denied_into-in-TooLong-clause-answered
returns-in_ok-denied_into-in-TooLong-clause-answered g c h is =
    rw c.in-TooLong.is
    (answered_too_long {T = Unit {0}} {E = Unit {0}} (Ok tt) c.args.store.now.server h _ _ _ is
    c.in_ok-denied_into-in-TooLong.ensures.text)
