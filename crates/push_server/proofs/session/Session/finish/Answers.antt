use Rattle.push_server.proofs.KeepingLemmas.{left_standing}
use Rattle.push_server.proofs.SessionLemmas.{answers_last}
use Rattle.push_server.proofs.session.Session.finish.Goals as goal

pub returns-clause-extends : goal.returns-clause-extends
returns-clause-extends g c =
    let disk = g.D.Disk in
    answers_last c.answer_cut.result c.args.self.now.store.server c.finish.result _ _ _ c.args.self.now.lines _ _
    c.requires.cut
    c.finish.ensures.lines c.answer_cut.ensures.extends
    (λ start. left_standing disk.seen disk.may_leave disk.moment disk.left_since c.args.self.now.store.server _ start
    c.answer_cut.ensures.server)
