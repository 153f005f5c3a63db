use Rattle.push_server.proofs.CrashLemmas.{MovesTo-failed}
use Rattle.push_server.proofs.answer.accept.Goals as goal

pub returns-in-Err-DiskFault-clause-moves : goal.returns-in-Err-DiskFault-clause-moves
returns-in-Err-DiskFault-clause-moves g c h keeps =
    let disk = g.D.Disk in
    MovesTo-failed _ disk.seen disk.may_leave disk.moment disk.left_since c.args.store.now _ h c.args.input.now
    (λ image left. c.accept.ensures.stopped h image keeps left) (c.accept.ensures.any_moment h keeps)
