use Rattle.std.proofs.Common.{Ok, Err}
use Rattle.std.proofs.lemmas.Result.{err_from_is_err_and}
use Rattle.push_server.specs.Crash.{LeavesSince, Stands}
use Rattle.push_server.proofs.KeepingLemmas.{left_before, left_part, stands_cut}
use Rattle.push_server.proofs.StepLemmas.{halted_before_writing, wrote_cut, wrote_part_of_cut}
use Rattle.push_server.proofs.session.answer_cut.Goals as goal

pub returns-in_err-answer-clause-extends : goal.returns-in_err-answer-clause-extends
returns-in_err-answer-clause-extends g c start run answered goes_on shows =
    let server = c.args.store.now.server in
    let disk = g.D.Disk in
    let error = err_from_is_err_and c.from_residual.result c.from_residual.ensures.1 in
    rw (error.1, error.2)
    (halted_before_writing _ server start.history run _ _ answered _ goes_on
    (left_before c.answer.result disk.seen disk.may_leave disk.moment disk.left_since c.args.cut
    c.args.store.now _ start run
    answered goes_on shows c.answer.ensures.moves))

pub returns-in_err-write_all-clause-extends : goal.returns-in_err-write_all-clause-extends
returns-in_err-write_all-clause-extends g c start run answered goes_on shows =
    let server = c.args.store.now.server in
    let disk = g.D.Disk in
    let error =
    err_from_is_err_and c.from_residual-in_err-write_all.result c.from_residual-in_err-write_all.ensures.1 in
    let written = rw c.as_slice.ensures.value at c.in_err-write_all.ensures.bytes in
    let answer = c.in_ok-answer.ensures.answered goes_on.now goes_on.stands_for.knows in
    rw (error.1, error.2)
    (wrote_part_of_cut c.args.cut server start.history run _ _ _ answered _ _ _ _ goes_on shows
    c.clear.ensures.items answer
    (left_part c.in_ok-answer.field-0 disk.seen disk.may_leave disk.moment disk.left_since c.args.cut
    c.args.store.now _ start
    run answered _ goes_on c.in_ok-answer.ensures.server c.in_ok-answer.ensures.moves) written)

pub returns-clause-extends : goal.returns-clause-extends
returns-clause-extends g c start run answered goes_on shows =
    let server = c.args.store.now.server in
    let disk = g.D.Disk in
    let written = rw c.as_slice.ensures.value at c.in_ok-write_all.ensures.bytes in
    let answer = c.in_ok-answer.ensures.answered goes_on.now goes_on.stands_for.knows in
    wrote_cut c.args.cut server start.history run _ _ _ answered _ _ _ _ goes_on shows c.clear.ensures.items answer
    (stands_cut c.in_ok-answer.field-0 disk.seen disk.may_leave disk.moment disk.left_since c.args.cut
    c.args.store.now _ start
    run answered _ _ goes_on shows answer c.in_ok-answer.ensures.server c.in_ok-answer.ensures.moves) written
