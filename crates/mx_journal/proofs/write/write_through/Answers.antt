-- A crash leaves the write torn, before the sync and after it.
use Rattle.std.proofs.Common.{length}
use Rattle.mx_journal.proofs.Moments.{LeavesOnly-write, LeavesOnly-more}
use Rattle.mx_journal.proofs.write.write_through.Goals as goal

pub returns-in_err-write_at-clause-any_moment : goal.returns-in_err-write_at-clause-any_moment
returns-in_err-write_at-clause-any_moment g c =
    LeavesOnly-write g.D.Disk.may_leave c.args.disk.now c.write_at.new.self c.args.at (length c.args.piece.now)
    (g.met.D.Disk.only_now c.args.disk.now) c.write_at.ensures.time c.write_at.ensures.crash

pub returns-in_err-sync-clause-any_moment : goal.returns-in_err-sync-clause-any_moment
returns-in_err-sync-clause-any_moment g c =
    let torn = LeavesOnly-write g.D.Disk.may_leave c.args.disk.now c.write_at.new.self c.args.at
    (length c.args.piece.now) (g.met.D.Disk.only_now c.args.disk.now) c.write_at.ensures.time
    c.write_at.ensures.crash in
    LeavesOnly-more c.sync.new.self torn c.sync.ensures.time
    (λ image may. c.write_at.ensures.crash image (c.sync.ensures.crash image may))

pub returns-clause-any_moment : goal.returns-clause-any_moment
returns-clause-any_moment g c =
    let torn = LeavesOnly-write g.D.Disk.may_leave c.args.disk.now c.write_at.new.self c.args.at
    (length c.args.piece.now) (g.met.D.Disk.only_now c.args.disk.now) c.write_at.ensures.time
    c.write_at.ensures.crash in
    LeavesOnly-more c.sync.new.self torn c.sync.ensures.time
    (λ image may. c.write_at.ensures.crash image (c.sync.ensures.crash image may))
