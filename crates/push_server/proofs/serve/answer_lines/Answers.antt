use Rattle.std.proofs.Common.{Ok, Err, take, ◌∙◌, refl, ap, sym, arith}
use Rattle.mx_lines.specs.Cutting.{Held}
use Rattle.push_server.specs.Crash.{LeavesSince, Stands}
use Rattle.push_server.proofs.KeepingLemmas.{left_halted, left_standing}
use Rattle.push_server.proofs.ServeLemmas.{HasTaken-nothing, HasTaken-more, Running-starts, Running-piece}
use Rattle.push_server.proofs.ServeLemmas.{HasLawfulRun-halted, HasLawfulRun-last, HasLawfulRun-failed}
use Rattle.push_server.proofs.ServeLemmas.{HasLawfulRun-limit}
use Rattle.push_server.proofs.ServeLemmas.{LastExtends-server, PieceExtends-server, limit_reached, not_limit}
use Rattle.push_server.proofs.serve.answer_lines.Goals as goal

pub loop-left_of_limit-init : goal.loop-left_of_limit-init
loop-left_of_limit-init g c = record {
  some = c.requires.some;
  small = c.requires.small;
  server = refl;
  cut = ap (λ (held : Held). held.ended) c.requires.lines;
  ready = c.requires.ready;
  taken = HasTaken-nothing c.args.limit _;
  running = λ start stands left left_told before taken_told.
      Running-starts c.args.limit c.args.session.now.store.server start.history left before _ _ _ _ left_told
      taken_told stands
      c.requires.lines;
  read_steady = refl;
  write_steady = refl;
  disk_steady = refl;
  same_disk = g.met.D.Disk.same_disk_now _;
}

pub returns-in-Err-clause-lawful : goal.returns-in-Err-clause-lawful
returns-in-Err-clause-lawful g c start stands left left_told before taken_told =
    let disk = g.D.Disk in
    let server = c.args.session.now.store.server in
    let new = c.answer_piece.new.self in
    rw c.status.ensures
    (HasLawfulRun-halted (Unit {0}) c.in-Err.halt c.args.limit c.loop-left_of_limit.left_of_limit c.in-Bytes.count
    server start.history left before c.read_piece.new.buffer _ _ _ _ _
    (Stands disk.seen disk.may_leave disk.moment disk.left_since new.store start)
    (LeavesSince disk.may_leave disk.moment disk.left_since server new.store.journal.disk start) _ new.lines
    (left_halted disk.may_leave disk.moment disk.left_since server _ start)
    (c.loop-left_of_limit.invariant.running start stands left left_told before taken_told) c.in-Bytes.ensures.given.1
    c.in-Bytes.ensures.within c.in-Bytes.ensures.bytes
    (PieceExtends-server {T = Unit {0}} c.loop-left_of_limit.session.store.server server start.history
    (take c.in-Bytes.count c.read_piece.new.buffer)
    (Stands disk.seen disk.may_leave disk.moment disk.left_since c.loop-left_of_limit.session.store start)
    c.loop-left_of_limit.session.lines (Err c.in-Err.halt)
    (Stands disk.seen disk.may_leave disk.moment disk.left_since new.store start)
    (λ name. LeavesSince disk.may_leave disk.moment disk.left_since name new.store.journal.disk start) new.lines _ _
    c.loop-left_of_limit.invariant.server (c.in-Err.ensures.extends start)))

pub loop-left_of_limit-preserved : goal.loop-left_of_limit-preserved
loop-left_of_limit-preserved g c =
    let disk = g.D.Disk in
    let server = c.args.session.now.store.server in
    let new = c.answer_piece.new.self in
    record {
      some = omega (arith, c.loop-left_of_limit.invariant.some);
      small = omega (arith, c.loop-left_of_limit.invariant.small);
      server = c.in_default.ensures.server ∙ c.loop-left_of_limit.invariant.server;
      cut = c.in_default.ensures.cut;
      ready = c.in_default.ensures.ready;
      taken =
          HasTaken-more c.args.limit c.loop-left_of_limit.left_of_limit c.in-Bytes.count c.read_piece.new.buffer _ _ _
          c.in-Bytes.ensures.given.1 c.in-Bytes.ensures.within c.loop-left_of_limit.invariant.taken
          c.in-Bytes.ensures.bytes;
      running = λ start stands left left_told before taken_told.
          Running-piece c.in_default.field-0 c.args.limit c.loop-left_of_limit.left_of_limit c.in-Bytes.count
          server start.history left before c.read_piece.new.buffer _ _ _ _ _
          (Stands disk.seen disk.may_leave disk.moment disk.left_since new.store start)
          (LeavesSince disk.may_leave disk.moment disk.left_since server new.store.journal.disk start) _ _
          (c.loop-left_of_limit.invariant.running start stands left left_told before taken_told)
          c.in-Bytes.ensures.given.1
          c.in-Bytes.ensures.within c.in-Bytes.ensures.bytes
          (PieceExtends-server c.loop-left_of_limit.session.store.server server start.history
          (take c.in-Bytes.count c.read_piece.new.buffer)
          (Stands disk.seen disk.may_leave disk.moment disk.left_since c.loop-left_of_limit.session.store start)
          c.loop-left_of_limit.session.lines (Ok c.in_default.field-0)
          (Stands disk.seen disk.may_leave disk.moment disk.left_since new.store start)
          (λ name. LeavesSince disk.may_leave disk.moment disk.left_since name new.store.journal.disk start)
          new.lines _ _
          c.loop-left_of_limit.invariant.server (c.in_default.ensures.extends start));
      read_steady = c.in-Bytes.ensures.steady (λ failed. cc) ∙ c.loop-left_of_limit.invariant.read_steady;
      write_steady = c.in_default.ensures.steady (λ failed. cc) ∙ c.loop-left_of_limit.invariant.write_steady;
      disk_steady = c.in_default.ensures.disk_steady (λ failed. cc) ∙ c.loop-left_of_limit.invariant.disk_steady;
      same_disk = g.met.D.Disk.same_disk_then _ _ _ c.loop-left_of_limit.invariant.same_disk c.in_default.ensures.stays;
    }

pub returns-in-Ok-clause-lawful : goal.returns-in-Ok-clause-lawful
returns-in-Ok-clause-lawful g c start stands left left_told before taken_told =
    let disk = g.D.Disk in
    let server = c.args.session.now.store.server in
    let old = c.loop-left_of_limit.session in
    let new = c.finish.new.self in
    HasLawfulRun-last {T = Unit {0}} (Ok tt) c.args.limit c.loop-left_of_limit.left_of_limit server start.history left
    before c.read_piece.new.buffer _ _ _ _ (Stands disk.seen disk.may_leave disk.moment disk.left_since old.store start)
    (LeavesSince disk.may_leave disk.moment disk.left_since server new.store.journal.disk start) _
    (left_halted disk.may_leave disk.moment disk.left_since server _ start) c.loop-left_of_limit-test.true
    (c.loop-left_of_limit.invariant.running start stands left left_told before taken_told) c.in-End.ensures.bytes
    (LastExtends-server {T = Unit {0}} old.store.server server start.history
    (Stands disk.seen disk.may_leave disk.moment disk.left_since old.store start) old.lines (Ok tt)
    (λ name. LeavesSince disk.may_leave disk.moment disk.left_since name new.store.journal.disk start) _ _
    c.loop-left_of_limit.invariant.server (c.in-Ok.ensures.extends start))

pub returns-in-Err-finish-clause-lawful : goal.returns-in-Err-finish-clause-lawful
returns-in-Err-finish-clause-lawful g c start stands left left_told before taken_told =
    let disk = g.D.Disk in
    let server = c.args.session.now.store.server in
    let old = c.loop-left_of_limit.session in
    let new = c.finish.new.self in
    rw c.status-in-Err-finish.ensures
    (HasLawfulRun-last {T = Unit {0}} (Err c.in-Err-finish.halt) c.args.limit c.loop-left_of_limit.left_of_limit server
    start.history left before c.read_piece.new.buffer _ _ _ _
    (Stands disk.seen disk.may_leave disk.moment disk.left_since old.store start)
    (LeavesSince disk.may_leave disk.moment disk.left_since server new.store.journal.disk start) _
    (left_halted disk.may_leave disk.moment disk.left_since server _ start) c.loop-left_of_limit-test.true
    (c.loop-left_of_limit.invariant.running start stands left left_told before taken_told) c.in-End.ensures.bytes
    (LastExtends-server {T = Unit {0}} old.store.server server start.history
    (Stands disk.seen disk.may_leave disk.moment disk.left_since old.store start) old.lines (Err c.in-Err-finish.halt)
    (λ name. LeavesSince disk.may_leave disk.moment disk.left_since name new.store.journal.disk start) _ _
    c.loop-left_of_limit.invariant.server (c.in-Err-finish.ensures.extends start)))

pub returns-in-Failed-clause-lawful : goal.returns-in-Failed-clause-lawful
returns-in-Failed-clause-lawful g c start stands left left_told before taken_told =
    let disk = g.D.Disk in
    let server = c.args.session.now.store.server in
    HasLawfulRun-failed c.args.limit c.loop-left_of_limit.left_of_limit server start.history left before
    c.read_piece.new.buffer _ _ _ _ _ _ (left_halted disk.may_leave disk.moment disk.left_since server _ start)
    (left_standing disk.seen disk.may_leave disk.moment disk.left_since server _ start
    c.loop-left_of_limit.invariant.server)
    c.loop-left_of_limit-test.true c.loop-left_of_limit.invariant.cut
    (c.loop-left_of_limit.invariant.running start stands left left_told before taken_told) c.in-Failed.ensures.bytes

pub returns-clause-lawful : goal.returns-clause-lawful
returns-clause-lawful g c start stands left left_told before taken_told =
    let disk = g.D.Disk in
    let server = c.args.session.now.store.server in
    HasLawfulRun-limit c.args.limit c.loop-left_of_limit.left_of_limit server start.history left before _ _ _ _ _
    (left_halted disk.may_leave disk.moment disk.left_since server _ start)
    (left_standing disk.seen disk.may_leave disk.moment disk.left_since server _ start
    c.loop-left_of_limit.invariant.server)
    c.loop-left_of_limit-test.false c.loop-left_of_limit.invariant.cut
    (c.loop-left_of_limit.invariant.running start stands left left_told before taken_told)

pub returns-clause-limit : goal.returns-clause-limit
returns-clause-limit g c left left_told ended =
    limit_reached c.args.limit c.loop-left_of_limit.left_of_limit left _ _ left_told c.loop-left_of_limit-test.false
    c.loop-left_of_limit.invariant.taken

pub returns-in-Err-clause-limit : goal.returns-in-Err-clause-limit
returns-in-Err-clause-limit g c left left_told ended = absurd (not_limit c.in-Err.halt (sym c.status.ensures ∙ ended))
