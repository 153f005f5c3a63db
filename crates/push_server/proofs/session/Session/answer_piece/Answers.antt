use Rattle.std.proofs.Common.{Ok, Err, ◌∙◌, refl, arith}
use Rattle.std.proofs.lemmas.Result.{err_from_is_err_and}
use Rattle.mx_lines.proofs.CallerLemmas.{length_rest, GivesNext-open}
use Rattle.push_server.specs.Crash.{LeavesSince, Stands}
use Rattle.push_server.proofs.SessionLemmas.{AnswersSoFar-starts, AnswersSoFar-turn, AnswersSoFar-halts}
use Rattle.push_server.proofs.SessionLemmas.{AnswersSoFar-ends, Extends-server}
use Rattle.push_server.proofs.session.Session.answer_piece.Goals as goal

pub loop-at-init : goal.loop-at-init
loop-at-init g c = record {
  cut = c.requires.cut;
  ready = c.requires.ready;
  within = omega arith;
  server = refl;
  so_far = AnswersSoFar-starts c.args.self.now.store.server c.args.piece.now _ c.args.self.now.lines _;
  steady = refl;
  disk_steady = refl;
  same_disk = g.met.D.Disk.same_disk_now _;
}

pub loop-at-preserved : goal.loop-at-preserved
loop-at-preserved g c =
    let disk = g.D.Disk in
    let server = c.args.self.now.store.server in
    record {
      cut = GivesNext-open _ _ _ c.next.follows.holds-at-none;
      ready = c.in_ok-answer_cut.ensures.ready;
      within = omega (arith, length_rest c.args.piece.now c.loop-at.at);
      server = c.in_ok-answer_cut.ensures.server ∙ c.loop-at.invariant.server;
      so_far = AnswersSoFar-turn server c.args.piece.now c.loop-at.at c.feed-at.result c.next.result _ _ _
          (λ begun.
          LeavesSince disk.may_leave disk.moment disk.left_since server c.answer_cut.new.store.journal.disk begun)
          _ c.loop-at.self.lines _ _ c.in_ok-answer_cut.field-0 _ _ _ c.loop-at.invariant.so_far
          (record {
            feeds = c.feed-at.ensures.lines;
            gives = c.next.follows.holds-at-none;
            line = c.next.ensures.lines;
          })
          (Extends-server c.loop-at.self.store.server server c.next.result
          (Stands disk.seen disk.may_leave disk.moment disk.left_since c.loop-at.self.store)
          (Ok c.in_ok-answer_cut.field-0)
          (Stands disk.seen disk.may_leave disk.moment disk.left_since c.answer_cut.new.store)
          (λ name start. LeavesSince disk.may_leave disk.moment disk.left_since name
          c.answer_cut.new.store.journal.disk start)
          _ _ c.loop-at.invariant.server c.in_ok-answer_cut.ensures.extends);
      steady = c.in_ok-answer_cut.ensures.steady (λ failed. cc) ∙ c.loop-at.invariant.steady;
      disk_steady = c.in_ok-answer_cut.ensures.disk_steady (λ failed. cc) ∙ c.loop-at.invariant.disk_steady;
      same_disk = g.met.D.Disk.same_disk_then _ _ _ c.loop-at.invariant.same_disk c.in_ok-answer_cut.ensures.stays;
    }

pub returns-in_err-answer_cut-clause-extends : goal.returns-in_err-answer_cut-clause-extends
returns-in_err-answer_cut-clause-extends g c start run bytes is up =
    let disk = g.D.Disk in
    let server = c.args.self.now.store.server in
    let error = err_from_is_err_and c.from_residual.result c.from_residual.ensures.1 in
    rw (error.1, error.2)
    (AnswersSoFar-halts (Unit {0}) c.in_err-answer_cut.field-0.0 server c.args.piece.now c.loop-at.at c.feed-at.result
    c.next.result _ _ (Stands disk.seen disk.may_leave disk.moment disk.left_since c.answer_cut.new.store)
    (λ begun. LeavesSince disk.may_leave disk.moment disk.left_since server c.answer_cut.new.store.journal.disk begun)
    _ c.loop-at.self.lines _ _ _ _ _ c.loop-at.invariant.so_far
    (record { feeds = c.feed-at.ensures.lines; gives = c.next.follows.holds-at-none; line = c.next.ensures.lines })
    (Extends-server {T = Unit {0}} c.loop-at.self.store.server server c.next.result
    (Stands disk.seen disk.may_leave disk.moment disk.left_since c.loop-at.self.store)
    (Err c.in_err-answer_cut.field-0.0)
    (Stands disk.seen disk.may_leave disk.moment disk.left_since c.answer_cut.new.store)
    (λ name begun.
    LeavesSince disk.may_leave disk.moment disk.left_since name c.answer_cut.new.store.journal.disk begun)
    _ _ c.loop-at.invariant.server c.in_err-answer_cut.ensures.extends) start run bytes is up)

pub returns-clause-extends : goal.returns-clause-extends
returns-clause-extends g c start run bytes is up =
    AnswersSoFar-ends c.args.self.now.store.server c.args.piece.now c.loop-at.at _ _ _ _ _ _ c.loop-at.invariant.so_far
    c.loop-at-test.false start run bytes is up
