use Rattle.std.proofs.Common.{◌≡◌, ◌≤◌, ◌-◌, false, length}
use Rattle.mx_journal.specs.declared.phase.Phase.TheVariants.{Writing}
use Rattle.push_server.specs.Crash.{Stands}
use Rattle.push_server.proofs.SessionLemmas.{AnswersSoFar}
use Rattle.push_server.proofs.session.Session.answer_piece.Given as goal

abbrev pub invariant-loop-at : goal.invariant-loop-at
invariant-loop-at g l = record {
  cut : l.self.lines.ended ≡ false;
  ready : l.self.store.journal.phase ≡ Writing;
  within : l.at ≤ length l.piece;
  server : l.self.store.server ≡ l.initial.self.store.server;
  so_far : AnswersSoFar l.initial.self.store.server l.piece l.at
      (Stands g.D.Disk.seen g.D.Disk.may_leave g.D.Disk.moment g.D.Disk.left_since l.initial.self.store)
      l.initial.self.lines
      (Stands g.D.Disk.seen g.D.Disk.may_leave g.D.Disk.moment g.D.Disk.left_since l.self.store) l.self.lines
      (g.K.Sink.taken l.initial.sink) (g.K.Sink.taken l.sink);
  steady : g.K.Sink.faults l.sink ≡ g.K.Sink.faults l.initial.sink;
  disk_steady : g.D.Disk.faults l.self.store.journal.disk ≡ g.D.Disk.faults l.initial.self.store.journal.disk;
  same_disk : g.D.Disk.same_disk l.initial.self.store.journal.disk l.self.store.journal.disk;
}

abbrev pub decreases-loop-at : goal.decreases-loop-at
decreases-loop-at g l = length l.piece - l.at
