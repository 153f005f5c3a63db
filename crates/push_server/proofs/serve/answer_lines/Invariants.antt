use Rattle.std.proofs.Common.{◌≡◌, ◌≤◌, ◌<◌, false, ℕ, List, Some, length}
use Rattle.mx_journal.specs.declared.phase.Phase.TheVariants.{Writing}
use Rattle.mx_outside.specs.Told.{WhereTold}
use Rattle.push_server.specs.Crash.{Stands, Start}
use Rattle.push_server.specs.Transfers.{largest_piece}
use Rattle.push_server.proofs.ServeLemmas.{HasTaken, Running}
use Rattle.push_server.proofs.serve.answer_lines.Given as goal

abbrev pub invariant-loop-left_of_limit : goal.invariant-loop-left_of_limit
invariant-loop-left_of_limit g l = record {
  some : 0 < length l.buffer;
  small : length l.buffer ≤ largest_piece;
  server : l.session.store.server ≡ l.initial.session.store.server;
  cut : l.session.lines.ended ≡ false;
  ready : l.session.store.journal.phase ≡ Writing;
  taken : WhereTold (g.S.Source.left l.initial.source) (g.S.Source.left l.source) (HasTaken l.limit l.left_of_limit);
  running : (start : Start g.row.D.Denot)
      → Stands g.D.Disk.seen g.D.Disk.may_leave g.D.Disk.moment g.D.Disk.left_since l.initial.session.store start
      start.history
      → (left : List ℕ) → g.S.Source.left l.initial.source ≡ Some left
      → (before : List ℕ) → g.K.Sink.taken l.initial.sink ≡ Some before
      → Running l.limit l.left_of_limit l.initial.session.store.server start.history left
      (g.S.Source.left l.source) before
      (g.K.Sink.taken l.sink)
      (Stands g.D.Disk.seen g.D.Disk.may_leave g.D.Disk.moment g.D.Disk.left_since l.session.store start)
      l.session.lines;
  read_steady : g.S.Source.faults l.source ≡ g.S.Source.faults l.initial.source;
  write_steady : g.K.Sink.faults l.sink ≡ g.K.Sink.faults l.initial.sink;
  disk_steady : g.D.Disk.faults l.session.store.journal.disk ≡ g.D.Disk.faults l.initial.session.store.journal.disk;
  same_disk : g.D.Disk.same_disk l.initial.session.store.journal.disk l.session.store.journal.disk;
}

abbrev pub decreases-loop-left_of_limit : goal.decreases-loop-left_of_limit
decreases-loop-left_of_limit g l = l.left_of_limit
