use Rattle.std.proofs.Common.{◌≡◌}
use Rattle.mx_journal.specs.declared.phase.Phase.TheVariants.{Reading}
use Rattle.mx_journal.specs.Calls.{OnlyReads}
use Rattle.mx_records.specs.History.{History}
use Rattle.mx_store.specs.Opening.{HasReadSoFar}
use Rattle.mx_store.proofs.replay.read_entries.Given as goal

abbrev pub invariant-loop-count : goal.invariant-loop-count
invariant-loop-count g l = record {
  server : l.engine.server ≡ l.fn.engine.server;
  reading : l.journal.phase ≡ Reading;
  staged : l.journal.staged ≡ l.fn.journal.staged;
  only_reads : OnlyReads g.D.Disk.same_disk g.D.Disk.seen g.D.Disk.may_leave g.D.Disk.moment g.D.Disk.left_since
      l.fn.journal.disk l.journal.disk;
  faults : g.D.Disk.faults l.journal.disk ≡ g.D.Disk.faults l.fn.journal.disk;
  so_far : (h : History) × HasReadSoFar g.D.Disk.seen l.fn.journal l.journal l.engine.server l.engine.shown l.count h;
}
