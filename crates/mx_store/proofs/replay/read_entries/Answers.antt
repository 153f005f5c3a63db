-- All entries, or the first fault.
use Rattle.std.proofs.Common.{◌≡◌, ◌+◌, [], List, ℕ, Err, refl, ap, subst, ◌∙◌}
use Rattle.mx_journal.proofs.Moments.{OnlyReads-then}
use Rattle.mx_store.specs.Standing.{HasFirstFaultAt}
use Rattle.mx_store.proofs.Replays.{OnlyReads-none, read_all, so_far_more, so_far_none}
use Rattle.mx_store.proofs.replay.read_entries.Goals as goal

pub loop-count-init : goal.loop-count-init
loop-count-init g c = record {
  server = refl;
  reading = c.requires.reading;
  staged = refl;
  only_reads = OnlyReads-none c.args.journal.now.disk (g.met.D.Disk.same_disk_now c.args.journal.now.disk)
      (g.met.D.Disk.only_now c.args.journal.now.disk);
  faults = refl;
  so_far = (
    [],
    so_far_none g.D.Disk.seen c.args.journal.now c.args.engine.now.server c.args.engine.now.shown
        c.requires.empty,
  );
}

pub returns-in-Ok-false-clause-read : goal.returns-in-Ok-false-clause-read
returns-in-Ok-false-clause-read g c =
    let so_far = c.loop-count.invariant.so_far in (
      so_far.0,
      read_all g.D.Disk.seen g.D.Disk.may_leave c.args.journal.now c.loop-count.journal
          c.read_entry.new.journal c.read_entry.new.engine.server c.loop-count.engine.server
          c.read_entry.new.engine.shown
          c.loop-count.engine.shown c.loop-count.count so_far.0 c.read_entry.ensures.server
          (c.in-Ok-false.ensures.end_shown (rw c.in-Ok-false.field-0-test refl)) so_far.1
          (λ content payloads had.
          c.in-Ok-false.ensures.end_stands content payloads (rw c.in-Ok-false.field-0-test refl) had)
          (λ content payloads had alike. c.in-Ok-false.ensures.end_rests content payloads
          (rw c.in-Ok-false.field-0-test refl) had alike)
          (λ image may. (c.loop-count.invariant.only_reads.images image).0 may),
    )

pub returns-in-Ok-false-clause-only_reads : goal.returns-in-Ok-false-clause-only_reads
returns-in-Ok-false-clause-only_reads g c =
    OnlyReads-then c.args.journal.now.disk c.loop-count.journal.disk c.read_entry.new.journal.disk
    (g.met.D.Disk.same_disk_then c.args.journal.now.disk c.loop-count.journal.disk c.read_entry.new.journal.disk)
    c.loop-count.invariant.only_reads c.read_entry.ensures.only_reads

pub returns-in-Err-clause-not_a_journal : goal.returns-in-Err-clause-not_a_journal
returns-in-Err-clause-not_a_journal g c = λ content offset had is.
    let so_far = c.loop-count.invariant.so_far in
    subst (λ (s : List ℕ). HasFirstFaultAt s content offset) c.loop-count.invariant.server
    (c.in-Err.ensures.not_a_journal so_far.0 content offset so_far.1.knows (so_far.1.read content had) (ap Err (cc)))

pub returns-in-Err-clause-only_reads : goal.returns-in-Err-clause-only_reads
returns-in-Err-clause-only_reads g c =
    OnlyReads-then c.args.journal.now.disk c.loop-count.journal.disk c.read_entry.new.journal.disk
    (g.met.D.Disk.same_disk_then c.args.journal.now.disk c.loop-count.journal.disk c.read_entry.new.journal.disk)
    c.loop-count.invariant.only_reads c.read_entry.ensures.only_reads

pub loop-count-preserved : goal.loop-count-preserved
loop-count-preserved g c =
    let so_far = c.loop-count.invariant.so_far in
    let next = c.in-Ok-true.ensures.more so_far.0 so_far.1.knows (rw c.in-Ok-true.field-0-test refl) in
    record {
      server = c.read_entry.ensures.server ∙ c.loop-count.invariant.server;
      reading = c.in-Ok-true.ensures.phase (rw c.in-Ok-true.field-0-test refl);
      staged = c.read_entry.ensures.staged ∙ c.loop-count.invariant.staged;
      only_reads = OnlyReads-then c.args.journal.now.disk c.loop-count.journal.disk c.read_entry.new.journal.disk
          (g.met.D.Disk.same_disk_then c.args.journal.now.disk c.loop-count.journal.disk c.read_entry.new.journal.disk)
          c.loop-count.invariant.only_reads c.read_entry.ensures.only_reads;
      faults = c.in-Ok-true.ensures.counts.steady (λ e. absurd (cc)) ∙ c.loop-count.invariant.faults;
      so_far = (
        next.0,
        so_far_more g.D.Disk.seen c.args.journal.now c.loop-count.journal c.read_entry.new.journal
            c.read_entry.new.engine.server c.read_entry.new.engine.shown c.loop-count.count (c.loop-count.count + 1)
            so_far.0 next.0 so_far.1 next.1 refl,
      );
    }
