-- What was opened is read to its end, or to its first fault.
use Rattle.std.proofs.Common.{Err, inl, sym, ap, subst, ◌∙◌, List, ℕ}
use Rattle.mx_journal.specs.Calls.{OnlyReads}
use Rattle.mx_journal.specs.Opening.{IsLeftByOpening}
use Rattle.mx_journal.proofs.Moments.{OnlyReads-then}
use Rattle.mx_outside.specs.Disk.{LeavesOnly}
use Rattle.mx_records.specs.Refusing.{payloads_of}
use Rattle.mx_store.specs.Standing.{StandsFor}
use Rattle.mx_store.proofs.Openings.{moments_stand, moments_then, replay_fault, replayed}
use Rattle.mx_store.proofs.Replays.{journal_error}
use Rattle.mx_store.proofs.opening.replay.Goals as goal

pub returns-in-Err-clause-not_a_journal : goal.returns-in-Err-clause-not_a_journal
returns-in-Err-clause-not_a_journal g c = λ content offset told is.
    let at = c.in-Err.ensures.not_a_journal content offset told
    (journal_error c.in-Err.error.cause offset (sym c.from.ensures ∙ is)) in
    (at.0, inl at.1)

pub returns-in-Err-clause-any_moment : goal.returns-in-Err-clause-any_moment
returns-in-Err-clause-any_moment g c = λ content h told only stands.
    moments_stand c.args.engine.now.server h stands.valid
    (c.in-Err.ensures.any_moment content (payloads_of h) told only stands.payloads)

pub returns-in-Ok-read_entries-clause-replayed : goal.returns-in-Ok-read_entries-clause-replayed
returns-in-Ok-read_entries-clause-replayed g c =
    let all = c.in-Ok-read_entries.ensures.read in (
      all.0,
      replayed g.D.Disk.seen c.args.disk c.in-Ok.journal c.in-Ok.ensures.short c.in-Ok.ensures.long
          g.D.Disk.may_leave c.read_entries.new.journal c.read_entries.new.engine.server c.read_entries.new.engine.shown
          c.in-Ok-read_entries.count all.0 c.in-Ok.ensures.durable all.1,
    )

pub returns-in-Ok-read_entries-clause-only_reads :
    goal.returns-in-Ok-read_entries-clause-only_reads
returns-in-Ok-read_entries-clause-only_reads g c = λ content told whole.
    OnlyReads-then c.args.disk c.in-Ok.journal.disk c.read_entries.new.journal.disk
    (g.met.D.Disk.same_disk_then c.args.disk c.in-Ok.journal.disk c.read_entries.new.journal.disk)
    (c.in-Ok.ensures.only_reads content told whole) c.read_entries.ensures.only_reads

pub returns-in-Ok-read_entries-clause-any_moment :
    goal.returns-in-Ok-read_entries-clause-any_moment
returns-in-Ok-read_entries-clause-any_moment g c = λ content h told only stands.
    moments_then g.D.Disk.may_leave (λ image. StandsFor c.args.engine.now.server image h) g.met.D.Disk.counts_now
    (moments_stand c.args.engine.now.server h stands.valid
    (c.in-Ok.ensures.any_moment content (payloads_of h) told only stands.payloads))
    c.read_entries.ensures.only_reads.any_moment

pub returns-in-Ok-read_entries-clause-nothing_else :
    goal.returns-in-Ok-read_entries-clause-nothing_else
returns-in-Ok-read_entries-clause-nothing_else g c = λ content told only.
    moments_then g.D.Disk.may_leave (IsLeftByOpening content) g.met.D.Disk.counts_now
    (c.in-Ok.ensures.nothing_else content told only) c.read_entries.ensures.only_reads.any_moment

pub returns-in-Err-read_entries-clause-not_a_journal :
    goal.returns-in-Err-read_entries-clause-not_a_journal
returns-in-Err-read_entries-clause-not_a_journal g c = λ content offset told is.
    replay_fault g.D.Disk.seen c.args.disk c.in-Ok.journal c.in-Ok.ensures.short c.in-Ok.ensures.long
    c.args.engine.now.server offset
    (λ other had. c.in-Err-read_entries.ensures.not_a_journal other offset had (ap Err is)) content told

pub returns-in-Err-read_entries-clause-only_reads :
    goal.returns-in-Err-read_entries-clause-only_reads
returns-in-Err-read_entries-clause-only_reads g c = λ content told whole.
    subst (λ (d : g.row.D.Denot). OnlyReads g.D.Disk.same_disk g.D.Disk.seen g.D.Disk.may_leave g.D.Disk.moment
    g.D.Disk.left_since c.args.disk d) (sym c.into_disk.ensures)
    (OnlyReads-then c.args.disk c.in-Ok.journal.disk c.read_entries.new.journal.disk
    (g.met.D.Disk.same_disk_then c.args.disk c.in-Ok.journal.disk c.read_entries.new.journal.disk)
    (c.in-Ok.ensures.only_reads content told whole) c.read_entries.ensures.only_reads)

pub returns-in-Err-read_entries-clause-any_moment :
    goal.returns-in-Err-read_entries-clause-any_moment
returns-in-Err-read_entries-clause-any_moment g c = λ content h told only stands.
    subst (λ (d : g.row.D.Denot). LeavesOnly g.D.Disk.moment g.D.Disk.left_since c.args.disk d
    (λ image. StandsFor c.args.engine.now.server image h)) (sym c.into_disk.ensures)
    (moments_then g.D.Disk.may_leave (λ image. StandsFor c.args.engine.now.server image h) g.met.D.Disk.counts_now
    (moments_stand c.args.engine.now.server h stands.valid
    (c.in-Ok.ensures.any_moment content (payloads_of h) told only stands.payloads))
    c.read_entries.ensures.only_reads.any_moment)
