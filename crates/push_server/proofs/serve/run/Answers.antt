use Rattle.std.proofs.Common.{rules, MutBor, ap, refl, ◌∙◌}
use Rattle.mx_store.specs.Store.{Stored}
use Rattle.mx_store.proofs.Laws.{no_history}
use Rattle.push_server.specs.Crash.{LeavesSince, Start}
use Rattle.push_server.specs.declared.answer.AnswerError.TheVariants as answer
use Rattle.push_server.proofs.KeepingLemmas.{left_first, left_halted, opened_as, same_lent, untouched}
use Rattle.push_server.proofs.ServeLemmas.{Agrees-start, HasLawfulRun-silent, HasLawfulRun-unopened}
use Rattle.push_server.proofs.ServeLemmas.{journal_cause, lawful_lent}
use Rattle.push_server.proofs.serve.run.Goals as goal

pub returns-in_default-clause-lawful : goal.returns-in_default-clause-lawful
returns-in_default-clause-lawful g c content h0 told stands left left_told before taken_told =
    let disk = g.D.Disk in
    let server = c.args.server.now in
    let start : Start g.row.D.Denot = record { disk = c.args.disk.now; content = content; history = h0 } in
    HasLawfulRun-silent answer.OutOfMemory c.args.limit server h0 left before _ _ _ left_told taken_told
    (left_halted disk.may_leave disk.moment disk.left_since server c.args.disk.now start)
    (left_first disk.may_leave disk.moment disk.left_since server c.args.disk.now start _ g.met.D.Disk.counts_now
    (Agrees-start server h0)
    (untouched disk.may_leave disk.moment disk.left_since server content c.args.disk.now h0
    g.met.D.Disk.only_now stands))

pub returns-in_default-piece_buffer-clause-lawful : goal.returns-in_default-piece_buffer-clause-lawful
returns-in_default-piece_buffer-clause-lawful g c content h0 told stands left left_told before taken_told =
    let disk = g.D.Disk in
    let server = c.args.server.now in
    let start : Start g.row.D.Denot = record { disk = c.args.disk.now; content = content; history = h0 } in
    HasLawfulRun-silent answer.OutOfMemory c.args.limit server h0 left before _ _ _ left_told taken_told
    (left_halted disk.may_leave disk.moment disk.left_since server c.args.disk.now start)
    (left_first disk.may_leave disk.moment disk.left_since server c.args.disk.now start _ g.met.D.Disk.counts_now
    (Agrees-start server h0)
    (untouched disk.may_leave disk.moment disk.left_since server content c.args.disk.now h0
    g.met.D.Disk.only_now stands))

pub returns-in-Ok-open-clause-lawful : goal.returns-in-Ok-open-clause-lawful
returns-in-Ok-open-clause-lawful g c content h0 told stands left left_told before taken_told =
    let disk = g.D.Disk in
    let server = c.args.server.now in
    let opened = c.in-Ok-open.ensures in
    lawful_lent {L = MutBor g.row.D.Denot} (λ d. d.now) disk.may_leave disk.moment disk.left_since c.args.limit server
    c.new-session.result.store.server h0 left before _ _ _ content
    (record { ref_ptr = c.args.disk.ref_ptr; ghost_name = c.args.disk.ghost_name; now = c.args.disk.now })
    c.answer_lines-status.new.session.store.journal.disk _
    (ap (λ (s : Stored (MutBor g.row.D.Denot)). s.server) c.new-session.ensures.store ∙ opened.server)
    (search rules)
    (c.answer_lines-status.ensures.lawful _
    (opened_as {D = MutBor g.row.D.Denot} _ _ _ _ server c.in-Ok-open.store _
    (record { disk = _; content = content; history = h0 }) c.new-session.ensures.store opened.server stands
    (opened.shown content h0 told stands) (λ quiet. opened.keeps content h0 told quiet stands)
    (λ quiet. opened.any_moment content h0 told quiet stands))
    left left_told before taken_told)

pub returns-in-Ok-open-clause-no_journal : goal.returns-in-Ok-open-clause-no_journal
returns-in-Ok-open-clause-no_journal g c content offset told fault =
    let stands = c.in-Ok-open.ensures.stands content told in
    absurd (no_history c.args.server.now content offset stands.0 fault stands.1)

pub returns-in-Ok-open-clause-same_disk : goal.returns-in-Ok-open-clause-same_disk
returns-in-Ok-open-clause-same_disk g c =
    same_lent {L = MutBor g.row.D.Denot} (λ d. d.now) g.D.Disk.same_disk g.met.D.Disk.same_disk_then c.args.disk.now
    c.in-Ok-open.store.journal.disk c.new-session.result.store.journal.disk
    c.answer_lines-status.new.session.store.journal.disk _
    (ap (λ (s : Stored (MutBor g.row.D.Denot)). s.journal.disk) c.new-session.ensures.store) (search rules)
    c.in-Ok-open.ensures.stays.1 c.answer_lines-status.ensures.same_disk.1

pub returns-in-Err-clause-lawful : goal.returns-in-Err-clause-lawful
returns-in-Err-clause-lawful g c content h0 told stands left left_told before taken_told =
    let disk = g.D.Disk in
    let server = c.args.server.now in
    let lent : MutBor g.row.D.Denot =
    record { ref_ptr = c.args.disk.ref_ptr; ghost_name = c.args.disk.ghost_name; now = c.args.disk.now } in
    let start : Start (MutBor g.row.D.Denot) = record { disk = lent; content = content; history = h0 } in
    lawful_lent {L = MutBor g.row.D.Denot} (λ d. d.now) disk.may_leave disk.moment disk.left_since c.args.limit server
    server h0 left before _ _ _ content lent c.in-Err.error.disk _ refl (search rules)
    (HasLawfulRun-unopened c.in-Err.error.cause c.tell.result c.args.limit server h0 left before _ _
    (LeavesSince {D = MutBor g.row.D.Denot} (λ d. disk.may_leave d.now) (λ d. disk.moment d.now)
    (λ d. disk.left_since d.now) server c.in-Err.error.disk start)
    c.tell.ensures.ends (λ offset is. no_history server content offset h0
    (c.in-Err.ensures.not_a_journal content offset told is) stands)
    left_told
    (ap g.K.Sink.taken (c.tell.ensures.silent (λ offset is. no_history server content offset h0
    (c.in-Err.ensures.not_a_journal content offset told is) stands)) ∙ taken_told)
    (left_halted {D = MutBor g.row.D.Denot} (λ d. disk.may_leave d.now) (λ d. disk.moment d.now)
    (λ d. disk.left_since d.now) server c.in-Err.error.disk start)
    (left_first {D = MutBor g.row.D.Denot} (λ d. disk.may_leave d.now) (λ d. disk.moment d.now)
    (λ d. disk.left_since d.now) server c.in-Err.error.disk start _ (λ d. g.met.D.Disk.counts_now d.now)
    (Agrees-start server h0) (λ quiet.
    let all = c.in-Err.ensures.any_moment content h0 told quiet stands in
    record { later = all.later; each = all.each; before = all.before })))

pub returns-in-Err-clause-not_a_journal : goal.returns-in-Err-clause-not_a_journal
returns-in-Err-clause-not_a_journal g c content told is =
    let cause = journal_cause c.in-Err.error.cause c.tell.result c.tell.ensures.ends is in
    record {
      offset = cause.0;
      at = c.in-Err.ensures.not_a_journal content cause.0 told cause.1;
      wrote = c.tell.ensures.told cause.0 cause.1 is;
    }
