-- One entry more, or the first fault.
use Rattle.std.proofs.Common.{◌≡◌, ◌∷◌, ◌++◌, [], List, ℕ, Err, refl, sym, ap, subst, ◌∙◌}
use Rattle.mx_journal.specs.Journal.{HasRead}
use Rattle.mx_journal.proofs.Gates.{Found-fault}
use Rattle.mx_records.specs.Refusing.{payloads_of}
use Rattle.mx_store.specs.Standing.{IsNoNextPayload}
use Rattle.mx_store.proofs.Faults.{first_fault_gate, first_fault_record}
use Rattle.mx_store.proofs.Replays.{journal_error, read_more}
use Rattle.mx_store.proofs.replay.read_entry.Goals as goal

pub returns-in-Ok-clause-more : goal.returns-in-Ok-clause-more
returns-in-Ok-clause-more g c = λ h knows is.
    read_more g.D.Disk.seen c.args.journal.now c.next_record.new.self c.accept_payload.new.engine.server
    c.args.engine.now.server c.accept_payload.new.engine.shown h c.as_slice.result.now c.in-Ok.ensures.server
    knows.valid (c.in-Ok.ensures.accepted h knows) (c.in-Ok.ensures.few h knows)
    (λ content had.
    subst (λ (p : List ℕ). HasRead g.D.Disk.seen c.next_record.new.self content (payloads_of h ++ p ∷ []))
    (sym c.as_slice.ensures.value)
    (c.in-Ok-true.ensures.payload content (payloads_of h) had (rw c.in-Ok-true.field-0-test refl)))

pub returns-in-Err-accept_payload-clause-not_a_journal :
    goal.returns-in-Err-accept_payload-clause-not_a_journal
returns-in-Err-accept_payload-clause-not_a_journal g c = λ h content offset knows read is.
    let none = c.in-Err-accept_payload.ensures.not_a_journal h offset knows (ap Err (cc)) in
    first_fault_record c.args.engine.now.server h c.next_record.new.out.items offset knows.valid read
    (rw c.in-Ok-true.field-0-test at (c.in-Ok-true.ensures.found content read.told))
    (subst (λ (p : List ℕ). IsNoNextPayload c.args.engine.now.server h p) c.as_slice.ensures.value none.1)
    (none.0 ∙ c.gate-gate.ensures)

pub returns-in-Err-clause-not_a_journal : goal.returns-in-Err-clause-not_a_journal
returns-in-Err-clause-not_a_journal g c = λ h content offset knows read is.
    let error_is = journal_error c.in-Err.error offset (sym c.from.ensures ∙ cc) in
    let was = ap Err error_is in
    let fault = Found-fault (Err c.in-Err.error) content c.args.journal.now.gate c.next_record.new.out.items offset
    (c.in-Err.ensures.found content read.told) was in
    first_fault_gate c.args.engine.now.server h offset knows.valid read
    (c.in-Err.ensures.not_a_journal content (payloads_of h) offset read was).0 fault.1 fault.0
