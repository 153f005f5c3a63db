-- What stands at the gate says what was read, and what the disk holds.
use Rattle.std.proofs.Common.{◌≡◌, ◌⊎◌, ◌+◌, ◌∙◌, [], ◌∷◌, ◌++◌, List, Some, Bool, Result, Ok, Err, true, false, drop}
use Rattle.std.proofs.Common.{ℕ, ap, sym, subst, arith, rules}
use denote.Enum.Bare.{same_true}
use Rattle.mx_journal.specs.contracts.phase.Phase.{the_type}
use Rattle.mx_journal.specs.declared.error.JournalError.{JournalError}
use Rattle.mx_journal.specs.declared.error.JournalError.TheVariants.{NotAJournal, DiskFault}
use Rattle.mx_journal.specs.Fault.{IsFaultyGate}
use Rattle.mx_journal.specs.NextRecord.{Found, BeginsWith}
use Rattle.mx_journal.specs.Journal.{Opened, ReadTo, HasRead, HasClosedGate, LeavesAlike}
use Rattle.mx_journal.proofs.Images.{fault_stands_for_none, one_fault}
use Rattle.mx_journal.proofs.Gates.{ReadTo-more, stands_all, RestsAt-read, begins_with_read, HasFaultyGateAt-read}
use Rattle.mx_journal.proofs.Gates.{IsNotAJournalAt-read, Found-fault, Found-other, Found-closed, Found-faulty}
use Rattle.mx_journal.proofs.Steps.{IfSome-at, IfSome-same, told_same}
use Rattle.mx_journal.proofs.journal.Journal.next_record.Goals as goal

pub returns-then-eq-clause-stands : goal.returns-then-eq-clause-stands
returns-then-eq-clause-stands g c = λ content payloads others read is.
    let inside = subst (λ (j : Opened g.row.D.Denot). HasRead g.D.Disk.seen j content payloads) (sym c.self.view_is)
    read in
    let writing = same_true the_type (search rules) _ _ (sym c.if-eq.ensures) in
    stands_all others inside (IfSome-at (λ content. HasClosedGate content c.self.inside.gate)
    (g.D.Disk.seen c.self.inside.disk) content (c.self.invariant.closed writing) inside.told)

abbrev AnswersFault : Result Bool JournalError → ℕ → Type 0
AnswersFault result gate = (result ≡ Err (NotAJournal gate)) ⊎ (result ≡ Err DiskFault)

-- What was found at the gate, said of the journal as it was.
pub returns-in-Ok-true-clause-found : goal.returns-in-Ok-true-clause-found
returns-in-Ok-true-clause-found g c = λ content told.
    let inside = subst (λ (j : Opened g.row.D.Denot). g.D.Disk.seen j.disk ≡ Some content) (sym c.self.view_is) told in
    let found = subst (λ (j : Opened g.row.D.Denot). Found (Ok true) content j.gate c.read_record.new.out.items)
    c.self.view_is (rw c.in-Ok-true.field-0-test at (c.in-Ok-true.ensures.found content inside)) in
    subst (λ (out : List ℕ). Found (Ok true) content c.args.self.now.gate out)
    (sym (ap (λ (v : _). v.items) c.swap.ensures.x_after)) found

pub returns-in-Ok-true-clause-end : goal.returns-in-Ok-true-clause-end
returns-in-Ok-true-clause-end g c = λ content told closed.
    let inside = subst (λ (j : Opened g.row.D.Denot). g.D.Disk.seen j.disk ≡ Some content) (sym c.self.view_is) told in
    Found-closed (Ok true) content c.self.inside.gate c.read_record.new.out.items
    (rw c.in-Ok-true.field-0-test at (c.in-Ok-true.ensures.found content inside))
    (subst (λ (j : Opened g.row.D.Denot). HasClosedGate content j.gate) (sym c.self.view_is) closed)

pub returns-in-Ok-true-clause-faulty : goal.returns-in-Ok-true-clause-faulty
returns-in-Ok-true-clause-faulty g c = λ content told faulty.
    let inside = subst (λ (j : Opened g.row.D.Denot). g.D.Disk.seen j.disk ≡ Some content) (sym c.self.view_is) told in
    subst (λ (j : Opened g.row.D.Denot). AnswersFault (Ok true) j.gate) c.self.view_is
    (Found-faulty (Ok true) content c.self.inside.gate c.read_record.new.out.items
    (rw c.in-Ok-true.field-0-test at (c.in-Ok-true.ensures.found content inside))
    (subst (λ (j : Opened g.row.D.Denot). IsFaultyGate (drop j.gate content)) (sym c.self.view_is) faulty))

pub returns-in-Ok-false-clause-found : goal.returns-in-Ok-false-clause-found
returns-in-Ok-false-clause-found g c = λ content told.
    let inside = subst (λ (j : Opened g.row.D.Denot). g.D.Disk.seen j.disk ≡ Some content) (sym c.self.view_is) told in
    subst (λ (j : Opened g.row.D.Denot). Found (Ok false) content j.gate c.read_record.new.out.items) c.self.view_is
    (rw c.in-Ok-false.field-0-test at (c.in-Ok-false.ensures.found content inside))

pub returns-in-Ok-false-clause-end : goal.returns-in-Ok-false-clause-end
returns-in-Ok-false-clause-end g c = λ content told closed.
    let inside = subst (λ (j : Opened g.row.D.Denot). g.D.Disk.seen j.disk ≡ Some content) (sym c.self.view_is) told in
    Found-closed (Ok false) content c.self.inside.gate c.read_record.new.out.items
    (rw c.in-Ok-false.field-0-test at (c.in-Ok-false.ensures.found content inside))
    (subst (λ (j : Opened g.row.D.Denot). HasClosedGate content j.gate) (sym c.self.view_is) closed)

pub returns-in-Ok-false-clause-faulty : goal.returns-in-Ok-false-clause-faulty
returns-in-Ok-false-clause-faulty g c = λ content told faulty.
    let inside = subst (λ (j : Opened g.row.D.Denot). g.D.Disk.seen j.disk ≡ Some content) (sym c.self.view_is) told in
    subst (λ (j : Opened g.row.D.Denot). AnswersFault (Ok false) j.gate) c.self.view_is
    (Found-faulty (Ok false) content c.self.inside.gate c.read_record.new.out.items
    (rw c.in-Ok-false.field-0-test at (c.in-Ok-false.ensures.found content inside))
    (subst (λ (j : Opened g.row.D.Denot). IsFaultyGate (drop j.gate content)) (sym c.self.view_is) faulty))

pub returns-in-Err-clause-found : goal.returns-in-Err-clause-found
returns-in-Err-clause-found g c = λ content told.
    let inside = subst (λ (j : Opened g.row.D.Denot). g.D.Disk.seen j.disk ≡ Some content) (sym c.self.view_is) told in
    Found-other c.in-Err.cause content c.args.self.now.gate c.read_record.new.out.items _
    (subst (λ (j : Opened g.row.D.Denot). Found (Err c.in-Err.cause) content j.gate c.read_record.new.out.items)
    c.self.view_is (c.in-Err.ensures.found content inside))

pub returns-in-Err-clause-end : goal.returns-in-Err-clause-end
returns-in-Err-clause-end g c = λ content told closed.
    let inside = subst (λ (j : Opened g.row.D.Denot). g.D.Disk.seen j.disk ≡ Some content) (sym c.self.view_is) told in
    Found-closed (Err c.in-Err.cause) content c.self.inside.gate c.read_record.new.out.items
    (c.in-Err.ensures.found content inside) (subst (λ (j : Opened g.row.D.Denot). HasClosedGate content j.gate)
    (sym c.self.view_is) closed)

pub returns-in-Err-clause-faulty : goal.returns-in-Err-clause-faulty
returns-in-Err-clause-faulty g c = λ content told faulty.
    let inside = subst (λ (j : Opened g.row.D.Denot). g.D.Disk.seen j.disk ≡ Some content) (sym c.self.view_is) told in
    subst (λ (j : Opened g.row.D.Denot). AnswersFault (Err c.in-Err.cause) j.gate) c.self.view_is
    (Found-faulty (Err c.in-Err.cause) content c.self.inside.gate c.read_record.new.out.items
    (c.in-Err.ensures.found content inside)
    (subst (λ (j : Opened g.row.D.Denot). IsFaultyGate (drop j.gate content)) (sym c.self.view_is) faulty))

pub invariant_of-self-in-Ok-false : goal.invariant_of-self-in-Ok-false
invariant_of-self-in-Ok-false g c = record {
  staged = c.self.invariant.staged;
  bounded = c.self.invariant.bounded;
  closed = λ writing. IfSome-same (λ content. HasClosedGate content c.self.inside.gate)
      (g.D.Disk.seen c.self.inside.disk) (g.D.Disk.seen c.read_record.new.disk) c.read_record.ensures.only_reads.same
      (λ content told. rw c.in-Ok-false.field-0-test at (c.in-Ok-false.ensures.found content told));
}

pub returns-in-Ok-true-clause-payload : goal.returns-in-Ok-true-clause-payload
returns-in-Ok-true-clause-payload g c = λ content payloads read is.
    let inside = subst (λ (j : Opened g.row.D.Denot). HasRead g.D.Disk.seen j content payloads) (sym c.self.view_is)
    read in
    let here = rw c.in-Ok-true.field-0-test at (c.in-Ok-true.ensures.found content inside.told) in
    let more = ReadTo-more (g.D.Disk.seen c.read_record.new.disk) c.read_record.new.out.items
    (c.self.inside.gate + (5 + c.len.result)) inside here
    (told_same _ _ content c.read_record.ensures.only_reads.same inside.told) (omega (arith, c.len.ensures)) in
    subst (λ (out : List ℕ). ReadTo (g.D.Disk.seen c.read_record.new.disk) (c.self.inside.gate + (5 + c.len.result))
    content (payloads ++ out ∷ [])) (sym (ap (λ (v : _). v.items) c.swap.ensures.x_after)) more

pub returns-in-Ok-true-clause-front : goal.returns-in-Ok-true-clause-front
returns-in-Ok-true-clause-front g c = λ content payloads others read is stands.
    let inside = subst (λ (j : Opened g.row.D.Denot). HasRead g.D.Disk.seen j content payloads) (sym c.self.view_is)
    read in
    let here = rw c.in-Ok-true.field-0-test at (c.in-Ok-true.ensures.found content inside.told) in
    let more = ReadTo-more (g.D.Disk.seen c.read_record.new.disk) c.read_record.new.out.items
    (c.self.inside.gate + (5 + c.len.result)) inside here
    (told_same _ _ content c.read_record.ensures.only_reads.same inside.told) (omega (arith, c.len.ensures)) in
    subst (λ (out : List ℕ). BeginsWith others (payloads ++ out ∷ []))
    (sym (ap (λ (v : _). v.items) c.swap.ensures.x_after)) (begins_with_read others more stands)

pub returns-in-Ok-false-clause-rests : goal.returns-in-Ok-false-clause-rests
returns-in-Ok-false-clause-rests g c = λ content payloads read alike is.
    let inside = subst (λ (j : Opened g.row.D.Denot). HasRead g.D.Disk.seen j content payloads) (sym c.self.view_is)
    read in
    let before = subst (λ (j : Opened g.row.D.Denot). LeavesAlike content payloads (g.D.Disk.may_leave j.disk))
    (sym c.self.view_is) alike in
    let closed = rw c.in-Ok-false.field-0-test at (c.in-Ok-false.ensures.found content inside.told) in
    RestsAt-read (g.D.Disk.seen c.read_record.new.disk) inside closed
    (told_same _ _ content c.read_record.ensures.only_reads.same inside.told) before
    (λ image may. (c.read_record.ensures.only_reads.images image).0 may)

pub returns-in-Ok-false-clause-stands : goal.returns-in-Ok-false-clause-stands
returns-in-Ok-false-clause-stands g c = λ content payloads others read is.
    let inside = subst (λ (j : Opened g.row.D.Denot). HasRead g.D.Disk.seen j content payloads) (sym c.self.view_is)
    read in
    let closed = rw c.in-Ok-false.field-0-test at (c.in-Ok-false.ensures.found content inside.told) in
    stands_all others inside closed

pub returns-in-Err-clause-not_a_journal : goal.returns-in-Err-clause-not_a_journal
returns-in-Err-clause-not_a_journal g c = λ content payloads offset read is.
    let inside = subst (λ (j : Opened g.row.D.Denot). HasRead g.D.Disk.seen j content payloads) (sym c.self.view_is)
    read in
    let fault = Found-fault (Err c.in-Err.cause) content c.self.inside.gate c.read_record.new.out.items offset
    (c.in-Err.ensures.found content inside.told) is in
    rw fault.0 (IsNotAJournalAt-read inside fault.1)

pub returns-in-Err-clause-no_other_fault : goal.returns-in-Err-clause-no_other_fault
returns-in-Err-clause-no_other_fault g c = λ content payloads offset other read is another.
    let inside = subst (λ (j : Opened g.row.D.Denot). HasRead g.D.Disk.seen j content payloads) (sym c.self.view_is)
    read in
    let fault = Found-fault (Err c.in-Err.cause) content c.self.inside.gate c.read_record.new.out.items offset
    (c.in-Err.ensures.found content inside.told) is in
    one_fault content c.self.inside.gate other (HasFaultyGateAt-read inside fault.1) another ∙ sym fault.0

pub returns-in-Err-clause-stands_for_none : goal.returns-in-Err-clause-stands_for_none
returns-in-Err-clause-stands_for_none g c = λ content payloads others offset read is stands.
    let inside = subst (λ (j : Opened g.row.D.Denot). HasRead g.D.Disk.seen j content payloads) (sym c.self.view_is)
    read in
    let fault = Found-fault (Err c.in-Err.cause) content c.self.inside.gate c.read_record.new.out.items offset
    (c.in-Err.ensures.found content inside.told) is in
    fault_stands_for_none content c.self.inside.gate others (IsNotAJournalAt-read inside fault.1) stands
