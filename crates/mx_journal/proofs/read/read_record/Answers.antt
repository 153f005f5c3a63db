-- What stands at the gate.
use Rattle.std.proofs.Common.{◌≡◌, ◌+◌, List, ℕ, length, get_or, Err, rules, refl, sym, ◌∙◌, ap, arith, take, drop}
use Rattle.mx_journal.specs.declared.error.JournalError.TheVariants.{OutOfMemory}
use Rattle.mx_journal.proofs.Gates.{HasClosedGate-read, IsFaultyGate-read, HasRecord-read}
use Rattle.mx_journal.proofs.Moments.{OnlyReads-call, OnlyReads-then}
use Rattle.mx_journal.proofs.Steps.{told_same, told_before}
use Rattle.mx_journal.proofs.read.read_record.Goals as goal

pub returns-then-branch-ne-OPEN_GATE-clause-found : goal.returns-then-branch-ne-OPEN_GATE-clause-found
returns-then-branch-ne-OPEN_GATE-clause-found g c = λ content told.
    let size : c.in_ok-size.size ≡ length content = told_before
    (λ (content : List ℕ). c.in_ok-size.size ≡ length content) _ _ content c.in_ok-size.ensures.length told in
    let same = told_same _ _ content c.len.ensures.same told in
    HasClosedGate-read content c.args.gate c.in_ok-read_gate.field-0 (omega arith)
    (c.in_ok-read_gate.ensures.value content same) c.if-branch-ne-OPEN_GATE.true

pub returns-in_default-clause-found : goal.returns-in_default-clause-found
returns-in_default-clause-found g c = λ content told.
    let size : c.in_ok-size.size ≡ length content = told_before
    (λ (content : List ℕ). c.in_ok-size.size ≡ length content) _ _ content c.in_ok-size.ensures.length told in
    let same = told_same _ _ content c.len.ensures.same told in
    let again = told_same _ _ content c.read_gate.ensures.only_reads.same same in
    let opens : get_or content c.args.gate 0 ≡ 1 = sym (c.in_ok-read_gate.ensures.value content same)
    ∙ c.if-branch-ne-OPEN_GATE.false in (
      refl,
      IsFaultyGate-read content c.args.gate (omega arith) opens
          (rw c.in_default.is at (c.in_ok-length.ensures.value content again)),
    )

pub returns-clause-found : goal.returns-clause-found
returns-clause-found g c = λ content told.
    let size : c.in_ok-size.size ≡ length content = told_before
    (λ (content : List ℕ). c.in_ok-size.size ≡ length content) _ _ content c.in_ok-size.ensures.length told in
    let same = told_same _ _ content c.len.ensures.same told in
    let again = told_same _ _ content c.read_gate.ensures.only_reads.same same in
    let still = told_same _ _ content c.read_length.ensures.only_reads.same again in
    let opens : get_or content c.args.gate 0 ≡ 1 = sym (c.in_ok-read_gate.ensures.value content same)
    ∙ c.if-branch-ne-OPEN_GATE.false in
    let body = rw c.in-Some.is at (c.in_ok-length.ensures.value content again) in
    let payload = c.in_ok-read_payload.ensures.bytes content still
    ∙ ap (λ n. take n (drop (c.args.gate + 5) content)) c.in_ok-resize.ensures.len in
    HasRecord-read content c.args.gate c.in-Some.length c.read_payload.new.out.items (omega arith) opens body payload

pub returns-in_err-resize-clause-found : goal.returns-in_err-resize-clause-found
returns-in_err-resize-clause-found g c = λ content told.
    let size : c.in_ok-size.size ≡ length content = told_before
    (λ (content : List ℕ). c.in_ok-size.size ≡ length content) _ _ content c.in_ok-size.ensures.length told in
    let same = told_same _ _ content c.len.ensures.same told in
    let again = told_same _ _ content c.read_gate.ensures.only_reads.same same in
    let opens : get_or content c.args.gate 0 ≡ 1 = sym (c.in_ok-read_gate.ensures.value content same)
    ∙ c.if-branch-ne-OPEN_GATE.false in
    let body = rw c.in-Some.is at (c.in_ok-length.ensures.value content again) in
    let here = HasRecord-read content c.args.gate c.in-Some.length
    (take c.in-Some.length (drop (c.args.gate + 5) content)) (omega arith) opens body refl in
    let full : c.from_residual-in_err-resize.result ≡ Err OutOfMemory = search rules in
    rw full (take c.in-Some.length (drop (c.args.gate + 5) content), here)

pub returns-in_err-read_payload-clause-only_reads : goal.returns-in_err-read_payload-clause-only_reads
returns-in_err-read_payload-clause-only_reads g c =
    let disk = c.args.disk.now in
    let then = g.met.D.Disk.same_disk_then in
    let sized = OnlyReads-call disk c.len.new.self (g.met.D.Disk.only_now disk) c.len.ensures.stays c.len.ensures.same
    c.len.ensures.crash c.len.ensures.time c.len.ensures.remains in
    let gated = OnlyReads-then disk c.len.new.self c.read_gate.new.disk (then _ _ _) sized
    c.read_gate.ensures.only_reads in
    let measured = OnlyReads-then disk c.read_gate.new.disk c.read_length.new.disk (then _ _ _) gated
    c.read_length.ensures.only_reads in
    OnlyReads-then disk c.read_length.new.disk c.read_payload.new.disk (then _ _ _) measured
    c.read_payload.ensures.only_reads

pub returns-clause-only_reads : goal.returns-clause-only_reads
returns-clause-only_reads g c =
    let disk = c.args.disk.now in
    let then = g.met.D.Disk.same_disk_then in
    let sized = OnlyReads-call disk c.len.new.self (g.met.D.Disk.only_now disk) c.len.ensures.stays c.len.ensures.same
    c.len.ensures.crash c.len.ensures.time c.len.ensures.remains in
    let gated = OnlyReads-then disk c.len.new.self c.read_gate.new.disk (then _ _ _) sized
    c.read_gate.ensures.only_reads in
    let measured = OnlyReads-then disk c.read_gate.new.disk c.read_length.new.disk (then _ _ _) gated
    c.read_length.ensures.only_reads in
    OnlyReads-then disk c.read_length.new.disk c.read_payload.new.disk (then _ _ _) measured
    c.read_payload.ensures.only_reads
