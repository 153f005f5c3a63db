-- Of 17 bytes, the header and the closed gate that is written.
use Rattle.std.proofs.Common.{◌≡◌, ◌∙◌, [], ◌∷◌, length, take, ap, arith, eq-eqb}
use Rattle.std.proofs.lemmas.Bool.{eqb-true}
use Rattle.std.proofs.lemmas.List.{take_at}
use Rattle.mx_journal.proofs.Bytes.{length-header}
use Rattle.mx_journal.specs.Image.{header, closed_gate}
use Rattle.mx_journal.proofs.Opens.{length-empty_journal, IsEmpty-read}
use Rattle.mx_journal.proofs.Steps.{IfSome-at, told_same}
use Rattle.mx_journal.proofs.open.is_empty_journal.Goals as goal

pub returns-then-size-lt17-clause-value : goal.returns-then-size-lt17-clause-value
returns-then-size-lt17-clause-value g c = λ content told.
    let sized : c.args.size ≡ length content = IfSome-at (λ content. c.args.size ≡ length content)
    (g.D.Disk.seen c.args.disk.now) content c.requires.sized told in
    (λ no. cc, λ is. absurd (omega (arith, ap length is, length-empty_journal)))

pub returns-then-not-branch-clause-value : goal.returns-then-not-branch-clause-value
returns-then-not-branch-clause-value g c = λ content told.
    let test = c.in_ok-has_header.ensures.value content told in
    (λ no. cc, λ is. let has = test.1 (ap (take 16) is ∙ take_at header (closed_gate ∷ []) 16 length-header) in cc)

pub returns-clause-value : goal.returns-clause-value
returns-clause-value g c = λ content told.
    let sized : c.args.size ≡ length content = IfSome-at (λ content. c.args.size ≡ length content)
    (g.D.Disk.seen c.args.disk.now) content c.requires.sized told in
    let same = told_same _ _ content c.has_header.ensures.only_reads.same told in
    let test = c.in_ok-has_header.ensures.value content told in
    let front : take 16 content ≡ header = test.0 (cc) in
    let empty = IsEmpty-read content c.in_ok-read_gate.field-0 (omega arith) front
    (c.in_ok-read_gate.ensures.value content same) in
    (λ yes. empty.0 (eqb-true _ _ yes), λ is. eq-eqb _ _ (empty.1 is))
