-- A length of 0, above the limit or past the end leaves no body.
use Rattle.std.proofs.Common.{◌≡◌, length, drop, arith, inl, inr}
use Rattle.std.proofs.lemmas.List.{length-drop}
use Rattle.mx_journal.specs.Fault.{number_in}
use Rattle.mx_journal.proofs.Gates.{number_in-shown}
use Rattle.mx_journal.proofs.Steps.{IfSome-at}
use Rattle.mx_journal.proofs.read.read_length.Goals as goal
use Rattle.mx_journal.proofs.read.read_length.Goals.{then-length-eq0-via-then-length-eq0}
use Rattle.mx_journal.proofs.read.read_length.Goals.{then-length-eq0-via-else-length-eq0+then-length-gt-PAYLOAD_LIMIT}
use Rattle.mx_journal.proofs.read.read_length.Goals.{then-length-eq0-via-else-length-eq0+else-length-gt-PAYLOAD_LIMIT+then-left-from}

pub returns-then-length-eq0-clause-value : goal.returns-then-length-eq0-clause-value
returns-then-length-eq0-clause-value g c = λ content told.
    let bytes = drop c.args.at content in
    let number : number_in bytes ≡ c.in_ok-length.length = number_in-shown c.in_ok-length.length bytes
    c.in_ok-length.ensures.bounded (c.in_ok-length.ensures.value content told) in
    let sized : c.args.size ≡ length content = IfSome-at (λ content. c.args.size ≡ length content)
    (g.D.Disk.seen c.args.disk.now) content c.requires.sized told in
    elim c.then-length-eq0.branch [
      | then-length-eq0-via-then-length-eq0 w ↦ inr (inl (omega arith))
      | then-length-eq0-via-else-length-eq0+then-length-gt-PAYLOAD_LIMIT w ↦ inr (inr (inl (omega arith)))
      | then-length-eq0-via-else-length-eq0+else-length-gt-PAYLOAD_LIMIT+then-left-from w ↦ inr
          (inr (inr (omega (arith, length-drop c.args.at content))))
    ]
