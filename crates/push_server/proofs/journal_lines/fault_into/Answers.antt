use Rattle.std.proofs.Common.{◌∙◌, ◌++◌, ap}
use Rattle.push_server.proofs.JournalLineLemmas.{fault-written}
use Rattle.push_server.proofs.journal_lines.fault_into.Goals as goal

pub returns-clause-text : goal.returns-clause-text
returns-clause-text c =
    let line = c.as_bytes.ensures.value ∙ c.in_ok-line.ensures.ok ∙ fault-written c.args.offset in
    c.in_ok-extend_from_slice.ensures.items ∙ ap (λ text. c.args.out.now.items ++ text) line
