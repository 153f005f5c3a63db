use Rattle.std.proofs.Common.{◌∙◌, ◌++◌, ap}
use Rattle.push_server.proofs.JournalLineLemmas.{tally-written}
use Rattle.push_server.proofs.journal_lines.tally_into.Goals as goal

pub returns-clause-text : goal.returns-clause-text
returns-clause-text c =
    let line = c.as_bytes.ensures.value ∙ c.in_ok-line.ensures.ok ∙ tally-written c.args.entries c.args.inputs in
    c.in_ok-extend_from_slice.ensures.items ∙ ap (λ text. c.args.out.now.items ++ text) line
