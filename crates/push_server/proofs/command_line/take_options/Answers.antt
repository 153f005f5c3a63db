use Rattle.std.proofs.Common.{refl, map, string_bytes}
use Rattle.push_server.proofs.CommandLineLemmas.{in_no_order}
use Rattle.push_server.proofs.command_line.take_options.Goals as goal

pub returns-in_err-journal-in-None-clause-none : goal.returns-in_err-journal-in-None-clause-none
returns-in_err-journal-in-None-clause-none c = λ none server journal.
    in_no_order server journal (map string_bytes c.args.words.now) (c.in-None.ensures.none refl)
    (c.in_err-journal-in-None.ensures.none refl)
