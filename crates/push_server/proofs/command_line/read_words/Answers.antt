use Rattle.std.proofs.Common.{refl, string_bytes}
use Rattle.push_server.proofs.CommandLineLemmas.{options_after}
use Rattle.push_server.proofs.command_line.read_words.Goals as goal

pub returns-in_err-server-clause-none : goal.returns-in_err-server-clause-none
returns-in_err-server-clause-none c = λ none subcommand server journal words.
    c.in_err-server.ensures.none refl server journal
    (options_after string_bytes c.args.words.now c.in_ok-first.first.now c.in_ok-first.options.now
    subcommand server journal c.in_ok-first.ensures.cases.0 words)
