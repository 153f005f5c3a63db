use Rattle.std.proofs.Common.{sym, subst}
use Rattle.mx_lines.specs.Commands.{ReadsAs}
use Rattle.mx_lines.proofs.CommandLemmas.{command_in-built, command_in-pusher}
use Rattle.mx_lines.proofs.line.read_input_of.Goals as goal

pub returns-in-Pusher-clause-command : goal.returns-in-Pusher-clause-command
returns-in-Pusher-clause-command c = command_in-pusher c.args.line c.args.word c.requires.word c.in-Pusher.is

pub returns-in_default : goal.returns-in_default
returns-in_default c =
    let found = command_in-built c.args.line c.args.word c.requires.word c.in_default.not-Pusher in
    record {
      command = subst (λ expected. ReadsAs expected c.read_input.result) (sym found.2)
          (c.read_input.ensures.command found.0 found.1);
      ready = c.read_input.ensures.ready;
    }
