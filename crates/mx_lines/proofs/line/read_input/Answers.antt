use Rattle.mx_lines.proofs.CommandLemmas.{command_by-right, command_by-wrong, ready-read}
use Rattle.mx_lines.proofs.line.read_input.Goals as goal

pub returns-in-Ok-clause-command : goal.returns-in-Ok-clause-command
returns-in-Ok-clause-command c form is = command_by-right c.args.line form c.in-Ok.input is c.in-Ok.ensures.input

pub returns-in-Err-BadField-clause-command : goal.returns-in-Err-BadField-clause-command
returns-in-Err-BadField-clause-command c form is =
    rw c.bad_field.ensures
    (command_by-wrong c.args.line form c.in-Err-BadField.field-0 c.in-Err-BadField.field is
    c.in-Err-BadField.field-0-is c.in-Err-BadField.ensures.input)

pub returns-in-Ok-clause-ready : goal.returns-in-Ok-clause-ready
returns-in-Ok-clause-ready c =
    ready-read c.args.line c.in-Ok.input c.requires.built c.in-Ok.ensures.input c.in-Ok.ensures.valid
    c.in-Ok.ensures.normal
