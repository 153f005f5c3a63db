use Rattle.push_server.proofs.CommandLineLemmas.{after_one}
use Rattle.push_server.proofs.command_line.take_in_turn.Goals as goal

pub returns-in_err-one-clause-none : goal.returns-in_err-one-clause-none
returns-in_err-one-clause-none c = λ none one two turn. c.in_err-one.ensures one turn.rest turn.begins

pub returns-in_err-two-clause-none : goal.returns-in_err-two-clause-none
returns-in_err-two-clause-none c = λ none one two turn.
    let then = after_one _ _ _ _ _ _ _ c.in_ok-one.ensures turn in
    c.in_err-two.ensures two then.0 then.1
