use Rattle.std.proofs.Common.{arith, sym, ap, ◌++◌, ◌∙◌}
use Rattle.std.proofs.lemmas.Str.Pattern.{strip_prefix_char}
use Rattle.push_server.proofs.CommandLineLemmas.{value_behind}
use Rattle.push_server.proofs.command_line.value_in.Goals as goal

pub returns : goal.returns
returns c =
    let found = c.in_ok-strip_prefix.ensures.cases in
    let rest = c.in_ok-strip_prefix.field-0.now in
    value_behind c.args.word.now c.args.option.now rest c.strip_prefix-2.result
    (found.1.1 ∙ ap (λ w. c.args.option.now ++ w) (sym found.2))
    (strip_prefix_char 61 rest c.strip_prefix-2.result c.strip_prefix-2.ensures.cases (omega arith))
