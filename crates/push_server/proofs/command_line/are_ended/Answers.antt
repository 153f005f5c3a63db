use Rattle.std.proofs.Common.{string_bytes}
use Rattle.push_server.proofs.CommandLineLemmas.{ends_by_one}
use Rattle.push_server.proofs.command_line.are_ended.Goals as goal

pub returns-then-is_empty : goal.returns-then-is_empty
returns-then-is_empty c =
    ends_by_one string_bytes c.args.words.now c.in-Some.last.now c.in-Some.rest.now _ _ c.in-Some.ensures.cases.0
    c.if-is_empty.ensures c.as_str.ensures.value c.eq.ensures
