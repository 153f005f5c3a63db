use Rattle.std.proofs.Common.{rules, tests, ◌<◌}
use Rattle.ucd_case.proofs.CaseFoldingLemmas.{full_fold-ascii}
use Rattle.mx_json.proofs.folded.push_one_folded.Goals as goal

pub returns-then-is_ascii : goal.returns-then-is_ascii
returns-then-is_ascii c =
    let small : c.args.character < 128 = search (rules, tests) in
    rw (full_fold-ascii c.args.character small) (search rules)
