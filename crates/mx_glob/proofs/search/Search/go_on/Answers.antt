use Rattle.std.proofs.Common.{◌+◌, arith}
use Rattle.mx_glob.proofs.SearchLemmas.{HasWord-none}
use Rattle.mx_glob.proofs.search.Search.go_on.Goals as goal

pub returns-then-end-len-clause-word : goal.returns-then-end-len-clause-word
returns-then-end-len-clause-word c = (
  λ never. cc,
  λ word. absurd (HasWord-none c.args.value.now c.args.self.now (c.args.end + 1) c.requires.some
      (omega arith) c.requires.none word),
)
