use Rattle.std.proofs.Common.{take}
use Rattle.mx_glob.specs.Search.{IsLiteral}
use Rattle.mx_glob.proofs.skips.is_literal.Given as goal

abbrev pub invariant-loop-k : goal.invariant-loop-k
invariant-loop-k l = IsLiteral (take l.k l.pattern)
