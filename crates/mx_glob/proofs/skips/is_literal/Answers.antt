use Rattle.std.proofs.Common.{arith}
use Rattle.mx_glob.proofs.NameLemmas.{literal_more}
use Rattle.mx_glob.proofs.skips.is_literal.Goals as goal

pub loop-k-preserved : goal.loop-k-preserved
loop-k-preserved c =
    literal_more c.args.pattern.now c.loop-k.k c.at.result (omega arith) c.at.ensures.character
    (c.is_itself.ensures c.if-not-is_itself.false) c.loop-k.invariant
