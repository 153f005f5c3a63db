use Rattle.std.proofs.Common.{length, ap, sym, ◌∙◌, arith}
use Rattle.std.proofs.lemmas.Bool.{both_ways}
use Rattle.mx_glob.proofs.FoldedLemmas.{length-folded}
use Rattle.mx_glob.proofs.glob.Glob.read.Goals.{then-is_literal, else-is_literal}
use Rattle.mx_glob.proofs.glob.Glob.read.Goals as goal

pub invariant_of-result : goal.invariant_of-result
invariant_of-result c =
    let short = length-folded c.args.pattern.now c.utf8.pattern in
    let same = ap length c.in_ok-pattern.ensures in (
      omega arith,
      c.is_literal-is_literal.ensures,
      λ yes.
          elim c.if-is_literal.branch [
            | then-is_literal w ↦ record {
              some = w.has_some-is_name.ensures (sym w.is_name-is ∙ yes);
              literal = c.is_literal-is_literal.ensures w.if-is_literal.true;
            }
            | else-is_literal w ↦ absurd (both_ways _ w.if-is_literal.false (sym w.is_name-is ∙ yes))
          ],
    )
