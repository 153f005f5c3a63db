use Rattle.std.proofs.Common.{◌≡◌, ◌==◌, ◌∙◌, sym, ap, false, arith}
use Rattle.std.proofs.lemmas.List.{take_more}
use Rattle.mx_glob.specs.Glob.{star}
use Rattle.mx_glob.proofs.LeadsLemmas.{IsPlain-push, other_than_star}
use Rattle.mx_glob.proofs.rest.split_star.Goals as goal

pub loop-place-preserved : goal.loop-place-preserved
loop-place-preserved c =
    let plain : c.index-pattern-place.result == star ≡ false =
    other_than_star c.index-pattern-place.result c.if-character-eq42.false in
    rw (take_more c.args.pattern.now c.loop-place.place c.index-pattern-place.result (omega arith))
    (IsPlain-push _ _ c.loop-place.invariant (ap (λ x. x == star) (sym c.index-pattern-place.is) ∙ plain))
