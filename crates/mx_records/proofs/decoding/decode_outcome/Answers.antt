use Rattle.std.proofs.Common.{◌∷◌, ◌++◌, ap, sym, ◌∙◌, arith, length}
use Rattle.std.proofs.lemmas.List.{take-append-drop}
use Rattle.mx_records.proofs.EntryLemmas.{payload-long}
use Rattle.mx_records.proofs.decoding.decode_outcome.Goals as goal

pub returns-then-numbers-ne16 : goal.returns-then-numbers-ne16
returns-then-numbers-ne16 c outcome is =
    let long = ap length is ∙ payload-long outcome in
    omega (arith, long)

pub returns : goal.returns
returns c =
    let tag = c.args.tag in
    sym (c.outcome_of.ensures
    ∙ (λ i. tag ∷ (c.number_of.ensures i ++ c.number_of-2.ensures i))
    ∙ (λ i. tag ∷ (c.split_at.ensures.front i ++ c.split_at.ensures.back i))
    ∙ ap (λ bytes. tag ∷ bytes) (take-append-drop 8 c.args.numbers.now))
