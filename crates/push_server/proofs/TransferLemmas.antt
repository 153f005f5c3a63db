-- Lemmas on texts that are written in pieces.
use Rattle.std.proofs.Common.{◌≡◌, ℕ, ◌+◌, ◌-◌, List, ◌++◌, Option, length, take, drop, sym, ap, ◌∙◌, append_assoc}
use Rattle.std.proofs.lemmas.List.{take_rest}
use Rattle.std.proofs.Math.Seq.{take-add}
use Rattle.mx_outside.specs.Told.{WhereTold}
use Rattle.mx_outside.proofs.Told.{WhereTold-then}

wrote_next : (text piece before then now : List ℕ) (at count : ℕ) → piece ≡ take (length text - at) (drop at text)
    → then ≡ before ++ take at text → now ≡ then ++ take count piece → now ≡ before ++ take (at + count) text
wrote_next text piece before then now at count is p q =
    let rest : piece ≡ drop at text = is ∙ take_rest text at in
    let joined : take at text ++ take count piece ≡ take (at + count) text =
    ap (λ r. take at text ++ take count r) rest ∙ sym (take-add at count text) in
    q ∙ ap (λ r. r ++ take count piece) p ∙ append_assoc before (take at text) (take count piece)
    ∙ ap (λ r. before ++ r) joined

-- the next bytes of a text were written
pub wrote_more : (text piece : List ℕ) (at count : ℕ) (a b c : Option (List ℕ))
    → piece ≡ take (length text - at) (drop at text)
    → WhereTold a b (λ old new. new ≡ old ++ take at text) → WhereTold b c (λ old new. new ≡ old ++ take count piece)
    → WhereTold a c (λ old new. new ≡ old ++ take (at + count) text)
wrote_more text piece at count a b c is first next =
    WhereTold-then _ _ _ a b c first next (λ x y z p q. wrote_next text piece x y z at count is p q)
