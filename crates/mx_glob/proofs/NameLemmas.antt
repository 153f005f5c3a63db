-- A pattern that is itself matches itself alone.
use Rattle.std.proofs.Common.{◌≡◌, ℕ, ◌+◌, ◌<◌, ◌==◌, false, List, [], ◌∷◌, ◌++◌, length, take, get_or, slice_get}
use Rattle.std.proofs.Common.{Option, Some, None, IfSome, ◌↔◌, refl, sym, ap, ◌∙◌, subst}
use Rattle.std.proofs.lemmas.List.{take_more}
use Rattle.std.proofs.lemmas.Option.{slice_get-get_or, get_or_from_slice_get}
use Rattle.mx_glob.specs.Glob.{star, question, Matches}
use Rattle.mx_glob.specs.Search.{IsLiteral, IsName}
use Rattle.mx_glob.specs.Words.{WordMatches, HasWord}
use Rattle.mx_glob.proofs.MatchLemmas.{MatchesCase}

literal_push : (xs : List ℕ) (c : ℕ) → IsLiteral xs → (c == star ≡ false) × (c == question ≡ false)
    → IsLiteral (xs ++ c ∷ [])
literal_push [] c literal h = (h.0, h.1, tt)
literal_push (x ∷ xs) c literal h = (literal.0, literal.1, literal_push xs c literal.2 h)

pub literal_more : (pattern : List ℕ) (k : ℕ) (here : Option ℕ) → k < length pattern → here ≡ slice_get pattern k
    → IfSome here (λ c. (c == star ≡ false) × (c == question ≡ false)) → IsLiteral (take k pattern)
    → IsLiteral (take (k + 1) pattern)
literal_more pattern k None h e told literal = let some = slice_get-get_or pattern k 0 h in cc
literal_more pattern k (Some c) h e told literal =
    let same : c ≡ get_or pattern k 0 = sym (get_or_from_slice_get pattern k c 0 (sym e)) in
    subst IsLiteral (ap (λ x. take k pattern ++ x ∷ []) same ∙ sym (take_more pattern k 0 h))
    (literal_push (take k pattern) c literal told)

pub literal_matches : (pattern text : List ℕ) → IsLiteral pattern → Matches pattern text → text ≡ pattern
literal_matches [] text literal matched = matched
literal_matches (c ∷ rest) [] literal matched =
    let none : MatchesCase c rest [] false (c == question) =
    subst (λ b. MatchesCase c rest [] b (c == question)) literal.0 matched in
    absurd (subst (MatchesCase c rest [] false) literal.1 none)
literal_matches (c ∷ rest) (d ∷ text) literal matched =
    let step : MatchesCase c rest (d ∷ text) false (c == question) =
    subst (λ b. MatchesCase c rest (d ∷ text) b (c == question)) literal.0 matched in
    let parts : (d ≡ c) × Matches rest text = subst (MatchesCase c rest (d ∷ text) false) literal.1 step in
    let tail = literal_matches rest text literal.2 parts.1 in
    let first = parts.0 in
    cc

pub matches_itself : (pattern : List ℕ) → IsLiteral pattern → Matches pattern pattern
matches_itself [] literal = refl
matches_itself (c ∷ rest) literal =
    let parts : MatchesCase c rest (c ∷ rest) false false = (refl, matches_itself rest literal.2) in
    let step : MatchesCase c rest (c ∷ rest) false (c == question) =
    subst (MatchesCase c rest (c ∷ rest) false) (sym literal.1) parts in
    subst (λ b. MatchesCase c rest (c ∷ rest) b (c == question)) (sym literal.0) step

pub WordMatches-name : (pattern text : List ℕ) → IsName pattern → WordMatches pattern text ↔ HasWord pattern text
WordMatches-name pattern text name = (
  λ matched. (matched.0, matched.1, matched.2, literal_matches pattern _ name.literal matched.3),
  λ found. (found.0, found.1, found.2, subst (Matches pattern) (sym found.3) (matches_itself pattern name.literal)),
)
