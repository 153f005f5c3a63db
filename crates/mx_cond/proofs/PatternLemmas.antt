-- An ASCII text is matched by a pattern that a text spells exactly where the two are equal, case apart.
use Rattle.std.proofs.Common.{◌≡◌, ◌≢◌, ℕ, suc, ◌<◌, ◌==◌, Bool, true, false, if◌then◌else◌, nat_lt, length, Ok, Err}
use Rattle.std.proofs.Common.{List, [], ◌∷◌, map, slice_index, EachIndex, IsAscii, inl, inr, ◌↔◌, sym, ◌∙◌, subst}
use Rattle.std.proofs.Common.{arith}
use Rattle.std.proofs.lemmas.Bool.Decides.{nat_tests}
use Rattle.std.proofs.lemmas.Bool.{cases_lt}
use Rattle.std.proofs.lemmas.List.{get_or_past}
use Rattle.std.specs.Char.{to_ascii_lowercase}
use Rattle.mx_json.specs.Folded.{folded}
use Rattle.mx_json.proofs.FoldedLemmas.{folded-ascii}
use Rattle.mx_glob.specs.declared.error.GlobError.TheVariants.{PatternTooLong}
use Rattle.mx_glob.specs.FoldedPattern.{folded_pattern}
use Rattle.mx_glob.specs.Glob.{star, question, Matches}
use Rattle.mx_glob.specs.Search.{IsLiteral}
use Rattle.mx_glob.proofs.NameLemmas.{literal_matches, matches_itself}
use Rattle.mx_cond.specs.Pattern.{Spells}

-- bytes that are ASCII, and no `*` and no `?`
abbrev pub AreItself : List ℕ → Type 0
AreItself text =
    EachIndex text (λ k. (slice_index text k < 128) × (slice_index text k ≢ star) × (slice_index text k ≢ question))

lowered_star : (c : ℕ) → c ≢ star → to_ascii_lowercase c == star ≡ false
lowered_star c other = grind (arith, nat_tests)

lowered_question : (c : ℕ) → c ≢ question → to_ascii_lowercase c == question ≡ false
lowered_question c other = grind (arith, nat_tests)

tail_itself : (c : ℕ) (text : List ℕ) → AreItself (c ∷ text) → AreItself text
tail_itself c text are = λ k below. are (suc k) (omega arith)

literal_lowered : (text : List ℕ) → AreItself text → IsLiteral (map to_ascii_lowercase text)
literal_lowered [] are = tt
literal_lowered (c ∷ text) are =
    let first = are 0 (omega arith) in
    (lowered_star c first.1, lowered_question c first.2, literal_lowered text (tail_itself c text are))

ascii_itself : (text : List ℕ) → AreItself text → IsAscii text
ascii_itself text are = λ i.
    elim (cases_lt i (length text)) [
      | inl below ↦ (are i below).0
      | inr past ↦ omega (arith, get_or_past text i 0 past)
    ]

-- such a text spells its folding
pub Spells-folded : (text : List ℕ) → AreItself text → Spells text (folded text)
Spells-folded text are =
    let ascii = ascii_itself text are in
    let same = folded-ascii text ascii in
    record {
      ascii = ascii;
      literal = subst IsLiteral same (literal_lowered text are);
      same = same;
    }

pub matches_spelled : (pattern spelled text : List ℕ) → Spells spelled pattern → IsAscii text
    → (map to_ascii_lowercase text ≡ map to_ascii_lowercase spelled) ↔ Matches pattern (folded text)
matches_spelled pattern spelled text spells ascii =
    let lowered = folded-ascii text ascii in (
      λ same. subst (Matches pattern) (sym (sym lowered ∙ same ∙ spells.same)) (matches_itself pattern spells.literal),
      λ matched. lowered ∙ literal_matches pattern (folded text) spells.literal matched ∙ sym spells.same,
    )

from_test : (long : Bool) (text glob : List ℕ)
    → (if long then Err PatternTooLong else Ok (folded text)) ≡ Ok glob → folded text ≡ glob
from_test true text glob is = absurd cc
from_test false text glob is = cc

-- the glob of a pattern that isn't too long is its folding
pub folded_from_pattern : (text glob : List ℕ) → folded_pattern text ≡ Ok glob → folded text ≡ glob
folded_from_pattern text glob is = from_test (nat_lt 1024 (length text)) text glob is
