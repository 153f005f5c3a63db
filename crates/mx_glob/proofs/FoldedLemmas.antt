-- How many characters the folding of a text of so many bytes has at most.
use Rattle.std.proofs.Common.{ℕ, ◌*◌, ◌≤◌, List, [], ◌∷◌, length, encode_utf8, encode_utf8_all, chars, IsUtf8, inl, inr}
use Rattle.std.proofs.Common.{ap, ◌∙◌, arith, length-append}
use Rattle.std.proofs.lemmas.Bool.{cases_lt}
use Rattle.std.proofs.lemmas.Bool.Decides.{nat_tests}
use Rattle.std.proofs.lemmas.Str.{length-encode, encodes-chars}
use Rattle.std.specs.Char.{len_utf8}
use Rattle.ucd_case.specs.CaseFolding.{full_folding, or_itself, full_fold}
use Rattle.ucd_case.proofs.CaseFoldingLemmas.{full_fold-ascii}
use Rattle.ucd_case.proofs.BoundLemmas.{length-full_folding}
use Rattle.caseless.specs.Caseless.{default_case_fold}
use Rattle.caseless.proofs.CaselessLemmas.{default_case_fold-nil, default_case_fold-cons}
use Rattle.mx_json.specs.Folded.{folded}

or_itself_short : (c : ℕ) (xs : List ℕ) → length xs ≤ 3 → length (or_itself c xs) ≤ 3
or_itself_short c [] h = omega arith
or_itself_short c (x ∷ xs) h = h

two_bytes : (c : ℕ) → 128 ≤ c → 2 ≤ len_utf8 c
two_bytes c h = grind (arith, nat_tests)

one_byte : (c : ℕ) → 1 ≤ len_utf8 c
one_byte c = grind (arith, nat_tests)

-- one byte folds to one character, two or more to three at most
pub length-full_fold : (c : ℕ) → 2 * length (full_fold c) ≤ 3 * len_utf8 c
length-full_fold c =
    elim (cases_lt c 128) [
      | inl ascii ↦ omega (arith, ap length (full_fold-ascii c ascii), one_byte c)
      | inr wide ↦ omega (arith, or_itself_short c (full_folding c) (length-full_folding c), two_bytes c wide)
    ]

length-fold : (cs : List ℕ) → 2 * length (default_case_fold cs) ≤ 3 * length (encode_utf8_all cs)
length-fold [] = omega (arith, ap length default_case_fold-nil)
length-fold (c ∷ cs) =
    let fold = ap length (default_case_fold-cons c cs) ∙ length-append (full_fold c) (default_case_fold cs) in
    let bytes = length-append (encode_utf8 c) (encode_utf8_all cs) in
    omega (arith, length-encode c, length-full_fold c, length-fold cs)

pub length-folded : (text : List ℕ) → IsUtf8 text → 2 * length (folded text) ≤ 3 * length text
length-folded text utf8 = omega (arith, length-fold (chars text), ap length (encodes-chars text utf8))
