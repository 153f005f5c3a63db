-- A folded text from its parts: that of an ASCII text, and one character before the rest.
use Rattle.std.proofs.Common.{◌≡◌, ℕ, List, [], ◌∷◌, ◌++◌, append_assoc, append-nil, length, map, IsAscii, IsUtf8}
use Rattle.std.proofs.Common.{encode_utf8, chars, arith, sym, ap, ◌∙◌}
use Rattle.std.proofs.lemmas.Str.{chars-IsAscii, chars-nil, chars_past_char}
use Rattle.std.specs.Char.{to_ascii_lowercase}
use Rattle.ucd_case.specs.CaseFolding.{full_fold}
use Rattle.caseless.specs.Caseless.{default_case_fold}
use Rattle.caseless.proofs.CaselessLemmas.{default_case_fold-ascii, default_case_fold-nil, default_case_fold-cons}
use Rattle.caseless.proofs.CaselessLemmas.{All-chars}
use Rattle.mx_json.specs.Folded.{folded}

-- an ASCII text folds to its bytes in lower case
pub folded-ascii : (text : List ℕ) → IsAscii text → map to_ascii_lowercase text ≡ folded text
folded-ascii text ascii =
    sym (default_case_fold-ascii (chars text) (All-chars text ascii)
    ∙ ap (map to_ascii_lowercase) (chars-IsAscii text ascii))

-- the first character of a text, and the rest
pub folded-past_char : (done text rest : List ℕ) (c : ℕ) → IsUtf8 text
    → text ≡ encode_utf8 c ++ rest → (done ++ full_fold c) ++ folded rest ≡ done ++ folded text
folded-past_char done text rest c utf8 is =
    append_assoc done (full_fold c) (folded rest)
    ∙ ap (λ s. done ++ s)
    (sym (ap default_case_fold (chars_past_char text rest c utf8 is) ∙ default_case_fold-cons c (chars rest)))

-- where nothing is left to fold
pub folded-ended : (done rest : List ℕ) → length rest ≡ 0 → done ++ folded rest ≡ done
folded-ended done [] none =
    ap (λ s. done ++ s) (ap default_case_fold chars-nil ∙ default_case_fold-nil) ∙ append-nil done
folded-ended done (b ∷ rest) none = absurd (omega (arith, none))
