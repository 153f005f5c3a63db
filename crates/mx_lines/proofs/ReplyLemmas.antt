-- A reply is one line, and begins as an answer; what is replied is a valid value.
use Rattle.std.proofs.Common.{◌≡◌, ℕ, ◌≤◌, ◌==◌, true, false, List, [], ◌∷◌, refl, arith}
use Rattle.std.proofs.lemmas.Bool.Decides.{nat_tests}
use Rattle.mx_json.specs.declared.value.Json.{Json}
use Rattle.mx_json.specs.Canonical.{canonical}
use Rattle.mx_json.proofs.LineLemmas.{HasNoControl, HasNoControl-canonical}
use Rattle.mx_records.specs.History.{History}
use Rattle.mx_lines.specs.Admission.{admission_of, reply_by, reply}
use Rattle.mx_lines.specs.Lines.{IsOneLine}
use Rattle.mx_lines.specs.Replies.{reply_text}
use Rattle.mx_lines.specs.Runs.{is_answer}

no_feed : (b : ℕ) → 32 ≤ b → (b == 10) ≡ false
no_feed b above = grind (arith, nat_tests)

IsOneLine-no_control : (bytes : List ℕ) → HasNoControl bytes → IsOneLine bytes
IsOneLine-no_control [] has = tt
IsOneLine-no_control (b ∷ bytes) has = (no_feed b has.0, IsOneLine-no_control bytes has.1)

IsOneLine-text : (value : Json) → IsOneLine (reply_text value)
unfolding reply_text
IsOneLine-text value = (refl, (refl, IsOneLine-no_control (canonical value) (HasNoControl-canonical value)))

-- a reply is one line
pub IsOneLine-reply : (server : List ℕ) (h : History) (line : List ℕ) → IsOneLine (reply server h line)
unfolding reply
IsOneLine-reply server h line = IsOneLine-text (reply_by server h (admission_of server h line))

-- a reply begins as an answer
pub is_answer-reply : (server : List ℕ) (h : History) (line : List ℕ) → is_answer (reply server h line) ≡ true
unfolding reply reply_text
is_answer-reply server h line = refl
