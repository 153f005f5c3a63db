-- Digits: how large a number of 15 of them is, and one among them.
use Rattle.std.proofs.Common.{◌≡◌, ℕ, zero, suc, ◌<◌, ◌≤◌, ◌^◌, ◌&&◌, true, nat_le, List, [], ◌∷◌, length, get_or}
use Rattle.std.proofs.Common.{arith, rules}
use Rattle.std.proofs.lemmas.Bool.{and_parts}
use Rattle.std.proofs.lemmas.Bool.Decides.{nat_tests}
use Rattle.std.proofs.lemmas.Str.Parse.{digits_value_short, numerals_by_value, IsNumeralModel}
use Rattle.std.specs.Char.{is_ascii_digit}
use Rattle.std.specs.List.{list_all}
use Rattle.std.specs.Str.Parse.{digits_value}
use Rattle.mx_cond.specs.MemberCount.{is_number}

abbrev are_digits : List ℕ → Type 0
are_digits text = list_all is_ascii_digit text ≡ true

own : IsNumeralModel are_digits (digits_value 10)
own = numerals_by_value are_digits (search rules)

-- a number of at most 15 digits
pub digits_value-is_number : (text : List ℕ) → is_number text ≡ true → digits_value 10 text < 10 ^ 15
digits_value-is_number text number =
    let parts = and_parts (nat_le 1 (length text) && nat_le (length text) 15) (list_all is_ascii_digit text) number in
    let short = and_parts (nat_le 1 (length text)) (nat_le (length text) 15) parts.0 in
    digits_value_short own text 15 parts.1 (search (rules, nat_tests))

digit_at : (text : List ℕ) (k : ℕ) → list_all is_ascii_digit text ≡ true → k < length text
    → (48 ≤ get_or text k 0) × (get_or text k 0 ≤ 57)
digit_at [] k all h = absurd (omega arith)
digit_at (c ∷ cs) zero all h = let parts = and_parts (is_ascii_digit c) (list_all is_ascii_digit cs) all in
    search (rules, nat_tests)
digit_at (c ∷ cs) (suc k) all h = let parts = and_parts (is_ascii_digit c) (list_all is_ascii_digit cs) all in
    digit_at cs k parts.1 (omega arith)

-- each of its characters is a digit
pub digit_in_number : (text : List ℕ) (k : ℕ) → is_number text ≡ true → k < length text
    → (48 ≤ get_or text k 0) × (get_or text k 0 ≤ 57)
digit_in_number text k number h =
    let parts = and_parts (nat_le 1 (length text) && nat_le (length text) 15) (list_all is_ascii_digit text) number in
    digit_at text k parts.1 h
