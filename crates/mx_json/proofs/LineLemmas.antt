-- A canonical text is one line: no byte of it is below 32, so none is a line feed.
use Rattle.std.proofs.Common.{◌≡◌, ℕ, ◌+◌, ◌<◌, ◌≤◌, ◌/◌, ◌%◌, ◌==◌, ℤ, pos, negsuc, Bool, true, false, cond, List, []}
use Rattle.std.proofs.Common.{◌∷◌, ◌++◌, map, codes, nat_lt, rules, refl, arith, zero, suc}
use Rattle.std.proofs.lemmas.Bool.Decides.{nat_tests}
use Rattle.std.specs.Fmt.{decimal, digits, digits_onto, digit_glyph, signed_decimal}
use Rattle.std.specs.List.{join_with_byte}
use Rattle.json.specs.Print.{escape, escape_byte, escape_letter, quoted}
use Rattle.mx_json.specs.declared.value.Json.{Json, Null, Truth, Whole, Text, the_lemmas}
use Rattle.mx_json.specs.Canonical.{canonical, pair_text}
use Rattle.mx_json.proofs.CanonicalLemmas.{canonical-List, canonical-Object}
use Rattle.mx_json.proofs.Induction.{Each, EachValue, every}
use Rattle.mx_json.proofs.JsonLemmas.{with_value}

-- no byte is below 32
abbrev pub HasNoControl : List ℕ → Type 0
HasNoControl [] = Unit {0}
HasNoControl (b ∷ bytes) = (32 ≤ b) × HasNoControl bytes

pub HasNoControl-append : (front rest : List ℕ) → HasNoControl front → HasNoControl rest → HasNoControl (front ++ rest)
HasNoControl-append [] rest f r = r
HasNoControl-append (b ∷ front) rest f r = (f.0, HasNoControl-append front rest f.1 r)

-- ---- numbers

glyph_above : (d : ℕ) → 32 ≤ digit_glyph false d
glyph_above d = grind (arith, nat_tests)

HasNoControl-cond : (t : Bool) (xs ys : List ℕ) → HasNoControl xs → HasNoControl ys → HasNoControl (cond t xs ys)
HasNoControl-cond true xs ys x y = x
HasNoControl-cond false xs ys x y = y

HasNoControl-digits : (k n : ℕ) (bytes : List ℕ) → HasNoControl bytes → HasNoControl (digits_onto k 10 false n bytes)
HasNoControl-digits zero n bytes has = has
HasNoControl-digits (suc k) n bytes has =
    HasNoControl-cond (n / 10 == 0) _ _ (glyph_above (n % 10), has)
    (HasNoControl-digits k (n / 10) (digit_glyph false (n % 10) ∷ bytes) (glyph_above (n % 10), has))

HasNoControl-decimal : (n : ℕ) → HasNoControl (decimal n)
unfolding digits
HasNoControl-decimal n = HasNoControl-digits 64 n [] tt

HasNoControl-signed : (n : ℤ) → HasNoControl (signed_decimal n)
HasNoControl-signed (pos n) = HasNoControl-decimal n
HasNoControl-signed (negsuc n) = (omega arith, HasNoControl-decimal (suc n))

-- ---- texts

-- an escape's letter is a letter
letter_above : (x : ℕ) → 0 < escape_letter x → 32 ≤ escape_letter x
letter_above x some = grind (arith, nat_tests)

hexadecimal_above : (d : ℕ) → 32 ≤ (cond (nat_lt d 10) (48 + d) (87 + d))
hexadecimal_above d = grind (arith, nat_tests)

escaped_by : (has_letter is_control : Bool) (x letter : ℕ) (long : List ℕ) → (has_letter ≡ true → 32 ≤ letter)
    → HasNoControl long → (is_control ≡ false → 32 ≤ x)
    → HasNoControl (cond has_letter (92 ∷ letter ∷ []) (cond is_control long (x ∷ [])))
escaped_by true is_control x letter long short has plain = (omega arith, (short refl, tt))
escaped_by false true x letter long short has plain = has
escaped_by false false x letter long short has plain = (plain refl, tt)

HasNoControl-escape_byte : (x : ℕ) → HasNoControl (escape_byte x)
unfolding escape_byte
HasNoControl-escape_byte x =
    escaped_by (nat_lt 0 (escape_letter x)) (nat_lt x 32) x (escape_letter x) _
    (λ is. letter_above x (grind (arith, nat_tests))) (
      omega arith,
      (omega arith, (omega arith, (omega arith, (hexadecimal_above (x / 16), (hexadecimal_above (x % 16), tt))))),
    )
    (λ is. grind (arith, nat_tests))

HasNoControl-escape : (text : List ℕ) → HasNoControl (escape text)
HasNoControl-escape [] = tt
HasNoControl-escape (b ∷ text) =
    HasNoControl-append (escape_byte b) (escape text) (HasNoControl-escape_byte b) (HasNoControl-escape text)

HasNoControl-quoted : (text : List ℕ) → HasNoControl (quoted text)
HasNoControl-quoted text =
    (omega arith, HasNoControl-append (escape text) (34 ∷ []) (HasNoControl-escape text) (omega arith, tt))

-- ---- values

abbrev IsLine : Json → Type 0
IsLine json = HasNoControl (canonical json)

HasNoControl-joined : (items : List Json) → Each IsLine items → HasNoControl (join_with_byte 44 (map canonical items))
HasNoControl-joined [] each = tt
HasNoControl-joined (item ∷ []) each = each.0
HasNoControl-joined (item ∷ next ∷ items) each =
    HasNoControl-append (canonical item) (44 ∷ join_with_byte 44 (map canonical (next ∷ items))) each.0
    (omega arith, HasNoControl-joined (next ∷ items) each.1)

HasNoControl-pair : (key : List ℕ) (json : Json) → IsLine json → HasNoControl (pair_text (key, canonical json))
HasNoControl-pair key json is =
    HasNoControl-append (quoted key) (58 ∷ canonical json) (HasNoControl-quoted key) (omega arith, is)

HasNoControl-pairs : (pairs : List (List ℕ × Json)) → EachValue IsLine pairs
    → HasNoControl (join_with_byte 44 (map pair_text (map (with_value canonical) pairs)))
HasNoControl-pairs [] each = tt
HasNoControl-pairs (pair ∷ []) each = HasNoControl-pair pair.0 pair.1 each.0
HasNoControl-pairs (pair ∷ next ∷ pairs) each =
    HasNoControl-append (pair_text (pair.0, canonical pair.1))
    (44 ∷ join_with_byte 44 (map pair_text (map (with_value canonical) (next ∷ pairs))))
    (HasNoControl-pair pair.0 pair.1 each.0) (omega arith, HasNoControl-pairs (next ∷ pairs) each.1)

canonical-Null : canonical Null ≡ codes "null"
canonical-Null = search (rules, the_lemmas)

canonical-Truth : (truth : Bool) → canonical (Truth truth) ≡ cond truth (codes "true") (codes "false")
canonical-Truth truth = search (rules, the_lemmas)

canonical-Whole : (n : ℤ) → canonical (Whole n) ≡ signed_decimal n
canonical-Whole n = search (rules, the_lemmas)

canonical-Text : (text : List ℕ) → canonical (Text text) ≡ quoted text
canonical-Text text = search (rules, the_lemmas)

-- a text that is written out
abbrev is_above : List ℕ → Bool
is_above [] = true
is_above (b ∷ bytes) = cond (nat_lt b 32) false (is_above bytes)

above_first : (t : Bool) (b : ℕ) (rest : Bool) → nat_lt b 32 ≡ t → cond t false rest ≡ true → (32 ≤ b) × (rest ≡ true)
above_first true b rest test is = absurd cc
above_first false b rest test is = (grind (arith, nat_tests), is)

HasNoControl-literal : (bytes : List ℕ) → is_above bytes ≡ true → HasNoControl bytes
HasNoControl-literal [] is = tt
HasNoControl-literal (b ∷ bytes) is =
    let parts = above_first (nat_lt b 32) b (is_above bytes) refl is in
    (parts.0, HasNoControl-literal bytes parts.1)

-- no byte of a canonical text is below 32
pub HasNoControl-canonical : (json : Json) → HasNoControl (canonical json)
HasNoControl-canonical = every IsLine record {
  null = rw canonical-Null (HasNoControl-literal (codes "null") refl);
  truth = λ truth. rw canonical-Truth (HasNoControl-cond truth (codes "true") (codes "false")
      (HasNoControl-literal (codes "true") refl) (HasNoControl-literal (codes "false") refl));
  whole = λ n. rw canonical-Whole (HasNoControl-signed n);
  text = λ text. rw canonical-Text (HasNoControl-quoted text);
  list = λ list each. rw canonical-List (
    omega arith,
    HasNoControl-append (join_with_byte 44 (map canonical list.items)) (93 ∷ []) (HasNoControl-joined list.items each) (
      omega arith,
      tt,
    ),
  );
  object = λ whole each. rw canonical-Object (
    omega arith,
    HasNoControl-append (join_with_byte 44 (map pair_text (map (with_value canonical) whole.pairs))) (125 ∷ [])
        (HasNoControl-pairs whole.pairs each) (omega arith, tt),
  );
}
