-- Where a value's texts are UTF-8, so is its canonical text.
use Rattle.std.proofs.Common.{◌≡◌, ℕ, suc, ℤ, pos, negsuc, Bool, true, false, ◌&&◌, List, [], ◌∷◌, ◌++◌, map, IsUtf8}
use Rattle.std.proofs.Common.{refl, sym, subst, ◌∙◌, arith, rules}
use Rattle.std.proofs.lemmas.Bool.{and_parts}
use Rattle.std.proofs.lemmas.Fmt.{IsAscii-signed}
use Rattle.std.proofs.lemmas.Str.{IsUtf8-append, IsUtf8-from_ascii, IsUtf8-from_is_utf8}
use Rattle.std.specs.Fmt.{signed_decimal}
use Rattle.std.specs.List.{join_with_byte, list_all}
use Rattle.std.specs.Str.{is_utf8}
use Rattle.json.specs.Print.{quoted}
use Rattle.json.proofs.Printed.Utf8.{IsUtf8-are_ascii, IsUtf8-quoted}
use Rattle.mx_json.specs.declared.value.Json.{Json, Null, Truth, Whole, Text, the_lemmas}
use Rattle.mx_json.specs.Canonical.{canonical, pair_text}
use Rattle.mx_json.specs.Json.{is_canonical, is_whole}
use Rattle.mx_json.specs.Utf8.{has_utf8}
use Rattle.mx_json.proofs.CanonicalLemmas.{canonical-List, canonical-Object}
use Rattle.mx_json.proofs.Induction.{Each, EachValue, every}
use Rattle.mx_json.proofs.JsonLemmas.{with_value, has_utf8-Text, has_utf8-List, has_utf8-Object, is_canonical-List}
use Rattle.mx_json.proofs.JsonLemmas.{is_canonical-Whole}
use Rattle.mx_json.proofs.ReadBackLemmas.{largest_from_is_whole}
use Rattle.mx_json.proofs.RisingLemmas.{canonical_object}

canonical-Null : canonical Null ≡ 110 ∷ 117 ∷ 108 ∷ 108 ∷ []
canonical-Null = search (rules, the_lemmas)

canonical-Whole : (n : ℤ) → canonical (Whole n) ≡ signed_decimal n
canonical-Whole n = search (rules, the_lemmas)

canonical-Text : (text : List ℕ) → canonical (Text text) ≡ quoted text
canonical-Text text = search (rules, the_lemmas)

-- what has these two is written in UTF-8
abbrev IsWell : Json → Type 0
IsWell v = is_canonical v ≡ true → has_utf8 v ≡ true → IsUtf8 (canonical v)

comma_utf8 : (x y : List ℕ) → IsUtf8 x → IsUtf8 y → IsUtf8 (x ++ 44 ∷ y)
comma_utf8 x y h k = IsUtf8-append x (44 ∷ y) h (IsUtf8-append (44 ∷ []) y (IsUtf8-are_ascii (44 ∷ []) refl) k)

items_utf8 : (items : List Json) → Each IsWell items → list_all (λ b. b) (map is_canonical items) ≡ true
    → list_all (λ b. b) (map has_utf8 items) ≡ true → IsUtf8 (join_with_byte 44 (map canonical items))
items_utf8 [] h all texts = IsUtf8-are_ascii [] refl
items_utf8 (v ∷ []) h all texts = h.0 (and_parts (is_canonical v) true all).0 (and_parts (has_utf8 v) true texts).0
items_utf8 (v ∷ next ∷ items) h all texts =
    let parts = and_parts (is_canonical v) (list_all (λ b. b) (map is_canonical (next ∷ items))) all in
    let utf8 = and_parts (has_utf8 v) (list_all (λ b. b) (map has_utf8 (next ∷ items))) texts in
    comma_utf8 (canonical v) (join_with_byte 44 (map canonical (next ∷ items))) (h.0 parts.0 utf8.0)
    (items_utf8 (next ∷ items) h.1 parts.1 utf8.1)

abbrev Pair : Type 0
Pair = List ℕ × Json

abbrev all_canonical : List Pair → Bool
all_canonical pairs = list_all (λ pair. pair.1) (map (with_value is_canonical) pairs)

abbrev all_utf8 : List Pair → Bool
all_utf8 pairs = list_all (λ pair. is_utf8 pair.0 && pair.1) (map (with_value has_utf8) pairs)

pair_utf8 : (pair : Pair) → IsWell pair.1 → is_canonical pair.1 ≡ true → (is_utf8 pair.0 && has_utf8 pair.1) ≡ true
    → IsUtf8 (pair_text (with_value canonical pair))
pair_utf8 pair h is utf8 =
    let parts = and_parts (is_utf8 pair.0) (has_utf8 pair.1) utf8 in
    IsUtf8-append (quoted pair.0) (58 ∷ canonical pair.1) (IsUtf8-quoted pair.0 (IsUtf8-from_is_utf8 pair.0 parts.0))
    (IsUtf8-append (58 ∷ []) (canonical pair.1) (IsUtf8-are_ascii (58 ∷ []) refl) (h is parts.1))

pairs_utf8 : (pairs : List Pair) → EachValue IsWell pairs → all_canonical pairs ≡ true → all_utf8 pairs ≡ true
    → IsUtf8 (join_with_byte 44 (map pair_text (map (with_value canonical) pairs)))
pairs_utf8 [] h all texts = IsUtf8-are_ascii [] refl
pairs_utf8 (pair ∷ []) h all texts =
    pair_utf8 pair h.0 (and_parts (is_canonical pair.1) true all).0
    (and_parts (is_utf8 pair.0 && has_utf8 pair.1) true texts).0
pairs_utf8 (pair ∷ next ∷ pairs) h all texts =
    let parts = and_parts (is_canonical pair.1) (all_canonical (next ∷ pairs)) all in
    let utf8 = and_parts (is_utf8 pair.0 && has_utf8 pair.1) (all_utf8 (next ∷ pairs)) texts in
    comma_utf8 (pair_text (with_value canonical pair)) _ (pair_utf8 pair h.0 parts.0 utf8.0)
    (pairs_utf8 (next ∷ pairs) h.1 parts.1 utf8.1)

truth_utf8 : (truth : Bool) → IsUtf8 (canonical (Truth truth))
truth_utf8 true = let is : canonical (Truth true) ≡ 116 ∷ 114 ∷ 117 ∷ 101 ∷ [] = search (rules, the_lemmas) in
    subst IsUtf8 (sym is) (IsUtf8-are_ascii _ refl)
truth_utf8 false = let is : canonical (Truth false) ≡ 102 ∷ 97 ∷ 108 ∷ 115 ∷ 101 ∷ [] = search (rules, the_lemmas) in
    subst IsUtf8 (sym is) (IsUtf8-are_ascii _ refl)

whole_utf8 : (n : ℤ) → is_whole n ≡ true → IsUtf8 (signed_decimal n)
whole_utf8 (pos n) h = IsUtf8-from_ascii _ (IsAscii-signed (pos n) (omega (arith, largest_from_is_whole n h)))
whole_utf8 (negsuc n) h =
    IsUtf8-from_ascii _ (IsAscii-signed (negsuc n) (omega (arith, largest_from_is_whole (suc n) h)))

between : (first last : ℕ) (text : List ℕ) → IsUtf8 (first ∷ []) → IsUtf8 (last ∷ []) → IsUtf8 text
    → IsUtf8 (first ∷ (text ++ last ∷ []))
between first last text h k utf8 =
    IsUtf8-append (first ∷ []) (text ++ last ∷ []) h (IsUtf8-append text (last ∷ []) utf8 k)

pub IsUtf8-canonical : (v : Json) → IsWell v
IsUtf8-canonical = every IsWell record {
  null = λ is texts. subst IsUtf8 (sym canonical-Null) (IsUtf8-are_ascii _ refl);
  truth = λ truth is texts. truth_utf8 truth;
  whole = λ n is texts. subst IsUtf8 (sym (canonical-Whole n)) (whole_utf8 n (sym (is_canonical-Whole n) ∙ is));
  text = λ text is texts. subst IsUtf8 (sym (canonical-Text text))
      (IsUtf8-quoted text (IsUtf8-from_is_utf8 text (sym (has_utf8-Text text) ∙ texts)));
  list = λ list h is texts.
      subst IsUtf8 (sym (canonical-List list))
      (between 91 93 _ (IsUtf8-are_ascii (91 ∷ []) refl) (IsUtf8-are_ascii (93 ∷ []) refl)
      (items_utf8 list.items h (sym (is_canonical-List list) ∙ is) (sym (has_utf8-List list) ∙ texts)));
  object = λ whole h is texts.
      subst IsUtf8 (sym (canonical-Object whole))
      (between 123 125 _ (IsUtf8-are_ascii (123 ∷ []) refl) (IsUtf8-are_ascii (125 ∷ []) refl)
      (pairs_utf8 whole.pairs h (canonical_object whole is).1 (sym (has_utf8-Object whole) ∙ texts)));
}
