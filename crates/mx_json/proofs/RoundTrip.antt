-- The canonical text of a valid value is read as that value.
use Rattle.std.proofs.Common.{◌≡◌, ℕ, suc, ◌≤◌, ℤ, pos, negsuc, true, List, [], ◌∷◌, map, Ok, sym, ap, subst, ◌∙◌}
use Rattle.std.proofs.Common.{arith}
use Rattle.std.proofs.lemmas.Bool.{and_parts}
use Rattle.std.specs.List.{list_all}
use Rattle.json.specs.Lex.{tokens}
use Rattle.json.specs.Tree as tree
use Rattle.json.proofs.Printed.Decimals.{IsNumber-signed_decimal}
use Rattle.json.proofs.Printed.Tokens.{tokens-print}
use Rattle.json.proofs.Printed.Trees.{ArePrintable-json_tokens}
use Rattle.serde_json.specs.Data.{Data}
use Rattle.serde_json.specs.Find.{of_integer}
use Rattle.serde_json.specs.Data.{number}
use Rattle.serde_json.specs.Written.{outline, items_outline, members_outline}
use Rattle.mx_json.specs.declared.value.Json.{Json}
use Rattle.mx_json.specs.Canonical.{canonical}
use Rattle.mx_json.specs.Json.{depth_of, is_whole, is_canonical, is_valid}
use Rattle.mx_json.specs.Reading.{read_json}
use Rattle.mx_json.specs.Tokens.{data_of, items_data, pairs_data, tokens_of}
use Rattle.mx_json.proofs.CanonicalLemmas.{print-tokens_of}
use Rattle.mx_json.proofs.DataLemmas.{data_of-Null, data_of-Truth, data_of-Whole, data_of-Text, data_of-List}
use Rattle.mx_json.proofs.DataLemmas.{data_of-Object}
use Rattle.mx_json.proofs.Induction.{Each, EachValue, every}
use Rattle.mx_json.proofs.JsonLemmas.{with_value, is_canonical-List, is_canonical-Whole, is_valid_parts}
use Rattle.mx_json.proofs.ReadBackLemmas.{largest_from_is_whole, read_json-tokens}
use Rattle.mx_json.proofs.RisingLemmas.{canonical_object}
use Rattle.mx_json.proofs.Utf8Lemmas.{IsUtf8-canonical}

-- each number's text is a number

abbrev HasNumbers : Data → Type 0
HasNumbers d = tree.HasNumbers (outline d)

abbrev IsNumbered : Json → Type 0
IsNumbered v = is_canonical v ≡ true → HasNumbers (data_of v)

whole_numbered : (n : ℤ) → is_whole n ≡ true → HasNumbers (number (of_integer n))
whole_numbered (pos n) h = IsNumber-signed_decimal (pos n) (omega (arith, largest_from_is_whole n h))
whole_numbered (negsuc n) h = IsNumber-signed_decimal (negsuc n) (omega (arith, largest_from_is_whole (suc n) h))

items_numbered : (items : List Json) → Each IsNumbered items → list_all (λ b. b) (map is_canonical items) ≡ true
    → tree.ItemsHaveNumbers (items_outline (items_data items))
items_numbered [] h all = tt
items_numbered (v ∷ items) h all =
    let parts = and_parts (is_canonical v) (list_all (λ b. b) (map is_canonical items)) all in
    (h.0 parts.0, items_numbered items h.1 parts.1)

pairs_numbered : (pairs : List (List ℕ × Json)) → EachValue IsNumbered pairs
    → list_all (λ pair. pair.1) (map (with_value is_canonical) pairs) ≡ true
    → tree.MembersHaveNumbers (members_outline (pairs_data pairs))
pairs_numbered [] h all = tt
pairs_numbered (pair ∷ pairs) h all =
    let parts = and_parts (is_canonical pair.1) (list_all (λ p. p.1) (map (with_value is_canonical) pairs)) all in
    (h.0 parts.0, pairs_numbered pairs h.1 parts.1)

is_numbered : (v : Json) → IsNumbered v
is_numbered = every IsNumbered record {
  null = λ is. subst HasNumbers (sym data_of-Null) tt;
  truth = λ truth is. subst HasNumbers (sym (data_of-Truth truth)) tt;
  whole = λ n is. subst HasNumbers (sym (data_of-Whole n)) (whole_numbered n (sym (is_canonical-Whole n) ∙ is));
  text = λ text is. subst HasNumbers (sym (data_of-Text text)) tt;
  list = λ list h is.
      subst HasNumbers (sym (data_of-List list)) (items_numbered list.items h (sym (is_canonical-List list) ∙ is));
  object = λ whole h is.
      subst HasNumbers (sym (data_of-Object whole)) (pairs_numbered whole.pairs h (canonical_object whole is).1);
}

-- the round trip of a value, so that no two values share a text
pub read_json-canonical : (v : Json) (deepest : ℕ) → is_valid v ≡ true → depth_of v ≤ deepest
    → read_json (canonical v) deepest ≡ Ok v
read_json-canonical v deepest valid within =
    let parts = is_valid_parts v valid in
    let lexed : tokens (canonical v) ≡ tokens_of v = ap tokens (sym (print-tokens_of v))
    ∙ tokens-print (tokens_of v) (ArePrintable-json_tokens (outline (data_of v)) (is_numbered v parts.0)) in
    read_json-tokens v (canonical v) deepest valid within (IsUtf8-canonical v parts.0 parts.1) lexed
