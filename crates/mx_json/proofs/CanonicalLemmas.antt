-- The canonical text is what a writer gives for the value's tokens.
use Rattle.std.proofs.Common.{◌≡◌, ℕ, ℤ, pos, negsuc, Bool, true, false, List, [], ◌∷◌, ◌++◌, map, codes, rules, refl}
use Rattle.std.proofs.Common.{sym, ap, ap₂, ◌∙◌, append_assoc}
use Rattle.std.specs.Fmt.{signed_decimal}
use Rattle.std.specs.List.{join_with_byte}
use Rattle.json.specs.Print.{print, quoted}
use Rattle.serde_json.specs.Data.{boolean}
use Rattle.serde_json.specs.Find.{of_integer}
use Rattle.serde_json.specs.Written.{number_text, compact_text, items_text, members_text}
use Rattle.serde_json.proofs.Texts.{print-outline}
use Rattle.mx_json.specs.declared.value.Json.{Json, Truth, List as ListOf, Object, the_lemmas}
use Rattle.mx_json.specs.declared.value.JsonList.{JsonList}
use Rattle.mx_json.specs.declared.value.JsonObject.{JsonObject}
use Rattle.mx_json.specs.Canonical.{canonical, comma, list_text, object_text, pair_text}
use Rattle.mx_json.specs.Tokens.{data_of, items_data, pairs_data, tokens_of}
use Rattle.mx_json.proofs.DataLemmas.{data_of-Null, data_of-Truth, data_of-Whole, data_of-Text, data_of-List}
use Rattle.mx_json.proofs.DataLemmas.{data_of-Object}
use Rattle.mx_json.proofs.Induction.{Each, EachValue, every}
use Rattle.mx_json.proofs.JsonLemmas.{with_value}

pub canonical-List : (list : JsonList) → canonical (ListOf list) ≡ list_text record { items = map canonical list.items }
canonical-List list = search (rules, the_lemmas)

pub canonical-Object : (whole : JsonObject)
    → canonical (Object whole) ≡ object_text record { pairs = map (with_value canonical) whole.pairs }
canonical-Object whole = search (rules, the_lemmas)

-- ---- an object's text, member by member

-- the texts of an object's members after the first, and the brace that closes it
abbrev pub object_rest : List (List ℕ × List ℕ) → List ℕ
object_rest [] = codes "}"
object_rest (pair ∷ pairs) = codes "," ++ (pair_text pair ++ object_rest pairs)

closed : (pair : List ℕ × List ℕ) (pairs : List (List ℕ × List ℕ))
    → join_with_byte comma (map pair_text (pair ∷ pairs)) ++ codes "}" ≡ pair_text pair ++ object_rest pairs
closed pair [] = refl
closed pair (next ∷ pairs) =
    append_assoc (pair_text pair) (comma ∷ join_with_byte comma (map pair_text (next ∷ pairs))) (codes "}")
    ∙ ap (λ text. pair_text pair ++ (comma ∷ text)) (closed next pairs)

pub object-written : (pair : List ℕ × Json) (pairs : List (List ℕ × Json))
    → canonical (Object record { pairs = pair ∷ pairs })
    ≡ codes "{" ++ (pair_text (with_value canonical pair) ++ object_rest (map (with_value canonical) pairs))
object-written pair pairs =
    canonical-Object record { pairs = pair ∷ pairs }
    ∙ ap (λ text. codes "{" ++ text) (closed (with_value canonical pair) (map (with_value canonical) pairs))

-- ---- the same as a writer's

pub number_text-of_integer : (n : ℤ) → number_text (of_integer n) ≡ signed_decimal n
number_text-of_integer (pos n) = refl
number_text-of_integer (negsuc n) = refl

abbrev IsPrinted : Json → Type 0
IsPrinted json = compact_text (data_of json) ≡ canonical json

joined_items : (items : List Json) → Each IsPrinted items
    → items_text false (items_data items) ≡ join_with_byte 44 (map canonical items) ++ 93 ∷ []
joined_items [] h = refl
joined_items (item ∷ []) h = ap (λ s. s ++ 93 ∷ []) h.0
joined_items (item ∷ next ∷ items) h =
    ap₂ (λ (s t : List ℕ). s ++ 44 ∷ t) h.0 (joined_items (next ∷ items) h.1)
    ∙ sym (append_assoc (canonical item) (44 ∷ join_with_byte 44 (map canonical (next ∷ items))) (93 ∷ []))

pair_then : (key text rest : List ℕ) → quoted key ++ 58 ∷ (text ++ rest) ≡ (quoted key ++ 58 ∷ text) ++ rest
pair_then key text rest = sym (append_assoc (quoted key) (58 ∷ text) rest)

joined_pairs : (pairs : List (List ℕ × Json)) → EachValue IsPrinted pairs → members_text false (pairs_data pairs)
    ≡ join_with_byte 44 (map pair_text (map (with_value canonical) pairs)) ++ 125 ∷ []
joined_pairs [] h = refl
joined_pairs (pair ∷ []) h =
    ap (λ s. quoted pair.0 ++ 58 ∷ (s ++ 125 ∷ [])) h.0 ∙ pair_then pair.0 (canonical pair.1) (125 ∷ [])
joined_pairs (pair ∷ next ∷ pairs) h =
    let rest = join_with_byte 44 (map pair_text (map (with_value canonical) (next ∷ pairs))) in
    ap₂ (λ (s t : List ℕ). quoted pair.0 ++ 58 ∷ (s ++ 44 ∷ t)) h.0 (joined_pairs (next ∷ pairs) h.1)
    ∙ pair_then pair.0 (canonical pair.1) (44 ∷ (rest ++ 125 ∷ []))
    ∙ sym (append_assoc (quoted pair.0 ++ 58 ∷ canonical pair.1) (44 ∷ rest) (125 ∷ []))

truth_printed : (truth : Bool) → compact_text (boolean truth) ≡ canonical (Truth truth)
truth_printed true = search (rules, the_lemmas)
truth_printed false = search (rules, the_lemmas)

is_printed : (json : Json) → IsPrinted json
is_printed = every IsPrinted record {
  null = ap compact_text data_of-Null ∙ search (rules, the_lemmas);
  truth = λ truth. ap compact_text (data_of-Truth truth) ∙ truth_printed truth;
  whole = λ n. ap compact_text (data_of-Whole n) ∙ number_text-of_integer n ∙ search (rules, the_lemmas);
  text = λ text. ap compact_text (data_of-Text text) ∙ search (rules, the_lemmas);
  list = λ list h. ap compact_text (data_of-List list) ∙ ap (λ s. 91 ∷ s) (joined_items list.items h)
      ∙ sym (canonical-List list);
  object = λ whole h. ap compact_text (data_of-Object whole) ∙ ap (λ s. 123 ∷ s) (joined_pairs whole.pairs h)
      ∙ sym (canonical-Object whole);
}

pub print-tokens_of : (json : Json) → print (tokens_of json) ≡ canonical json
print-tokens_of json = print-outline (data_of json) ∙ is_printed json
