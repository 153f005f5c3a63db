-- A canonical text is read as the value that it was written for.
use Rattle.std.proofs.Common.{◌≡◌, ℕ, suc, ◌<◌, ◌≤◌, ◌^◌, max, ℤ, pos, negsuc, nat_le, true, List, [], ◌∷◌, ◌++◌, map}
use Rattle.std.proofs.Common.{Some, is_some, option_map, option_and_then, unwrap_or, Ok, IsUtf8, refl, sym, ap, ap₂}
use Rattle.std.proofs.Common.{subst, ◌∙◌, append_assoc, append-nil, arith, rules, lt-ltb, le-leb, leb-true}
use Rattle.std.proofs.lemmas.Bool.{and_parts, and_from}
use Rattle.std.proofs.lemmas.Str.{is_utf8-from_IsUtf8}
use Rattle.std.specs.List.{list_all}
use Rattle.json.specs.Lex.{tokens}
use Rattle.json.specs.Json as json
use Rattle.json.specs.Tree as tree
use Rattle.json.proofs.Printed.Trees.{value-json_tokens}
use Rattle.serde_json.specs.Data.{Data, null, boolean, number, string, array, object, Items, no_items, item, Members}
use Rattle.serde_json.specs.Data.{no_members, member, put, depth, items_depth, members_depth}
use Rattle.serde_json.specs.Find.{of_integer}
use Rattle.serde_json.specs.Read.{read, of_json, of_items, of_members}
use Rattle.serde_json.specs.Written.{outline, items_outline, members_outline}
use Rattle.serde_json.proofs.Numbers.{number_of-decimal, number_of-negative}
use Rattle.mx_json.specs.declared.value.Json.{Json, Whole, List as ListOf, Object, the_lemmas}
use Rattle.mx_json.specs.Json.{depth_of, largest, is_whole, largest_whole, is_canonical, is_valid, are_rising}
use Rattle.mx_json.specs.Reading.{whole_number_of, all_whole, all_whole_items, all_whole_members, json_of, items_of}
use Rattle.mx_json.specs.Reading.{pairs_of, reading, whole_json, json_within, read_json}
use Rattle.mx_json.specs.Tokens.{data_of, items_data, pairs_data, tokens_of}
use Rattle.mx_json.proofs.DataLemmas.{data_of-Null, data_of-Truth, data_of-Whole, data_of-Text, data_of-List}
use Rattle.mx_json.proofs.DataLemmas.{data_of-Object}
use Rattle.mx_json.proofs.Induction.{Each, EachValue, every}
use Rattle.mx_json.proofs.JsonLemmas.{with_value, depth_of-List, depth_of-Object, is_canonical-List, is_canonical-Whole}
use Rattle.mx_json.proofs.JsonLemmas.{is_valid_parts}
use Rattle.mx_json.proofs.RisingLemmas.{keys_of, canonical_object, rising_tail, key_above}

abbrev Pair : Type 0
Pair = List ℕ × Json

-- ---- whole numbers

pub largest_from_is_whole : (n : ℕ) → nat_le n largest_whole ≡ true → n ≤ 9007199254740991
largest_from_is_whole n h = leb-true n 9007199254740991 h

whole_read : (n : ℤ) → is_whole n ≡ true → of_json (outline (number (of_integer n))) ≡ Some (number (of_integer n))
whole_read (pos n) h = ap (option_map number) (number_of-decimal n (omega (arith, largest_from_is_whole n h)))
whole_read (negsuc n) h = ap (option_map number) (number_of-negative n (omega (arith, largest_from_is_whole (suc n) h)))

whole_number_of-of_integer : (n : ℤ) → is_whole n ≡ true → whole_number_of (of_integer n) ≡ Some n
whole_number_of-of_integer (pos n) h =
    let fits : n < 2 ^ 63 = omega (arith, largest_from_is_whole n h) in
    rw (lt-ltb _ _ fits, h)
whole_number_of-of_integer (negsuc n) h = rw h

-- ---- the tokens are read as the data

abbrev IsRead : Json → Type 0
IsRead v = is_canonical v ≡ true → of_json (outline (data_of v)) ≡ Some (data_of v)

abbrev IsReadData : Data → Type 0
IsReadData d = of_json (outline d) ≡ Some d

items_read : (items : List Json) → Each IsRead items → list_all (λ member_is. member_is) (map is_canonical items) ≡ true
    → of_items (items_outline (items_data items)) ≡ Some (items_data items)
items_read [] h all = refl
items_read (v ∷ items) h all =
    let parts = and_parts (is_canonical v) (list_all (λ member_is. member_is) (map is_canonical items)) all in
    let rest = of_items (items_outline (items_data items)) in
    ap (option_and_then (λ d. option_map (item d) rest)) (h.0 parts.0)
    ∙ ap (option_map (item (data_of v))) (items_read items h.1 parts.1)

-- a key that is above those before it goes last
put_last : (done : List Pair) (pair : Pair) (more : List Pair) → are_rising (keys_of (done ++ pair ∷ more)) ≡ true
    → put pair.0 (data_of pair.1) (pairs_data done) ≡ pairs_data (done ++ pair ∷ [])
put_last [] pair more rising = refl
put_last (first ∷ done) pair more rising =
    rw (key_above first done pair more rising)
    (ap (member first.0 (data_of first.1)) (put_last done pair more (rising_tail first (done ++ pair ∷ more) rising)))

pairs_read : (done pairs : List Pair) → EachValue IsRead pairs
    → list_all (λ pair. pair.1) (map (with_value is_canonical) pairs) ≡ true
    → are_rising (keys_of (done ++ pairs)) ≡ true
    → of_members (members_outline (pairs_data pairs)) (pairs_data done) ≡ Some (pairs_data (done ++ pairs))
pairs_read done [] h all rising = ap (λ ps. Some (pairs_data ps)) (sym (append-nil done))
pairs_read done (pair ∷ pairs) h all rising =
    let parts = and_parts (is_canonical pair.1) (list_all (λ p. p.1) (map (with_value is_canonical) pairs)) all in
    let rest = members_outline (pairs_data pairs) in
    let grouped = append_assoc done (pair ∷ []) pairs in
    ap (option_and_then (λ d. of_members rest (put pair.0 d (pairs_data done)))) (h.0 parts.0)
    ∙ ap (of_members rest) (put_last done pair pairs rising)
    ∙ pairs_read (done ++ pair ∷ []) pairs h.1 parts.1 (ap (λ ps. are_rising (keys_of ps)) grouped ∙ rising)
    ∙ ap (λ ps. Some (pairs_data ps)) grouped

is_read : (v : Json) → IsRead v
is_read = every IsRead record {
  null = λ canonical. subst IsReadData (sym data_of-Null) refl;
  truth = λ truth canonical. subst IsReadData (sym (data_of-Truth truth)) refl;
  whole =
      λ n canonical. subst IsReadData (sym (data_of-Whole n)) (whole_read n (sym (is_canonical-Whole n) ∙ canonical));
  text = λ text canonical. subst IsReadData (sym (data_of-Text text)) refl;
  list = λ list h canonical. subst IsReadData (sym (data_of-List list))
      (ap (option_map array) (items_read list.items h (sym (is_canonical-List list) ∙ canonical)));
  object = λ whole h canonical.
      let parts = canonical_object whole canonical in
      subst IsReadData (sym (data_of-Object whole))
      (ap (option_map object) (pairs_read [] whole.pairs h parts.1 parts.0));
}

-- ---- the data are the value

abbrev IsBack : Json → Type 0
IsBack v = is_canonical v ≡ true → json_of (data_of v) ≡ v

items_back : (items : List Json) → Each IsBack items → list_all (λ member_is. member_is) (map is_canonical items) ≡ true
    → items_of (items_data items) ≡ items
items_back [] h all = refl
items_back (v ∷ items) h all =
    let parts = and_parts (is_canonical v) (list_all (λ member_is. member_is) (map is_canonical items)) all in
    ap₂ (λ (x : Json) (xs : List Json). x ∷ xs) (h.0 parts.0) (items_back items h.1 parts.1)

pairs_back : (pairs : List Pair) → EachValue IsBack pairs
    → list_all (λ pair. pair.1) (map (with_value is_canonical) pairs) ≡ true → pairs_of (pairs_data pairs) ≡ pairs
pairs_back [] h all = refl
pairs_back (pair ∷ pairs) h all =
    let parts = and_parts (is_canonical pair.1) (list_all (λ p. p.1) (map (with_value is_canonical) pairs)) all in
    ap₂ (λ (x : Json) (xs : List Pair). (pair.0, x) ∷ xs) (h.0 parts.0) (pairs_back pairs h.1 parts.1)

is_back : (v : Json) → IsBack v
is_back = every IsBack record {
  null = λ canonical. ap json_of data_of-Null;
  truth = λ truth canonical. ap json_of (data_of-Truth truth);
  whole = λ n canonical. ap json_of (data_of-Whole n)
      ∙ ap (λ o. Whole (unwrap_or o (pos 0))) (whole_number_of-of_integer n (sym (is_canonical-Whole n) ∙ canonical));
  text = λ text canonical. ap json_of (data_of-Text text);
  list = λ list h canonical. ap json_of (data_of-List list) ∙ ap (λ items. ListOf record { items = items })
      (items_back list.items h (sym (is_canonical-List list) ∙ canonical));
  object = λ whole h canonical. ap json_of (data_of-Object whole)
      ∙ ap (λ pairs. Object record { pairs = pairs }) (pairs_back whole.pairs h (canonical_object whole canonical).1);
}

abbrev HasWhole : Json → Type 0
HasWhole v = is_canonical v ≡ true → all_whole (data_of v) ≡ true

items_whole : (items : List Json) → Each HasWhole items
    → list_all (λ member_is. member_is) (map is_canonical items) ≡ true → all_whole_items (items_data items) ≡ true
items_whole [] h all = refl
items_whole (v ∷ items) h all =
    let parts = and_parts (is_canonical v) (list_all (λ member_is. member_is) (map is_canonical items)) all in
    and_from _ _ (h.0 parts.0) (items_whole items h.1 parts.1)

pairs_whole : (pairs : List Pair) → EachValue HasWhole pairs
    → list_all (λ pair. pair.1) (map (with_value is_canonical) pairs) ≡ true
    → all_whole_members (pairs_data pairs) ≡ true
pairs_whole [] h all = refl
pairs_whole (pair ∷ pairs) h all =
    let parts = and_parts (is_canonical pair.1) (list_all (λ p. p.1) (map (with_value is_canonical) pairs)) all in
    and_from _ _ (h.0 parts.0) (pairs_whole pairs h.1 parts.1)

has_whole : (v : Json) → HasWhole v
has_whole = every HasWhole record {
  null = λ canonical. ap all_whole data_of-Null;
  truth = λ truth canonical. ap all_whole (data_of-Truth truth);
  whole = λ n canonical. ap all_whole (data_of-Whole n)
      ∙ ap is_some (whole_number_of-of_integer n (sym (is_canonical-Whole n) ∙ canonical));
  text = λ text canonical. ap all_whole (data_of-Text text);
  list = λ list h canonical. ap all_whole (data_of-List list)
      ∙ items_whole list.items h (sym (is_canonical-List list) ∙ canonical);
  object = λ whole h canonical. ap all_whole (data_of-Object whole)
      ∙ pairs_whole whole.pairs h (canonical_object whole canonical).1;
}

-- ---- depths

abbrev IsAsDeep : Json → Type 0
IsAsDeep v = depth (data_of v) ≡ depth_of v

items_deep : (items : List Json) → Each IsAsDeep items → items_depth (items_data items) ≡ largest (map depth_of items)
items_deep [] h = refl
items_deep (v ∷ items) h = ap₂ (λ m n. max m n) h.0 (items_deep items h.1)

pairs_deep : (pairs : List Pair) → EachValue IsAsDeep pairs
    → members_depth (pairs_data pairs) ≡ largest (map (λ pair. pair.1) (map (with_value depth_of) pairs))
pairs_deep [] h = refl
pairs_deep (pair ∷ pairs) h = ap₂ (λ m n. max m n) h.0 (pairs_deep pairs h.1)

is_as_deep : (v : Json) → IsAsDeep v
is_as_deep = every IsAsDeep record {
  null = ap depth data_of-Null ∙ search (rules, the_lemmas);
  truth = λ truth. ap depth (data_of-Truth truth) ∙ search (rules, the_lemmas);
  whole = λ n. ap depth (data_of-Whole n) ∙ search (rules, the_lemmas);
  text = λ text. ap depth (data_of-Text text) ∙ search (rules, the_lemmas);
  list = λ list h. ap depth (data_of-List list) ∙ ap suc (items_deep list.items h) ∙ sym (depth_of-List list);
  object = λ whole h. ap depth (data_of-Object whole) ∙ ap suc (pairs_deep whole.pairs h) ∙ sym (depth_of-Object whole);
}

mutual
  depth-outline : (d : Data) → tree.depth (outline d) ≡ depth d
  depth-outline null = refl
  depth-outline (boolean truth) = refl
  depth-outline (number n) = refl
  depth-outline (string text) = refl
  depth-outline (array items) = ap suc (items_depth-outline items)
  depth-outline (object members) = ap suc (members_depth-outline members)

  items_depth-outline : (items : Items) → tree.items_depth (items_outline items) ≡ items_depth items
  items_depth-outline no_items = refl
  items_depth-outline (item d items) = ap₂ (λ m n. max m n) (depth-outline d) (items_depth-outline items)

  members_depth-outline : (members : Members) → tree.members_depth (members_outline members) ≡ members_depth members
  members_depth-outline no_members = refl
  members_depth-outline (member key d members) = ap₂ (λ m n. max m n) (depth-outline d) (members_depth-outline members)

-- ---- the whole text

read_as : (v : Json) (text : List ℕ) → is_valid v ≡ true → tokens text ≡ tokens_of v → read text ≡ Some (data_of v)
read_as v text valid same =
    let parts = is_valid_parts v valid in
    let j = outline (data_of v) in
    ap (λ o. option_and_then of_json (option_and_then (λ p. json.if_last p.0 p.1) o))
    (ap (json.value 127) (same ∙ sym (append-nil (tokens_of v)))
    ∙ value-json_tokens j 127 [] (omega (arith, parts.2, is_as_deep v, depth-outline (data_of v))))
    ∙ is_read v parts.0

-- a text of the value's tokens is read as the value
pub read_json-tokens : (v : Json) (text : List ℕ) (deepest : ℕ) → is_valid v ≡ true → depth_of v ≤ deepest → IsUtf8 text
    → tokens text ≡ tokens_of v → read_json text deepest ≡ Ok v
unfolding read_json reading json_within whole_json
read_json-tokens v text deepest valid within utf8 same =
    let canonical = (is_valid_parts v valid).0 in
    let as_deep : depth (data_of v) ≤ deepest = omega (arith, is_as_deep v) in
    rw (is_utf8-from_IsUtf8 text utf8, read_as v text valid same, le-leb _ _ as_deep, has_whole v canonical)
    (ap Ok (is_back v canonical))
