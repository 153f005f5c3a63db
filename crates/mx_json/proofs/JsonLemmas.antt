-- The definitions over a value, level by level.
use Rattle.std.proofs.Common.{◌≡◌, ℕ, ◌≤◌, nat_le, ℤ, Bool, true, ◌&&◌, List, [], ◌∷◌, map, Some, inl, inr, refl, sym}
use Rattle.std.proofs.Common.{◌∙◌, arith, rules}
use Rattle.std.proofs.lemmas.Bool.{and_parts, and_from, cases_Bool, le-leb, leb-true}
use Rattle.std.specs.List.{list_all}
use Rattle.std.specs.Str.{bytes_eq, is_utf8, IsUtf8}
use Rattle.std.proofs.lemmas.Str.{is_utf8-from_IsUtf8}
use Rattle.mx_json.specs.declared.value.Json.{Json, Whole, Text, List as ListOf, Object, out-Json, roll-Json}
use Rattle.mx_json.specs.declared.value.Json.{roll-out-Json, the_lemmas}
use Rattle.mx_json.specs.declared.value.Json.TheOpen.{Json-F}
use Rattle.mx_json.specs.declared.value.Json.TheVariants.{rolls-Object}
use Rattle.mx_json.specs.declared.value.JsonList.{JsonList}
use Rattle.mx_json.specs.declared.value.JsonObject.{JsonObject}
use Rattle.mx_json.specs.Json.{depth_of, is_canonical, is_whole, list_depth, object_depth, is_canonical_list}
use Rattle.mx_json.specs.Json.{is_canonical_object, member, member_in, top_pairs, is_valid, largest, are_rising}
use Rattle.mx_json.specs.Utf8.{has_utf8, list_has_utf8, object_has_utf8}

-- the pair, with f at its value
abbrev pub with_value : {A B : Type 0} → (A → B) → List ℕ × A → List ℕ × B
with_value f pair = (pair.0, f pair.1)

pub depth_of-List : (list : JsonList) → depth_of (ListOf list) ≡ list_depth record { items = map depth_of list.items }
depth_of-List list = search (rules, the_lemmas)

pub depth_of-Object : (object : JsonObject)
    → depth_of (Object object) ≡ object_depth record { pairs = map (with_value depth_of) object.pairs }
depth_of-Object object = search (rules, the_lemmas)

pub is_canonical-List : (list : JsonList)
    → is_canonical (ListOf list) ≡ is_canonical_list record { items = map is_canonical list.items }
is_canonical-List list = search (rules, the_lemmas)

pub is_canonical-Object : (object : JsonObject)
    → is_canonical (Object object) ≡ is_canonical_object record { pairs = map (with_value is_canonical) object.pairs }
is_canonical-Object object = search (rules, the_lemmas)

pub is_canonical-Whole : (n : ℤ) → is_canonical (Whole n) ≡ is_whole n
is_canonical-Whole n = search (rules, the_lemmas)

pub has_utf8-Text : (text : List ℕ) → has_utf8 (Text text) ≡ is_utf8 text
has_utf8-Text text = search (rules, the_lemmas)

pub has_utf8-List : (list : JsonList)
    → has_utf8 (ListOf list) ≡ list_has_utf8 record { items = map has_utf8 list.items }
has_utf8-List list = search (rules, the_lemmas)

pub has_utf8-Object : (object : JsonObject)
    → has_utf8 (Object object) ≡ object_has_utf8 record { pairs = map (with_value has_utf8) object.pairs }
has_utf8-Object object = search (rules, the_lemmas)

-- what holds of each value holds of the value of the first pair with a key
all_of_values : (f : Json → Bool) (key : List ℕ) (pairs : List (List ℕ × Json)) (json : Json)
    → list_all (λ pair. pair.1) (map (with_value f) pairs) ≡ true → member_in key pairs ≡ Some json → f json ≡ true
all_of_values f key [] json all is = cc
all_of_values f key (pair ∷ pairs) json all is =
    let parts = and_parts (f pair.1) (list_all (λ p. p.1) (map (with_value f) pairs)) all in
    elim (cases_Bool (bytes_eq pair.0 key)) [
      | inl same ↦ let here : Some pair.1 ≡ Some json = rw same at is in cc
      | inr differs ↦ all_of_values f key pairs json parts.1 (rw differs at is)
    ]

-- no value is larger than the largest
largest_of_values : (f : Json → ℕ) (key : List ℕ) (pairs : List (List ℕ × Json)) (json : Json)
    → member_in key pairs ≡ Some json → f json ≤ largest (map (λ pair. pair.1) (map (with_value f) pairs))
largest_of_values f key [] json is = absurd cc
largest_of_values f key (pair ∷ pairs) json is =
    elim (cases_Bool (bytes_eq pair.0 key)) [
      | inl same ↦
          let here : Some pair.1 ≡ Some json = rw same at is in
          let at_json : f json ≡ f pair.1 = cc in
          omega arith
      | inr differs ↦ let rest = largest_of_values f key pairs json (rw differs at is) in omega arith
    ]

-- a value is valid where all three parts hold
pub is_valid_from : (json : Json) → is_canonical json ≡ true → has_utf8 json ≡ true → depth_of json ≤ 127
    → is_valid json ≡ true
is_valid_from json canonical utf8 within = and_from _ _ canonical (and_from _ _ utf8 (le-leb _ _ within))

pub is_valid_parts : (json : Json) → is_valid json ≡ true
    → (is_canonical json ≡ true) × (has_utf8 json ≡ true) × (depth_of json ≤ 127)
is_valid_parts json valid =
    let parts = and_parts (is_canonical json) (has_utf8 json && nat_le (depth_of json) 127) valid in
    let rest = and_parts (has_utf8 json) (nat_le (depth_of json) 127) parts.1 in
    (parts.0, rest.0, leb-true _ _ rest.1)

-- the value of the first pair with a key is UTF-8 where the pairs are
utf8_of_pairs : (key : List ℕ) (pairs : List (List ℕ × Json)) (json : Json)
    → list_all (λ pair. is_utf8 pair.0 && pair.1) (map (with_value has_utf8) pairs) ≡ true
    → member_in key pairs ≡ Some json → has_utf8 json ≡ true
utf8_of_pairs key [] json all is = cc
utf8_of_pairs key (pair ∷ pairs) json all is =
    let parts = and_parts (is_utf8 pair.0 && has_utf8 pair.1)
    (list_all (λ p. is_utf8 p.0 && p.1) (map (with_value has_utf8) pairs)) all in
    let here = and_parts (is_utf8 pair.0) (has_utf8 pair.1) parts.0 in
    elim (cases_Bool (bytes_eq pair.0 key)) [
      | inl same ↦
          let found : Some pair.1 ≡ Some json = rw same at is in
          let at_json : has_utf8 json ≡ has_utf8 pair.1 = cc in
          at_json ∙ here.1
      | inr differs ↦ utf8_of_pairs key pairs json parts.1 (rw differs at is)
    ]

-- the members of a valid object are valid
pub is_valid-member_in : (key : List ℕ) (object : JsonObject) (json : Json) → is_valid (Object object) ≡ true
    → member_in key object.pairs ≡ Some json → is_valid json ≡ true
is_valid-member_in key object json valid is =
    let parts = is_valid_parts (Object object) valid in
    let canonical = rw is_canonical-Object at parts.0 in
    let utf8 = sym (has_utf8-Object object) ∙ parts.1 in
    let each = and_parts (are_rising (map (λ pair. pair.0) (map (with_value is_canonical) object.pairs)))
    (list_all (λ pair. pair.1) (map (with_value is_canonical) object.pairs)) canonical in
    let largest_is = largest_of_values depth_of key object.pairs json is in
    is_valid_from json (all_of_values is_canonical key object.pairs json each.1 is)
    (utf8_of_pairs key object.pairs json utf8 is) (omega (arith, parts.2, depth_of-Object object))

abbrev layers_valid : List ℕ → Json-F Json JsonList JsonObject → Json → Type 0
layers_valid key layer json =
    is_valid (roll-Json layer) ≡ true → member_in key (top_pairs layer) ≡ Some json → is_valid json ≡ true

layers-valid : (key : List ℕ) (layer : Json-F Json JsonList JsonObject) (json : Json) → layers_valid key layer json
layers-valid key (Json-F.Object object) json =
    λ valid is. is_valid-member_in key object json (rw rolls-Object at valid) is
layers-valid key other json = λ valid is. absurd cc

pub is_valid-member : (key : List ℕ) (whole json : Json) → is_valid whole ≡ true → member key whole ≡ Some json
    → is_valid json ≡ true
is_valid-member key whole json valid is =
    layers-valid key (out-Json whole) json (rw (roll-out-Json whole) valid) is

-- the items of a valid list are valid
each-valid : (items : List Json) → list_all (λ item_is. item_is) (map is_canonical items) ≡ true
    → list_all (λ item_has. item_has) (map has_utf8 items) ≡ true → largest (map depth_of items) ≤ 127
    → list_all is_valid items ≡ true
each-valid [] canonical utf8 within = refl
each-valid (item ∷ items) canonical utf8 within =
    let canonicals = and_parts (is_canonical item) (list_all (λ item_is. item_is) (map is_canonical items)) canonical in
    let utf8s = and_parts (has_utf8 item) (list_all (λ item_has. item_has) (map has_utf8 items)) utf8 in
    and_from (is_valid item) (list_all is_valid items) (is_valid_from item canonicals.0 utf8s.0 (omega arith))
    (each-valid items canonicals.1 utf8s.1 (omega arith))

pub is_valid-items : (list : JsonList) → is_valid (ListOf list) ≡ true → list_all is_valid list.items ≡ true
is_valid-items list valid =
    let parts = is_valid_parts (ListOf list) valid in
    let canonical = rw is_canonical-List at parts.0 in
    let utf8 = sym (has_utf8-List list) ∙ parts.1 in
    each-valid list.items canonical utf8 (omega (arith, parts.2, depth_of-List list))

-- the values of a valid object are valid
each-value-valid : (pairs : List (List ℕ × Json))
    → list_all (λ pair. pair.1) (map (with_value is_canonical) pairs) ≡ true
    → list_all (λ pair. is_utf8 pair.0 && pair.1) (map (with_value has_utf8) pairs) ≡ true
    → largest (map (λ pair. pair.1) (map (with_value depth_of) pairs)) ≤ 127
    → list_all (λ pair. is_valid pair.1) pairs ≡ true
each-value-valid [] canonical utf8 within = refl
each-value-valid (pair ∷ pairs) canonical utf8 within =
    let canonicals =
    and_parts (is_canonical pair.1) (list_all (λ p. p.1) (map (with_value is_canonical) pairs)) canonical in
    let utf8s = and_parts (is_utf8 pair.0 && has_utf8 pair.1)
    (list_all (λ p. is_utf8 p.0 && p.1) (map (with_value has_utf8) pairs)) utf8 in
    let here = and_parts (is_utf8 pair.0) (has_utf8 pair.1) utf8s.0 in
    and_from (is_valid pair.1) (list_all (λ p. is_valid p.1) pairs)
    (is_valid_from pair.1 canonicals.0 here.1 (omega arith))
    (each-value-valid pairs canonicals.1 utf8s.1 (omega arith))

pub is_valid-values : (object : JsonObject) → is_valid (Object object) ≡ true
    → list_all (λ pair. is_valid pair.1) object.pairs ≡ true
is_valid-values object valid =
    let parts = is_valid_parts (Object object) valid in
    let canonical = rw is_canonical-Object at parts.0 in
    let utf8 = sym (has_utf8-Object object) ∙ parts.1 in
    let each = and_parts (are_rising (map (λ pair. pair.0) (map (with_value is_canonical) object.pairs)))
    (list_all (λ pair. pair.1) (map (with_value is_canonical) object.pairs)) canonical in
    each-value-valid object.pairs each.1 utf8 (omega (arith, parts.2, depth_of-Object object))

-- a text is valid where it is UTF-8
is_canonical-Text : (text : List ℕ) → is_canonical (Text text) ≡ true
is_canonical-Text text = search (rules, the_lemmas)

depth_of-Text : (text : List ℕ) → depth_of (Text text) ≡ 0
depth_of-Text text = search (rules, the_lemmas)

pub is_valid-Text : (text : List ℕ) → IsUtf8 text → is_valid (Text text) ≡ true
is_valid-Text text utf8 = is_valid_from (Text text) (is_canonical-Text text)
    (has_utf8-Text text ∙ is_utf8-from_IsUtf8 text utf8) (omega (arith, depth_of-Text text))
