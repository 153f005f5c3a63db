-- What stands under a key of an object that has the fields that are given, and when such an object is valid.
use Rattle.std.proofs.Common.{◌≡◌, ℕ, ℤ, pos, ◌≤◌, max, Bool, true, false, cond, ◌&&◌, List, [], ◌∷◌, map, codes}
use Rattle.std.proofs.Common.{Option, Some, None, is_some, option_map, option_and_then, unwrap_or, ◌++◌, Result, Ok}
use Rattle.std.proofs.Common.{Err, IfOk, refl, ap, sym, subst, ◌∙◌, arith, rules}
use Rattle.std.proofs.lemmas.Bool.{and_from, and_parts}
use Rattle.std.proofs.lemmas.List.{append_assoc}
use Rattle.std.proofs.lemmas.List.Elements.{filter_map-append}
use Rattle.std.specs.List.{cons_option, filter_map, list_all}
use Rattle.std.specs.Option.{option_map_or, option_or}
use Rattle.std.specs.Str.{bytes_eq, is_utf8}
use Rattle.mx_json.specs.declared.value.Json.{Json, Null, Truth, Whole, Text, List as ListOf, Object, out-Json}
use Rattle.mx_json.specs.declared.value.Json.{roll-Json, roll-out-Json, the_lemmas}
use Rattle.mx_json.specs.declared.value.Json.TheOpen.{Json-F}
use Rattle.mx_json.specs.declared.value.Json.TheVariants.{rolls-Truth, rolls-Whole, rolls-Text, rolls-List}
use Rattle.mx_json.specs.declared.value.Json.TheVariants.{rolls-Object}
use Rattle.mx_json.specs.declared.value.JsonList.{JsonList}
use Rattle.mx_json.specs.declared.value.JsonObject.{JsonObject}
use Rattle.mx_json.specs.Json.{are_rising, depth_of, is_object, is_object_at_top, is_valid, largest, list_at, list_of}
use Rattle.mx_json.specs.Json.{member, member_in, text_at, text_of, text_or_empty, top_list, top_pairs, top_text}
use Rattle.mx_json.specs.Json.{top_truth, top_whole, truth_at, truth_of, whole_at, whole_of}
use Rattle.mx_json.proofs.JsonLemmas.{depth_of-Object, is_valid-member, is_valid_parts, with_value}
use Rattle.mx_json.proofs.LookLemmas.{member-Object}
use Rattle.mx_json.proofs.ObjectLemmas.{is_fit, is_fit-Null, is_fit-Text, is_fit_from, is_utf8-ascii, is_valid-Object}
use Rattle.mx_json.proofs.RisingLemmas.{keys_of}
use Rattle.mx_records.specs.Forms.{given_list, has_list_or_none, has_text_or_none, has_truth_or_none, is_null}
use Rattle.mx_records.specs.Normal.{Field, given_pair, given_pairs, list_field, list_if_given, object_of, text_field}
use Rattle.mx_records.specs.Normal.{text_if_given, truth_if_given}

-- ---- what stands under a key

-- the value of the first field of this key that is given
abbrev pub look : List ℕ → List Field → Option Json
look key [] = None
look key (field ∷ fields) =
    cond (bytes_eq field.0 key) (option_or field.1 (look key fields)) (look key fields)

either : (b : Bool) (found : Option Json) → found ≡ cond b found found
either true found = refl
either false found = refl

with_first : (key name : List ℕ) (value : Option Json) (rest : List (List ℕ × Json)) (found : Option Json)
    → member_in key rest ≡ found
    → member_in key (cons_option (given_pair (name, value)) rest)
    ≡ cond (bytes_eq name key) (option_or value found) found
with_first key name (Some value) rest found is = ap (cond (bytes_eq name key) (Some value)) is
with_first key name None rest found is = is ∙ either (bytes_eq name key) found

member_in-given : (key : List ℕ) (fields : List Field) → member_in key (given_pairs fields) ≡ look key fields
member_in-given key [] = refl
member_in-given key (field ∷ fields) =
    with_first key field.0 field.1 (given_pairs fields) (look key fields) (member_in-given key fields)

pub member-given : (key : List ℕ) (fields : List Field) → member key (object_of fields) ≡ look key fields
member-given key fields = member-Object key (record { pairs = given_pairs fields }) ∙ member_in-given key fields

pub or_none : {X : Type 0} (o : Option X) → option_or o None ≡ o
or_none None = refl
or_none (Some x) = refl

-- ---- what values are read as

pub text_of-Text : (text : List ℕ) → text_of (Text text) ≡ Some text
text_of-Text text = search (rules, the_lemmas)

pub text_of-Null : text_of Null ≡ None
text_of-Null = search (rules, the_lemmas)

pub is_null-Null : is_null Null ≡ true
is_null-Null = search (rules, the_lemmas)

pub truth_of-Truth : (truth : Bool) → truth_of (Truth truth) ≡ Some truth
truth_of-Truth truth = search (rules, the_lemmas)

pub whole_of-Whole : (number : ℤ) → whole_of (Whole number) ≡ Some number
whole_of-Whole number = search (rules, the_lemmas)

pub list_of-List : (list : JsonList) → list_of (ListOf list) ≡ Some list.items
list_of-List list = search (rules, the_lemmas)

pub pairs-Object : (object : JsonObject) → top_pairs (out-Json (Object object)) ≡ object.pairs
pairs-Object object = search (rules, the_lemmas)

pub is_object-Object : (object : JsonObject) → is_object (Object object) ≡ true
is_object-Object object = search (rules, the_lemmas)

pub is_object-Null : is_object Null ≡ false
is_object-Null = search (rules, the_lemmas)

-- ---- what is read as a text, a list .. is that

abbrev Layer : Type 0
Layer = Json-F Json JsonList JsonObject

text-layer : (layer : Layer) (text : List ℕ) → top_text layer ≡ Some text → roll-Json layer ≡ Text text
text-layer (Json-F.Text told) text is = let same : told ≡ text = cc in rolls-Text told ∙ ap Text same
text-layer other text is = absurd cc

list-layer : (layer : Layer) (items : List Json) → top_list layer ≡ Some items
    → roll-Json layer ≡ ListOf (record { items = items })
list-layer (Json-F.List list) items is =
    let same : list.items ≡ items = cc in rolls-List list ∙ ap (λ (is : List Json). ListOf (record { items = is })) same
list-layer other items is = absurd cc

truth-layer : (layer : Layer) (truth : Bool) → top_truth layer ≡ Some truth → roll-Json layer ≡ Truth truth
truth-layer (Json-F.Truth told) truth is = let same : told ≡ truth = cc in rolls-Truth told ∙ ap Truth same
truth-layer other truth is = absurd cc

whole-layer : (layer : Layer) (number : ℤ) → top_whole layer ≡ Some number → roll-Json layer ≡ Whole number
whole-layer (Json-F.Whole told) number is = let same : told ≡ number = cc in rolls-Whole told ∙ ap Whole same
whole-layer other number is = absurd cc

object-layer : (layer : Layer) → is_object_at_top layer ≡ true
    → roll-Json layer ≡ Object (record { pairs = top_pairs layer })
object-layer (Json-F.Object object) is = rolls-Object object
object-layer other is = absurd cc

-- an object is the one that has its pairs
pub object-is : (json : Json) → is_object json ≡ true → json ≡ Object (record { pairs = top_pairs (out-Json json) })
object-is json is = sym (roll-out-Json json) ∙ object-layer (out-Json json) is

pub text-member : (key : List ℕ) (json : Json) (text : List ℕ) → text_at key json ≡ Some text
    → member key json ≡ Some (Text text)
text-member key json text is = by (member key json) is
  where
    by : (found : Option Json) → option_and_then text_of found ≡ Some text → found ≡ Some (Text text)
    by None is = absurd cc
    by (Some json) is = ap (λ j. Some j) (sym (roll-out-Json json) ∙ text-layer (out-Json json) text is)

pub list-member : (key : List ℕ) (json : Json) (items : List Json) → list_at key json ≡ Some items
    → member key json ≡ Some (ListOf (record { items = items }))
list-member key json items is = by (member key json) is
  where
    by : (found : Option Json) → option_and_then list_of found ≡ Some items
        → found ≡ Some (ListOf (record { items = items }))
    by None is = absurd cc
    by (Some json) is = ap (λ j. Some j) (sym (roll-out-Json json) ∙ list-layer (out-Json json) items is)

pub truth-member : (key : List ℕ) (json : Json) (truth : Bool) → truth_at key json ≡ Some truth
    → member key json ≡ Some (Truth truth)
truth-member key json truth is = by (member key json) is
  where
    by : (found : Option Json) → option_and_then truth_of found ≡ Some truth → found ≡ Some (Truth truth)
    by None is = absurd cc
    by (Some json) is = ap (λ j. Some j) (sym (roll-out-Json json) ∙ truth-layer (out-Json json) truth is)

pub whole-member : (key : List ℕ) (json : Json) (number : ℤ) → whole_at key json ≡ Some number
    → member key json ≡ Some (Whole number)
whole-member key json number is = by (member key json) is
  where
    by : (found : Option Json) → option_and_then whole_of found ≡ Some number → found ≡ Some (Whole number)
    by None is = absurd cc
    by (Some json) is = ap (λ j. Some j) (sym (roll-out-Json json) ∙ whole-layer (out-Json json) number is)

-- ---- what is read under a key of an object that has these fields

module _ (key : List ℕ) (fields : List Field) where
  pub text-read : (text : Option (List ℕ)) → look key fields ≡ option_map Text text
      → text_at key (object_of fields) ≡ text
  text-read text is = ap (option_and_then text_of) (member-given key fields ∙ is) ∙ by text
    where
      by : (text : Option (List ℕ)) → option_and_then text_of (option_map Text text) ≡ text
      by None = refl
      by (Some text) = text_of-Text text

  pub text-or_none : (text : Option (List ℕ)) → look key fields ≡ option_map Text text
      → has_text_or_none key (object_of fields) ≡ true
  text-or_none text is =
      ap (λ found. option_map_or (λ value. is_some (text_of value)) found true) (member-given key fields ∙ is) ∙ by text
    where
      by : (text : Option (List ℕ))
          → option_map_or (λ value. is_some (text_of value)) (option_map Text text) true ≡ true
      by None = refl
      by (Some text) = ap is_some (text_of-Text text)

  pub list-read : (list : Option JsonList) → look key fields ≡ option_map ListOf list
      → given_list key (object_of fields) ≡ list
  list-read list is =
      ap (λ found. option_map (λ items. record { items = items }) (option_and_then list_of found))
      (member-given key fields ∙ is)
      ∙ by list
    where
      by : (list : Option JsonList)
          → option_map (λ items. record { items = items }) (option_and_then list_of (option_map ListOf list)) ≡ list
      by None = refl
      by (Some list) = ap (option_map (λ items. record { items = items })) (list_of-List list)

  pub list-or_none : (list : Option JsonList) → look key fields ≡ option_map ListOf list
      → has_list_or_none key (object_of fields) ≡ true
  list-or_none list is =
      ap (λ found. option_map_or (λ value. is_some (list_of value)) found true) (member-given key fields ∙ is) ∙ by list
    where
      by : (list : Option JsonList)
          → option_map_or (λ value. is_some (list_of value)) (option_map ListOf list) true ≡ true
      by None = refl
      by (Some list) = ap is_some (list_of-List list)

  pub truth-read : (truth : Option Bool) → look key fields ≡ option_map Truth truth
      → truth_at key (object_of fields) ≡ truth
  truth-read truth is = ap (option_and_then truth_of) (member-given key fields ∙ is) ∙ by truth
    where
      by : (truth : Option Bool) → option_and_then truth_of (option_map Truth truth) ≡ truth
      by None = refl
      by (Some truth) = truth_of-Truth truth

  pub truth-or_none : (truth : Option Bool) → look key fields ≡ option_map Truth truth
      → has_truth_or_none key (object_of fields) ≡ true
  truth-or_none truth is =
      ap (λ found. option_map_or (λ value. is_some (truth_of value)) found true) (member-given key fields ∙ is)
      ∙ by truth
    where
      by : (truth : Option Bool)
          → option_map_or (λ value. is_some (truth_of value)) (option_map Truth truth) true ≡ true
      by None = refl
      by (Some truth) = ap is_some (truth_of-Truth truth)

  pub list_at-read : (list : JsonList) → look key fields ≡ Some (ListOf list)
      → list_at key (object_of fields) ≡ Some list.items
  list_at-read list is = ap (option_and_then list_of) (member-given key fields ∙ is) ∙ list_of-List list

  pub whole-read : (number : ℤ) → look key fields ≡ Some (Whole number) → whole_at key (object_of fields) ≡ Some number
  whole-read number is = ap (option_and_then whole_of) (member-given key fields ∙ is) ∙ whole_of-Whole number

-- members that go on with further fields have them all
pub appended : (pairs : List (List ℕ × Json)) (first rest : List Field) (before after : List (List ℕ × Json))
    → before ≡ pairs ++ given_pairs first → after ≡ before ++ given_pairs rest
    → after ≡ pairs ++ given_pairs (first ++ rest)
appended pairs first rest before after begun more =
    more ∙ ap (λ (all : List (List ℕ × Json)). all ++ given_pairs rest) begun
    ∙ append_assoc pairs (given_pairs first) (given_pairs rest)
    ∙ ap (λ (all : List (List ℕ × Json)). pairs ++ all) (sym (filter_map-append given_pair first rest))

-- an object that goes on with further fields has them all
pub joined : {E : Type 0} (first rest : List Field) (pairs : List (List ℕ × Json)) (result : Result Json E)
    → pairs ≡ given_pairs first → IfOk result (λ json. json ≡ Object (record { pairs = pairs ++ given_pairs rest }))
    → IfOk result (λ json. json ≡ object_of (first ++ rest))
joined first rest pairs (Ok json) begun is =
    is ∙ ap (λ (all : List (List ℕ × Json)). Object (record { pairs = all ++ given_pairs rest })) begun
    ∙ ap (λ (all : List (List ℕ × Json)). Object (record { pairs = all }))
    (sym (filter_map-append given_pair first rest))
joined first rest pairs (Err error) begun is = tt

-- ---- when an object is valid

-- the field may stand in a valid object
abbrev pub fits : Field → Bool
fits field = option_map_or (λ value. is_fit (field.0, value)) field.1 true

fit-first : (name : List ℕ) (value : Option Json) (rest : List (List ℕ × Json)) → fits (name, value) ≡ true
    → list_all is_fit rest ≡ true → list_all is_fit (cons_option (given_pair (name, value)) rest) ≡ true
fit-first name None rest fit all = all
fit-first name (Some value) rest fit all = and_from _ _ fit all

fit-given : (fields : List Field) → list_all fits fields ≡ true → list_all is_fit (given_pairs fields) ≡ true
fit-given [] fit = refl
fit-given (field ∷ fields) fit =
    let parts = and_parts (fits field) (list_all fits fields) fit in
    fit-first field.0 field.1 (given_pairs fields) parts.0 (fit-given fields parts.1)

-- an object whose fields are by rising key, and fit, is valid
pub valid-object : (fields : List Field) → are_rising (keys_of (given_pairs fields)) ≡ true
    → list_all fits fields ≡ true
    → is_valid (object_of fields) ≡ true
valid-object fields rising fit = is_valid-Object (record { pairs = given_pairs fields }) rising (fit-given fields fit)

pub fits-cons : (field : Field) (fields : List Field) → fits field ≡ true → list_all fits fields ≡ true
    → list_all fits (field ∷ fields) ≡ true
fits-cons field fields fit all = and_from _ _ fit all

-- ---- what stands in a valid value may stand in another

depth-step : (key : List ℕ) (first : Json) (found : Option Json) (json : Json) (others : ℕ) (b : Bool)
    → (found ≡ Some json → depth_of json ≤ others) → cond b (Some first) found ≡ Some json
    → depth_of json ≤ max (depth_of first) others
depth-step key first found json others true rest is =
    let same : depth_of json ≡ depth_of first = cc in
    omega arith
depth-step key first found json others false rest is = let there = rest is in omega arith

depth-among : (key : List ℕ) (pairs : List (List ℕ × Json)) (json : Json) → member_in key pairs ≡ Some json
    → depth_of json ≤ largest (map (λ pair. pair.1) (map (with_value depth_of) pairs))
depth-among key [] json is = absurd cc
depth-among key (pair ∷ pairs) json is =
    depth-step key pair.1 (member_in key pairs) json
    (largest (map (λ pair. pair.1) (map (with_value depth_of) pairs))) (bytes_eq pair.0 key)
    (depth-among key pairs json) is

abbrev IsWithin : List ℕ → Layer → Json → Type 0
IsWithin key layer json = depth_of (roll-Json layer) ≤ 127 → member_in key (top_pairs layer) ≡ Some json
    → depth_of json ≤ 126

within-layer : (key : List ℕ) (layer : Layer) (json : Json) → IsWithin key layer json
within-layer key (Json-F.Object object) json = λ deep is.
    let among = depth-among key object.pairs json is in
    let whole : depth_of (Object object) ≤ 127 = subst (λ j. depth_of j ≤ 127) (rolls-Object object) deep in
    omega (arith, depth_of-Object object)
within-layer key other json = λ deep is. absurd cc

pub fit-member : (key : List ℕ) (whole json : Json) → is_utf8 key ≡ true → is_valid whole ≡ true
    → member key whole ≡ Some json → is_fit (key, json) ≡ true
fit-member key whole json utf8 valid is =
    let deep : depth_of (roll-Json (out-Json whole)) ≤ 127 =
    subst (λ j. depth_of j ≤ 127) (sym (roll-out-Json whole)) (is_valid_parts whole valid).2 in
    is_fit_from key json utf8 (is_valid-member key whole json valid is) (within-layer key (out-Json whole) json deep is)

module _ (key : List ℕ) (json : Json) (utf8 : is_utf8 key ≡ true) (valid : is_valid json ≡ true) where
  pub fits-text_if : fits (text_if_given key (text_at key json)) ≡ true
  fits-text_if = by (text_at key json) refl
    where
      by : (text : Option (List ℕ)) → text_at key json ≡ text → fits (text_if_given key text) ≡ true
      by None is = refl
      by (Some text) is = fit-member key json (Text text) utf8 valid (text-member key json text is)

  pub fits-text : fits (text_field key (text_or_empty key json)) ≡ true
  fits-text = by (text_at key json) refl
    where
      by : (text : Option (List ℕ)) → text_at key json ≡ text → fits (text_field key (unwrap_or text [])) ≡ true
      by None is = is_fit-Text key [] utf8 (is_utf8-ascii [] refl)
      by (Some text) is = fit-member key json (Text text) utf8 valid (text-member key json text is)

  pub fits-list_if : fits (list_if_given key (given_list key json)) ≡ true
  fits-list_if = by (list_at key json) refl
    where
      by : (items : Option (List Json)) → list_at key json ≡ items
          → fits (list_if_given key (option_map (λ items. record { items = items }) items)) ≡ true
      by None is = refl
      by (Some items) is =
          fit-member key json (ListOf (record { items = items })) utf8 valid (list-member key json items is)

  pub fits-truth_if : fits (truth_if_given key (truth_at key json)) ≡ true
  fits-truth_if = by (truth_at key json) refl
    where
      by : (truth : Option Bool) → truth_at key json ≡ truth → fits (truth_if_given key truth) ≡ true
      by None is = refl
      by (Some truth) is = fit-member key json (Truth truth) utf8 valid (truth-member key json truth is)

  -- a value that stands under the key, and null where there is none
  pub fits-value : fits (key, Some (unwrap_or (member key json) Null)) ≡ true
  fits-value = by (member key json) refl
    where
      by : (found : Option Json) → member key json ≡ found → fits (key, Some (unwrap_or found Null)) ≡ true
      by None is = is_fit-Null key utf8
      by (Some value) is = fit-member key json value utf8 valid is

  pub fits-list : is_some (list_at key json) ≡ true
      → fits (list_field key (unwrap_or (given_list key json) (record { items = [] }))) ≡ true
  fits-list = by (list_at key json) refl
    where
      by : (items : Option (List Json)) → list_at key json ≡ items → is_some items ≡ true
          → fits (list_field key
          (unwrap_or (option_map (λ items. record { items = items }) items) (record { items = [] }))) ≡ true
      by None is some = absurd cc
      by (Some items) is some =
          fit-member key json (ListOf (record { items = items })) utf8 valid (list-member key json items is)
