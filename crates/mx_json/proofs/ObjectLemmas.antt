-- An object with rising keys and valid values is valid, where no value is nested too deep.
use Rattle.std.proofs.Common.{◌≡◌, ℕ, ◌≤◌, nat_le, nat_lt, ℤ, Bool, true, ◌&&◌, List, [], ◌∷◌, map, refl, ap, ◌∙◌}
use Rattle.std.proofs.Common.{arith, rules}
use Rattle.std.proofs.lemmas.Bool.{and_from, and_parts, le-leb, leb-true, ltb-true}
use Rattle.std.specs.List.{list_all}
use Rattle.std.specs.Str.{is_utf8, IsAscii}
use Rattle.std.proofs.lemmas.Str.{is_utf8-from_IsUtf8, IsUtf8-from_ascii}
use Rattle.std.proofs.lemmas.Str.Ascii.{IsAscii-cons, IsAscii-nil}
use Rattle.mx_json.specs.declared.value.Json.{Json, Null, Truth, Whole, Text, Object, the_lemmas}
use Rattle.mx_json.specs.declared.value.JsonObject.{JsonObject}
use Rattle.mx_json.specs.Json.{are_rising, depth_of, is_canonical, is_valid, is_whole, largest}
use Rattle.mx_json.specs.Utf8.{has_utf8}
use Rattle.mx_json.proofs.JsonLemmas.{depth_of-Object, has_utf8-Object, has_utf8-Text, is_canonical-Object}
use Rattle.mx_json.proofs.JsonLemmas.{is_canonical-Whole, is_valid_from, is_valid_parts, is_valid-Text, with_value}
use Rattle.mx_json.proofs.RisingLemmas.{keys_of, keys_of-with_value}

-- the pair may stand in a valid object
abbrev pub is_fit : List ℕ × Json → Bool
is_fit pair = is_utf8 pair.0 && (is_valid pair.1 && nat_le (depth_of pair.1) 126)

is_fit_parts : (pair : List ℕ × Json) → is_fit pair ≡ true
    → (is_utf8 pair.0 ≡ true) × (is_canonical pair.1 ≡ true) × (has_utf8 pair.1 ≡ true) × (depth_of pair.1 ≤ 126)
is_fit_parts pair fit =
    let parts = and_parts (is_utf8 pair.0) (is_valid pair.1 && nat_le (depth_of pair.1) 126) fit in
    let value = and_parts (is_valid pair.1) (nat_le (depth_of pair.1) 126) parts.1 in
    let valid = is_valid_parts pair.1 value.0 in
    (parts.0, valid.0, valid.1, leb-true _ _ value.1)

values-canonical : (pairs : List (List ℕ × Json)) → list_all is_fit pairs ≡ true
    → list_all (λ pair. pair.1) (map (with_value is_canonical) pairs) ≡ true
values-canonical [] fit = refl
values-canonical (pair ∷ pairs) fit =
    let parts = and_parts (is_fit pair) (list_all is_fit pairs) fit in
    and_from _ _ (is_fit_parts pair parts.0).1 (values-canonical pairs parts.1)

pairs-utf8 : (pairs : List (List ℕ × Json)) → list_all is_fit pairs ≡ true
    → list_all (λ pair. is_utf8 pair.0 && pair.1) (map (with_value has_utf8) pairs) ≡ true
pairs-utf8 [] fit = refl
pairs-utf8 (pair ∷ pairs) fit =
    let parts = and_parts (is_fit pair) (list_all is_fit pairs) fit in
    let here = is_fit_parts pair parts.0 in
    and_from _ _ (and_from _ _ here.0 here.2) (pairs-utf8 pairs parts.1)

values-within : (pairs : List (List ℕ × Json)) → list_all is_fit pairs ≡ true
    → largest (map (λ pair. pair.1) (map (with_value depth_of) pairs)) ≤ 126
values-within [] fit = omega arith
values-within (pair ∷ pairs) fit =
    let parts = and_parts (is_fit pair) (list_all is_fit pairs) fit in
    let here = (is_fit_parts pair parts.0).3 in
    let rest = values-within pairs parts.1 in
    omega arith

pub is_valid-Object : (object : JsonObject) → are_rising (keys_of object.pairs) ≡ true
    → list_all is_fit object.pairs ≡ true
    → is_valid (Object object) ≡ true
is_valid-Object object rising fit =
    let keys = ap are_rising (keys_of-with_value is_canonical object.pairs) ∙ rising in
    let canonical = is_canonical-Object object ∙ and_from _ _ keys (values-canonical object.pairs fit) in
    let utf8 = has_utf8-Object object ∙ pairs-utf8 object.pairs fit in
    let within = values-within object.pairs fit in
    is_valid_from (Object object) canonical utf8 (omega (arith, depth_of-Object object))

-- ---- ASCII is UTF-8; of literal texts `refl` shows that they are ASCII

abbrev pub is_ascii : List ℕ → Bool
is_ascii text = list_all (λ byte. nat_lt byte 128) text

IsAscii-from : (text : List ℕ) → is_ascii text ≡ true → IsAscii text
IsAscii-from [] ascii = IsAscii-nil
IsAscii-from (byte ∷ text) ascii =
    let parts = and_parts (nat_lt byte 128) (is_ascii text) ascii in
    IsAscii-cons byte text (ltb-true _ _ parts.0) (IsAscii-from text parts.1)

pub is_utf8-ascii : (text : List ℕ) → is_ascii text ≡ true → is_utf8 text ≡ true
is_utf8-ascii text ascii = is_utf8-from_IsUtf8 text (IsUtf8-from_ascii text (IsAscii-from text ascii))

pub is_valid-ascii : (text : List ℕ) → is_ascii text ≡ true → is_valid (Text text) ≡ true
is_valid-ascii text ascii = is_valid-Text text (IsUtf8-from_ascii text (IsAscii-from text ascii))

-- ---- pairs that are fit

pub is_fit_from : (key : List ℕ) (json : Json) → is_utf8 key ≡ true → is_valid json ≡ true → depth_of json ≤ 126
    → is_fit (key, json) ≡ true
is_fit_from key json utf8 valid within = and_from _ _ utf8 (and_from _ _ valid (le-leb _ _ within))

plain : (key : List ℕ) (json : Json) → is_utf8 key ≡ true → is_canonical json ≡ true → has_utf8 json ≡ true
    → depth_of json ≡ 0 → is_fit (key, json) ≡ true
plain key json utf8 canonical texts flat =
    is_fit_from key json utf8 (is_valid_from json canonical texts (omega arith)) (omega arith)

pub is_fit-Null : (key : List ℕ) → is_utf8 key ≡ true → is_fit (key, Null) ≡ true
is_fit-Null key utf8 =
    plain key Null utf8 (search (rules, the_lemmas)) (search (rules, the_lemmas)) (search (rules, the_lemmas))

pub is_fit-Truth : (key : List ℕ) (truth : Bool) → is_utf8 key ≡ true → is_fit (key, Truth truth) ≡ true
is_fit-Truth key truth utf8 =
    plain key (Truth truth) utf8 (search (rules, the_lemmas)) (search (rules, the_lemmas)) (search (rules, the_lemmas))

pub is_fit-Whole : (key : List ℕ) (n : ℤ) → is_utf8 key ≡ true → is_whole n ≡ true → is_fit (key, Whole n) ≡ true
is_fit-Whole key n utf8 whole =
    plain key (Whole n) utf8 (is_canonical-Whole n ∙ whole) (search (rules, the_lemmas)) (search (rules, the_lemmas))

pub is_fit-Text : (key text : List ℕ) → is_utf8 key ≡ true → is_utf8 text ≡ true → is_fit (key, Text text) ≡ true
is_fit-Text key text utf8 text_utf8 =
    plain key (Text text) utf8 (search (rules, the_lemmas)) (has_utf8-Text text ∙ text_utf8)
    (search (rules, the_lemmas))
