-- What a JSON value holds, how deep it is nested, and when it is valid:
-- RFC 8259, with the numbers and the order of keys of Matrix's canonical JSON.
use Rattle.std.specs.Prelude.{◌≡◌, ◌<◌, length, slice_get, option_map, ℕ, suc, max, ℤ, nat_abs, nat_le, Bool, true}
use Rattle.std.specs.Prelude.{false, ◌&&◌, if◌then◌else◌, List, [], ◌∷◌, map, Option, Some, None, option_and_then}
use Rattle.std.specs.Prelude.{unwrap_or}
use Rattle.std.specs.Cmp.Lexicographic.{slice_cmp}
use Rattle.std.specs.List.{list_all}
use Rattle.std.specs.Ordering.{is_lt, nat_cmp}
use Rattle.std.specs.Str.{bytes_eq}
use Rattle.mx_json.specs.declared.value.Json.{Json, out-Json, fold-Json}
use Rattle.mx_json.specs.declared.value.Json.TheOpen.{Json-F, JsonList-F, JsonObject-F}
use Rattle.mx_json.specs.declared.value.JsonList.{JsonList}
use Rattle.mx_json.specs.declared.value.JsonObject.{JsonObject}
use Rattle.mx_json.specs.Utf8.{has_utf8}

-- ---- what a value holds

-- the value of the first pair with this key
abbrev pub member_in : List ℕ → List (List ℕ × Json) → Option Json
member_in key [] = None
member_in key (pair ∷ pairs) = if bytes_eq pair.0 key then Some pair.1 else member_in key pairs

-- the first pair with this key stands at this place; for private clauses
abbrev pub IsMemberAt : List ℕ → List (List ℕ × Json) → ℕ → Type 0
IsMemberAt key pairs at = (at < length pairs) × (member_in key pairs ≡ option_map (λ pair. pair.1) (slice_get pairs at))

-- the pairs at the top of a value: those of an object, and none for any other
abbrev pub top_pairs : Json-F Json JsonList JsonObject → List (List ℕ × Json)
top_pairs (Json-F.Object object) = object.pairs
top_pairs other = []

-- the member of an object with this key; other values have none
abbrev pub member : List ℕ → Json → Option Json
member key json = member_in key (top_pairs (out-Json json))

-- the value of the member that stands at this place, counted from 0; a value that is no object has none
abbrev pub member_at : ℕ → Json → Option Json
member_at place json = option_map (λ pair. pair.1) (slice_get (top_pairs (out-Json json)) place)

-- what stands at the top of a value is an object
abbrev pub is_object_at_top : Json-F Json JsonList JsonObject → Bool
is_object_at_top (Json-F.Object object) = true
is_object_at_top other = false

-- the value is an object
abbrev pub is_object : Json → Bool
is_object json = is_object_at_top (out-Json json)

-- the text at the top of a value, and none for any other
abbrev pub top_text : Json-F Json JsonList JsonObject → Option (List ℕ)
top_text (Json-F.Text text) = Some text
top_text other = None

-- the truth value at the top of a value, and none for any other
abbrev pub top_truth : Json-F Json JsonList JsonObject → Option Bool
top_truth (Json-F.Truth truth) = Some truth
top_truth other = None

-- the whole number at the top of a value, and none for any other
abbrev pub top_whole : Json-F Json JsonList JsonObject → Option ℤ
top_whole (Json-F.Whole number) = Some number
top_whole other = None

-- the items of the list at the top of a value, and none for any other
abbrev pub top_list : Json-F Json JsonList JsonObject → Option (List Json)
top_list (Json-F.List list) = Some list.items
top_list other = None

-- the bytes of a text; other values have none
abbrev pub text_of : Json → Option (List ℕ)
text_of json = top_text (out-Json json)

-- the truth value that a value is; other values are none
abbrev pub truth_of : Json → Option Bool
truth_of json = top_truth (out-Json json)

-- the whole number that a value is; other values are none
abbrev pub whole_of : Json → Option ℤ
whole_of json = top_whole (out-Json json)

-- the members of a list; other values have none
abbrev pub list_of : Json → Option (List Json)
list_of json = top_list (out-Json json)

-- the bytes of the text that is the member with this key
abbrev pub text_at : List ℕ → Json → Option (List ℕ)
text_at key json = option_and_then text_of (member key json)

-- the same, and the empty text where there is none
abbrev pub text_or_empty : List ℕ → Json → List ℕ
text_or_empty key json = unwrap_or (text_at key json) []

-- the truth value that is the member with this key
abbrev pub truth_at : List ℕ → Json → Option Bool
truth_at key json = option_and_then truth_of (member key json)

-- the whole number that is the member with this key
abbrev pub whole_at : List ℕ → Json → Option ℤ
whole_at key json = option_and_then whole_of (member key json)

-- the members of the list that is the member with this key
abbrev pub list_at : List ℕ → Json → Option (List Json)
list_at key json = option_and_then list_of (member key json)

-- ---- depth

-- the largest of these numbers, and 0 where there are none
abbrev pub largest : List ℕ → ℕ
largest [] = 0
largest (n ∷ ns) = max n (largest ns)

-- a plain value has depth 0, a list or an object one more than its deepest member, and 1 where it is empty
abbrev pub value_depth : Json-F ℕ ℕ ℕ → ℕ
value_depth (Json-F.List depth) = depth
value_depth (Json-F.Object depth) = depth
value_depth plain = 0

-- how deep a list is nested whose items are nested so deep
abbrev pub list_depth : JsonList-F ℕ ℕ ℕ → ℕ
list_depth list = suc (largest list.items)

-- how deep an object is nested whose values are nested so deep
abbrev pub object_depth : JsonObject-F ℕ ℕ ℕ → ℕ
object_depth object = suc (largest (map (λ pair. pair.1) object.pairs))

-- how deep lists and objects are nested in a value
abbrev pub depth_of : Json → ℕ
depth_of = fold-Json ℕ ℕ ℕ value_depth list_depth object_depth

-- ---- validity

-- 2^53 - 1: from there down to its negative, a double holds each whole number
abbrev pub largest_whole : ℕ
largest_whole = 9007199254740991

-- a whole number is in range, from -(2^53)+1 to (2^53)-1
abbrev pub is_whole : ℤ → Bool
is_whole number = nat_le (nat_abs number) largest_whole

-- the keys rise strictly, by their bytes
abbrev pub are_rising : List (List ℕ) → Bool
are_rising [] = true
are_rising (key ∷ []) = true
are_rising (key ∷ next ∷ keys) = is_lt (slice_cmp nat_cmp key next) && are_rising (next ∷ keys)

-- a value is canonical where its whole numbers are in range and the keys of each of its objects rise strictly
abbrev pub is_canonical_value : Json-F Bool Bool Bool → Bool
is_canonical_value (Json-F.Whole number) = is_whole number
is_canonical_value (Json-F.List members_are) = members_are
is_canonical_value (Json-F.Object members_are) = members_are
is_canonical_value other = true

-- a list is canonical where each of its items is
abbrev pub is_canonical_list : JsonList-F Bool Bool Bool → Bool
is_canonical_list list = list_all (λ member_is. member_is) list.items

-- an object is canonical where its keys rise strictly and each of its values is canonical
abbrev pub is_canonical_object : JsonObject-F Bool Bool Bool → Bool
is_canonical_object object =
    are_rising (map (λ pair. pair.0) object.pairs) && list_all (λ pair. pair.1) object.pairs

-- the value is canonical, at the top and in all that it holds
abbrev pub is_canonical : Json → Bool
is_canonical = fold-Json Bool Bool Bool is_canonical_value is_canonical_list is_canonical_object

-- how deep a valid value may be nested
abbrev pub deepest_valid : ℕ
deepest_valid = 127

-- a value is valid where it is canonical, its texts are UTF-8, and it is nested at most 127 deep
abbrev pub is_valid : Json → Bool
is_valid json = is_canonical json && (has_utf8 json && nat_le (depth_of json) deepest_valid)
