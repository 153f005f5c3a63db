-- Reading a value whose numbers are whole, member by member.
use Rattle.std.proofs.Common.{◌≡◌, ◌⊎◌, inl, inr, ℕ, ◌≤◌, ℤ, nat_abs, pos, negsuc, w64, to_z, of_z, FitsSigned, Bool}
use Rattle.std.proofs.Common.{true, false, List, [], ◌∷◌, ◌++◌, length, append_assoc, append-nil, Some, None, Ok, Err}
use Rattle.std.proofs.Common.{String, Vec, BTreeMap, Global, string_bytes, arith, refl, rules}
use Rattle.std.proofs.lemmas.Bool.{leb-true}
use Rattle.std.proofs.lemmas.Int.{to_z-of_z}
use Rattle.std.proofs.lemmas.Option.{cond_some, option_and_then_some}
use Rattle.serde_json.specs.Data.{Num, Data, null, boolean, number, string, Items, no_items, item}
use Rattle.serde_json.specs.Find.{as_i64}
use Rattle.serde_json.specs.View.{view, items_view, members_view, number_view}
use Rattle.serde_json.specs.declared.number.Number.{Number}
use Rattle.serde_json.specs.declared.value.Value.{Value, the_lemmas}
use Rattle.serde_json.specs.declared.value.Value as value
use Rattle.serde_json.proofs.Views.{view-Array, view-Object}
use Rattle.mx_json.specs.declared.reading.JsonError.{JsonError}
use Rattle.mx_json.specs.declared.reading.JsonError.TheVariants.{NotWhole}
use Rattle.mx_json.specs.declared.value.Json.{Json, Null, Truth, Whole, Text, List as ListOf, Object}
use Rattle.mx_json.specs.Json.{is_whole}
use Rattle.mx_json.specs.Reading.{in_range, all_whole, all_whole_items, all_whole_members, items_of, json_of, pairs_of}
use Rattle.mx_json.specs.Reading.{whole_items, whole_json, whole_number_of, whole_or, whole_pairs}

-- ---- plain values

view-Null : view value.Null ≡ null
view-Null = search (rules, the_lemmas)

view-Bool : (truth : Bool) → view (value.Bool truth) ≡ boolean truth
view-Bool truth = search (rules, the_lemmas)

view-Number : (n : Number) → view (value.Number n) ≡ number (number_view n)
view-Number n = search (rules, the_lemmas)

view-String : (text : String Global) → view (value.String text) ≡ string (string_bytes text)
view-String text = search (rules, the_lemmas)

pub whole_json-Null : whole_json (view value.Null) ≡ Ok Null
unfolding whole_json
whole_json-Null = rw view-Null

pub whole_json-Bool : (truth : Bool) → whole_json (view (value.Bool truth)) ≡ Ok (Truth truth)
unfolding whole_json
whole_json-Bool truth = rw view-Bool

pub whole_json-String : (text : String Global) → whole_json (view (value.String text)) ≡ Ok (Text (string_bytes text))
unfolding whole_json
whole_json-String text = rw view-String

pub whole_json-Number : (n : Number) (z : ℤ) → whole_number_of (number_view n) ≡ Some z
    → whole_json (view (value.Number n)) ≡ Ok (Whole z)
unfolding whole_json
whole_json-Number n z is = rw (view-Number n, is)

pub whole_json-no_whole : (n : Number) → whole_number_of (number_view n) ≡ None
    → whole_json (view (value.Number n)) ≡ Err NotWhole
unfolding whole_json
whole_json-no_whole n is = rw (view-Number n, is)

-- a whole number is one of 64 bits
in_range-some : (n z : ℤ) → in_range n ≡ Some z → nat_abs z ≤ 9007199254740991
in_range-some n z is =
    let told = cond_some (is_whole n) n z is in
    let at_z : is_whole z ≡ true = rw told.1 at told.0 in
    leb-true (nat_abs z) 9007199254740991 at_z

pub whole_number_of-some : (n : Num) (z : ℤ) → whole_number_of n ≡ Some z → nat_abs z ≤ 9007199254740991
whole_number_of-some n z is = option_and_then_some in_range (as_i64 n) z is (λ x found told. in_range-some x z told)

fits_64 : (z : ℤ) → nat_abs z ≤ 9007199254740991 → FitsSigned w64 z
fits_64 (pos n) small = omega arith
fits_64 (negsuc n) small = omega arith

pub to_z-of_whole : (n : Num) (z : ℤ) → whole_number_of n ≡ Some z → to_z w64 (of_z w64 z) ≡ z
to_z-of_whole n z is = to_z-of_z w64 z (fits_64 z (whole_number_of-some n z is))

-- ---- what an answer tells

whole_or-ok : {A : Type 0} (is_whole : Bool) (value found : A) → whole_or is_whole value ≡ Ok found
    → (is_whole ≡ true) × (value ≡ found)
whole_or-ok true value found is = (refl, cc)
whole_or-ok false value found is = absurd cc

whole_or-err : {A : Type 0} (is_whole : Bool) (value : A) (error : JsonError) → whole_or is_whole value ≡ Err error
    → (is_whole ≡ false) × (error ≡ NotWhole)
whole_or-err true value error is = absurd cc
whole_or-err false value error is = (refl, cc)

pub whole_json-ok : (d : Data) (json : Json) → whole_json d ≡ Ok json → (all_whole d ≡ true) × (json_of d ≡ json)
unfolding whole_json
whole_json-ok d json is = whole_or-ok (all_whole d) (json_of d) json is

whole_json-err : (d : Data) (error : JsonError) → whole_json d ≡ Err error → (all_whole d ≡ false) × (error ≡ NotWhole)
unfolding whole_json
whole_json-err d error is = whole_or-err (all_whole d) (json_of d) error is

-- an answer that tells of a part tells of the whole
pub told_by_part : {P Q M : Type 0} → (P → Q) → P ⊎ M → Q ⊎ M
told_by_part f (inl p) = inl (f p)
told_by_part f (inr m) = inr m

-- ---- the members of a list

whole_items-item : (done : List Json) (d : Data) (json : Json) (ds : Items) → whole_json d ≡ Ok json
    → whole_items done (item d ds) ≡ whole_items (done ++ json ∷ []) ds
unfolding whole_items
whole_items-item done d json ds is =
    let told = whole_json-ok d json is in rw (told.0, told.1, append_assoc)

whole_items-no_whole : (done : List Json) (d : Data) (error : JsonError) (ds : Items) → whole_json d ≡ Err error
    → whole_items done (item d ds) ≡ Err error
unfolding whole_items
whole_items-no_whole done d error ds is =
    let told = whole_json-err d error is in rw (told.0, told.1)

whole_items-end : (done : List Json) → whole_items done no_items ≡ Ok done
unfolding whole_items
whole_items-end done = rw append-nil

pub whole_items-more : (done : List Json) (v : Value) (rest : List Value) (json : Json) → whole_json (view v) ≡ Ok json
    → whole_items done (items_view (v ∷ rest)) ≡ whole_items (done ++ json ∷ []) (items_view rest)
whole_items-more done v rest json told = whole_items-item done (view v) json (items_view rest) told

pub whole_items-stops : (done : List Json) (v : Value) (rest : List Value) (error : JsonError)
    → whole_json (view v) ≡ Err error → whole_items done (items_view (v ∷ rest)) ≡ Err error
whole_items-stops done v rest error told = whole_items-no_whole done (view v) error (items_view rest) told

pub whole_items-all : (done : List Json) (vs : List Value) → length vs ≡ 0 → whole_items done (items_view vs) ≡ Ok done
whole_items-all done [] none = whole_items-end done
whole_items-all done (v ∷ vs) none = absurd (omega (arith, none))

pub whole_json-Array : (v : Vec Value Global) (items : List Json) → whole_items [] (items_view v.items) ≡ Ok items
    → whole_json (view (value.Array v)) ≡ Ok (ListOf record { items = items })
unfolding whole_json whole_items
whole_json-Array v items is =
    let told = whole_or-ok (all_whole_items (items_view v.items)) (items_of (items_view v.items)) items is in
    rw (view-Array v, told.0, told.1)

pub whole_json-Array_stops : (v : Vec Value Global) (error : JsonError)
    → whole_items [] (items_view v.items) ≡ Err error → whole_json (view (value.Array v)) ≡ Err error
unfolding whole_json whole_items
whole_json-Array_stops v error is =
    let told = whole_or-err (all_whole_items (items_view v.items)) (items_of (items_view v.items)) error is in
    rw (view-Array v, told.0, told.1)

-- ---- the members of an object

abbrev Pair : Type 0
Pair = List ℕ × Json

pub whole_pairs-more : (done : List Pair) (entry : String Global × Value) (rest : List (String Global × Value))
    (json : Json) → whole_json (view entry.1) ≡ Ok json → whole_pairs done (members_view (entry ∷ rest))
    ≡ whole_pairs (done ++ (string_bytes entry.0, json) ∷ []) (members_view rest)
unfolding whole_pairs
whole_pairs-more done entry rest json is =
    let told = whole_json-ok (view entry.1) json is in rw (told.0, told.1, append_assoc)

pub whole_pairs-stops : (done : List Pair) (entry : String Global × Value) (rest : List (String Global × Value))
    (error : JsonError) → whole_json (view entry.1) ≡ Err error
    → whole_pairs done (members_view (entry ∷ rest)) ≡ Err error
unfolding whole_pairs
whole_pairs-stops done entry rest error is =
    let told = whole_json-err (view entry.1) error is in rw (told.0, told.1)

pub whole_pairs-all : (done : List Pair) → whole_pairs done (members_view []) ≡ Ok done
unfolding whole_pairs
whole_pairs-all done = rw append-nil

pub whole_json-Object : (m : BTreeMap (String Global) Value) (pairs : List Pair)
    → whole_pairs [] (members_view m.entries) ≡ Ok pairs
    → whole_json (view (value.Object m)) ≡ Ok (Object record { pairs = pairs })
unfolding whole_json whole_pairs
whole_json-Object m pairs is =
    let told = whole_or-ok (all_whole_members (members_view m.entries)) (pairs_of (members_view m.entries)) pairs is in
    rw (view-Object m, told.0, told.1)

pub whole_json-Object_stops : (m : BTreeMap (String Global) Value) (error : JsonError)
    → whole_pairs [] (members_view m.entries) ≡ Err error → whole_json (view (value.Object m)) ≡ Err error
unfolding whole_json whole_pairs
whole_json-Object_stops m error is =
    let told = whole_or-err (all_whole_members (members_view m.entries)) (pairs_of (members_view m.entries)) error is in
    rw (view-Object m, told.0, told.1)
