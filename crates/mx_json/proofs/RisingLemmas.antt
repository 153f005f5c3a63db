-- Where the keys rise, halving finds the pair that a walk finds.
use Rattle.std.proofs.Common.{◌≡◌, ℕ, zero, suc, ◌<◌, true, false, List, [], ◌∷◌, ◌++◌, map, length, get_or, slice_get}
use Rattle.std.proofs.Common.{None, option_map, Ordering, Less, Equal, Greater, is_eq, nat_cmp, bytes_eq, Result, Ok}
use Rattle.std.proofs.Common.{Err, MatchOption, refl, sym, ap, ◌∙◌, arith, add-one, inl, inr}
use Rattle.std.proofs.lemmas.Bool.{and_parts, cases_lt}
use Rattle.std.proofs.lemmas.Cmp.{nat_list_cmp_total, alike_right}
use Rattle.std.proofs.lemmas.List.Sorted.{searchable_from_sorted}
use Rattle.std.proofs.lemmas.Map.Text.{is_eq-slice_cmp}
use Rattle.std.specs.Cmp.Lexicographic.{slice_cmp}
use Rattle.std.specs.List.{list_all}
use Rattle.std.specs.List.Sorted.{IsBinarySearchResult, IsSearchInRange, IsSortedBy, IsPartitionPoint}
use Rattle.std.specs.Ordering.{is_lt, ordering_reverse}
use Rattle.std.specs.Result.{result_ok}
use Rattle.mx_json.specs.declared.value.Json.{Json, Object}
use Rattle.mx_json.specs.declared.value.JsonObject.{JsonObject}
use Rattle.mx_json.specs.Json.{is_canonical, are_rising, member_in, IsMemberAt}
use Rattle.mx_json.proofs.JsonLemmas.{with_value, is_canonical-Object}

abbrev Pair : Type 0
Pair = List ℕ × Json

abbrev order : List ℕ → List ℕ → Ordering
order = slice_cmp nat_cmp

-- how the key of a pair stands to this key
abbrev pub order_to : List ℕ → Pair → Ordering
order_to key pair = order pair.0 key

abbrev pub keys_of : List Pair → List (List ℕ)
keys_of = map (λ pair. pair.0)

pub keys_of-with_value : {A : Type 0} (f : Json → A) (pairs : List (List ℕ × Json))
    → map (λ pair. pair.0) (map (with_value f) pairs) ≡ keys_of pairs
keys_of-with_value f [] = refl
keys_of-with_value f (pair ∷ pairs) = ap (λ keys. pair.0 ∷ keys) (keys_of-with_value f pairs)

-- an object is canonical where its keys rise and its values are canonical
pub canonical_object : (object : JsonObject) → is_canonical (Object object) ≡ true
    → (are_rising (keys_of object.pairs) ≡ true)
    × (list_all (λ pair. pair.1) (map (with_value is_canonical) object.pairs) ≡ true)
canonical_object object canonical =
    let pairs = map (with_value is_canonical) object.pairs in
    let parts = and_parts (are_rising (map (λ pair. pair.0) pairs)) (list_all (λ pair. pair.1) pairs)
    (sym (is_canonical-Object object) ∙ canonical) in
    (sym (ap are_rising (keys_of-with_value is_canonical object.pairs)) ∙ parts.0, parts.1)

less_from_is_lt : (o : Ordering) → is_lt o ≡ true → o ≡ Less
less_from_is_lt Less h = refl
less_from_is_lt Equal h = cc
less_from_is_lt Greater h = cc

pub rising_tail : (pair : Pair) (pairs : List Pair) → are_rising (keys_of (pair ∷ pairs)) ≡ true
    → are_rising (keys_of pairs) ≡ true
rising_tail pair [] rising = refl
rising_tail pair (next ∷ pairs) rising = (and_parts (is_lt (order pair.0 next.0)) _ rising).1

next_above : (pair next : Pair) (pairs : List Pair) → are_rising (keys_of (pair ∷ next ∷ pairs)) ≡ true
    → order pair.0 next.0 ≡ Less
next_above pair next pairs rising = less_from_is_lt _ (and_parts (is_lt (order pair.0 next.0)) _ rising).0

-- the first key is below each later one
below_later : (pair : Pair) (pairs : List Pair) (k : ℕ) (d : Pair) → are_rising (keys_of (pair ∷ pairs)) ≡ true
    → k < length pairs → order pair.0 (get_or pairs k d).0 ≡ Less
below_later pair [] k d rising within = absurd (omega arith)
below_later pair (next ∷ pairs) zero d rising within = next_above pair next pairs rising
below_later pair (next ∷ pairs) (suc k) d rising within =
    nat_list_cmp_total.trans pair.0 next.0 (get_or pairs k d).0 (next_above pair next pairs rising)
    (below_later next pairs k d (rising_tail pair (next ∷ pairs) rising) (omega arith))

differs : (key : List ℕ) (name : List ℕ) (o : Ordering) → order name key ≡ o → is_eq o ≡ false
    → bytes_eq name key ≡ false
differs key name o is unequal = sym (is_eq-slice_cmp name key) ∙ ap is_eq is ∙ unequal

-- the pair that halving comes to is the first with this key
member_in_at : (key : List ℕ) (pairs : List Pair) (at : ℕ) (d : Pair) → are_rising (keys_of pairs) ≡ true
    → at < length pairs → order (get_or pairs at d).0 key ≡ Equal
    → member_in key pairs ≡ option_map (λ pair. pair.1) (slice_get pairs at)
member_in_at key [] at d rising within equal = absurd (omega arith)
member_in_at key (pair ∷ pairs) zero d rising within equal =
    let same : bytes_eq pair.0 key ≡ true = sym (is_eq-slice_cmp pair.0 key) ∙ ap is_eq equal in
    rw same
member_in_at key (pair ∷ pairs) (suc at) d rising within equal =
    let less : order pair.0 key ≡ Less =
    sym (alike_right nat_list_cmp_total _ _ pair.0 equal) ∙ below_later pair pairs at d rising (omega arith) in
    let other : bytes_eq pair.0 key ≡ false = differs key pair.0 Less less refl in
    rw other (member_in_at key pairs at d (rising_tail pair pairs rising) (omega arith) equal)

-- no pair has this key
absent : (key : List ℕ) (pairs : List Pair)
    → ((k : ℕ) (d : Pair) → k < length pairs → bytes_eq (get_or pairs k d).0 key ≡ false) → member_in key pairs ≡ None
absent key [] none = refl
absent key (pair ∷ pairs) none =
    let other : bytes_eq pair.0 key ≡ false = none 0 pair (omega arith) in
    rw other (absent key pairs (λ k d within. none (suc k) d (omega arith)))

adjacent : (pairs : List Pair) (k : ℕ) (d : Pair) → are_rising (keys_of pairs) ≡ true → suc k < length pairs
    → order (get_or pairs k d).0 (get_or pairs (suc k) d).0 ≡ Less
adjacent [] k d rising within = absurd (omega arith)
adjacent (pair ∷ []) k d rising within = absurd (omega arith)
adjacent (pair ∷ next ∷ pairs) zero d rising within = next_above pair next pairs rising
adjacent (pair ∷ next ∷ pairs) (suc k) d rising within =
    adjacent (next ∷ pairs) k d (rising_tail pair (next ∷ pairs) rising) (omega arith)

in_order : (pairs : List Pair) → are_rising (keys_of pairs) ≡ true → IsSortedBy (λ a b. is_lt (order a.0 b.0)) pairs
in_order pairs rising = λ k d low within.
    rw add-one
    (ap is_lt (nat_list_cmp_total.antisymm (get_or pairs (suc k) d).0 (get_or pairs k d).0
    ∙ ap ordering_reverse (adjacent pairs k d rising (omega arith))))

apart : (key : List ℕ) (pairs : List Pair) (i : ℕ)
    → IsPartitionPoint (λ pair. order pair.0 key ≡ Less) (λ pair. order pair.0 key ≡ Greater) pairs i
    → (k : ℕ) (d : Pair) → k < length pairs → bytes_eq (get_or pairs k d).0 key ≡ false
apart key pairs i parts k d within = elim (cases_lt k i) [
  | inl before ↦ differs key (get_or pairs k d).0 Less (parts.0 k d (omega arith) before) refl
  | inr after ↦ differs key (get_or pairs k d).0 Greater (parts.1 k d after within) refl
]

pub place_from_search : (key : List ℕ) (pairs : List Pair) (d : Pair) (found : Result ℕ ℕ)
    → are_rising (keys_of pairs) ≡ true → IsSearchInRange found (length pairs)
    → IsBinarySearchResult (order_to key) pairs found
    → MatchOption (result_ok found) (member_in key pairs ≡ None) (λ at. IsMemberAt key pairs at)
place_from_search key pairs d (Ok at) rising within equal =
    (within, member_in_at key pairs at d rising within (equal d))
place_from_search key pairs d (Err i) rising within parts =
    absent key pairs (apart key pairs i
    (parts (searchable_from_sorted nat_list_cmp_total (λ pair. pair.0) pairs key (in_order pairs rising))))

first_below : (first : Pair) (done : List Pair) (pair : Pair) (more : List Pair)
    → are_rising (keys_of ((first ∷ done) ++ pair ∷ more)) ≡ true → order first.0 pair.0 ≡ Less
first_below first [] pair more rising = next_above first pair more rising
first_below first (next ∷ done) pair more rising =
    nat_list_cmp_total.trans first.0 next.0 pair.0 (next_above first next (done ++ pair ∷ more) rising)
    (first_below next done pair more (rising_tail first (next ∷ (done ++ pair ∷ more)) rising))

-- a key is above each that stands before it
pub key_above : (first : Pair) (done : List Pair) (pair : Pair) (more : List Pair)
    → are_rising (keys_of ((first ∷ done) ++ pair ∷ more)) ≡ true → order pair.0 first.0 ≡ Greater
key_above first done pair more rising =
    nat_list_cmp_total.antisymm pair.0 first.0 ∙ ap ordering_reverse (first_below first done pair more rising)
