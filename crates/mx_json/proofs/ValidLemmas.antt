-- What is read is valid: the keys of each object rise, since `put` keeps them in order.
use Rattle.std.proofs.Common.{◌≡◌, ◌≤◌, ℕ, suc, true, List, [], ◌∷◌, map, Option, Some, None, is_some, unwrap_or, ℤ}
use Rattle.std.proofs.Common.{pos, option_map, option_and_then, Ordering, Less, Equal, Greater, refl, ap, ◌∙◌, subst}
use Rattle.std.proofs.Common.{arith, rules}
use Rattle.std.specs.Prelude.{⊤}
use Rattle.std.proofs.lemmas.Bool.{and_from, and_parts, le-leb}
use Rattle.std.proofs.lemmas.Cmp.{nat_list_cmp_total}
use Rattle.std.specs.Cmp.Lexicographic.{slice_cmp}
use Rattle.std.specs.List.{list_all}
use Rattle.std.specs.Ordering.{is_lt, match_ordering, nat_cmp}
use Rattle.json.specs.Json as json
use Rattle.json.specs.Lex.{tokens}
use Rattle.serde_json.specs.Data.{Num, Data, null, boolean, number, string, array, object, Items, no_items, item}
use Rattle.serde_json.specs.Data.{Members, no_members, member, put, depth, items_depth, members_depth}
use Rattle.serde_json.specs.Read.{max_depth, number_of, of_items, of_json, of_members, read}
use Rattle.mx_json.specs.declared.value.Json.{Whole, the_lemmas}
use Rattle.mx_json.specs.Json.{are_rising, depth_of, is_canonical, is_valid, largest}
use Rattle.mx_json.specs.Reading.{all_whole, all_whole_items, all_whole_members, items_of, json_of, pairs_of}
use Rattle.mx_json.specs.Reading.{whole_number_of}
use Rattle.mx_json.specs.Utf8.{has_utf8}
use Rattle.mx_json.proofs.WholeLemmas.{whole_number_of-some}
use Rattle.mx_json.proofs.JsonLemmas.{depth_of-List, depth_of-Object, is_canonical-List, is_canonical-Object}
use Rattle.mx_json.proofs.JsonLemmas.{is_canonical-Whole, is_valid_from, with_value}

-- ---- the keys of an object that was read

abbrev member_keys : Members → List (List ℕ)
member_keys no_members = []
member_keys (member key d ms) = key ∷ member_keys ms

-- the keys of each object in the value rise
abbrev mutual
  Rises : Data → Type 0
  Rises null = ⊤
  Rises (boolean truth) = ⊤
  Rises (number n) = ⊤
  Rises (string bytes) = ⊤
  Rises (array ds) = RiseItems ds
  Rises (object ms) = (are_rising (member_keys ms) ≡ true) × RiseMembers ms

  RiseItems : Items → Type 0
  RiseItems no_items = ⊤
  RiseItems (item d ds) = Rises d × RiseItems ds

  RiseMembers : Members → Type 0
  RiseMembers no_members = ⊤
  RiseMembers (member key d ms) = Rises d × RiseMembers ms

-- a key that is above another is the other way round below it
below : (k l : List ℕ) → slice_cmp nat_cmp k l ≡ Greater → is_lt (slice_cmp nat_cmp l k) ≡ true
below k l above = rw (nat_list_cmp_total.antisymm l k, above)

lt_from : (k l : List ℕ) → slice_cmp nat_cmp k l ≡ Less → is_lt (slice_cmp nat_cmp k l) ≡ true
lt_from k l is = rw is

-- a member put behind a smaller key stays behind it
abbrev RisesAfter : List ℕ → Members → Type 0
RisesAfter key ms = are_rising (key ∷ member_keys ms) ≡ true

put_after_at : (o : Ordering) (first k l : List ℕ) (d e : Data) (ms : Members) → slice_cmp nat_cmp k l ≡ o
    → RisesAfter first (member l e ms) → is_lt (slice_cmp nat_cmp first k) ≡ true
    → (is_lt (slice_cmp nat_cmp l k) ≡ true → RisesAfter l (put k d ms))
    → RisesAfter first (match_ordering o (member k d (member l e ms)) (member l d ms) (member l e (put k d ms)))
put_after_at Less first k l d e ms is rises lower later =
    let parts = and_parts (is_lt (slice_cmp nat_cmp first l)) _ rises in
    and_from _ _ lower (and_from _ _ (lt_from k l is) parts.1)
put_after_at Equal first k l d e ms is rises lower later = rises
put_after_at Greater first k l d e ms is rises lower later =
    let parts = and_parts (is_lt (slice_cmp nat_cmp first l)) _ rises in
    and_from _ _ parts.0 (later (below k l is))

put_after : (first k : List ℕ) (d : Data) (ms : Members) → RisesAfter first ms
    → is_lt (slice_cmp nat_cmp first k) ≡ true → RisesAfter first (put k d ms)
put_after first k d no_members rises lower = and_from _ _ lower refl
put_after first k d (member l e ms) rises lower =
    let parts = and_parts (is_lt (slice_cmp nat_cmp first l)) (are_rising (l ∷ member_keys ms)) rises in
    put_after_at (slice_cmp nat_cmp k l) first k l d e ms refl rises lower (put_after l k d ms parts.1)

-- `put` keeps the keys in order
keys_rise_at : (o : Ordering) (k l : List ℕ) (d e : Data) (ms : Members) → slice_cmp nat_cmp k l ≡ o
    → are_rising (member_keys (member l e ms)) ≡ true
    → are_rising (member_keys (match_ordering o (member k d (member l e ms)) (member l d ms) (member l e (put k d ms))))
    ≡ true
keys_rise_at Less k l d e ms is rises = and_from _ _ (lt_from k l is) rises
keys_rise_at Equal k l d e ms is rises = rises
keys_rise_at Greater k l d e ms is rises = put_after l k d ms rises (below k l is)

keys_rise-put : (k : List ℕ) (d : Data) (ms : Members) → are_rising (member_keys ms) ≡ true
    → are_rising (member_keys (put k d ms)) ≡ true
keys_rise-put k d no_members rises = refl
keys_rise-put k d (member l e ms) rises = keys_rise_at (slice_cmp nat_cmp k l) k l d e ms refl rises

members_rise_at : (o : Ordering) (a b c : Members) → RiseMembers a → RiseMembers b → RiseMembers c
    → RiseMembers (match_ordering o a b c)
members_rise_at Less a b c x y z = x
members_rise_at Equal a b c x y z = y
members_rise_at Greater a b c x y z = z

members_rise-put : (k : List ℕ) (d : Data) (ms : Members) → Rises d → RiseMembers ms → RiseMembers (put k d ms)
members_rise-put k d no_members rises each = (rises, tt)
members_rise-put k d (member l e ms) rises each =
    members_rise_at (slice_cmp nat_cmp k l) (member k d (member l e ms)) (member l d ms) (member l e (put k d ms))
    (rises, each) (rises, each.1) (each.0, members_rise-put k d ms rises each.1)

-- what was read, if it was, has the property
abbrev IfRead : {A : Type 0} → (A → Type 0) → Option A → Type 0
IfRead P None = ⊤
IfRead P (Some a) = P a

IfRead-map : {A B : Type 0} (P : A → Type 0) (Q : B → Type 0) (h : A → B) → ((a : A) → P a → Q (h a)) → (o : Option A)
    → IfRead P o → IfRead Q (option_map h o)
IfRead-map P Q h k None x = tt
IfRead-map P Q h k (Some a) x = k a x

IfRead-and_then : {A B : Type 0} (P : A → Type 0) (Q : B → Type 0) (h : A → Option B) → ((a : A) → P a → IfRead Q (h a))
    → (o : Option A) → IfRead P o → IfRead Q (option_and_then h o)
IfRead-and_then P Q h k None x = tt
IfRead-and_then P Q h k (Some a) x = k a x

always : {A : Type 0} (o : Option A) → IfRead (λ _. ⊤) o
always None = tt
always (Some a) = tt

abbrev HasRisingKeys : Members → Type 0
HasRisingKeys ms = (are_rising (member_keys ms) ≡ true) × RiseMembers ms

mutual
  Rises-of_json : (j : json.Json) → IfRead Rises (of_json j)
  Rises-of_json json.null = tt
  Rises-of_json (json.boolean b) = tt
  Rises-of_json (json.number s) = IfRead-map (λ _. ⊤) Rises number (λ a x. tt) (number_of s) (always (number_of s))
  Rises-of_json (json.string s) = tt
  Rises-of_json (json.array js) = IfRead-map RiseItems Rises array (λ a x. x) (of_items js) (Rises-of_items js)
  Rises-of_json (json.object ms) = IfRead-map HasRisingKeys Rises object (λ a x. x) (of_members ms no_members)
      (Rises-of_members ms no_members (refl, tt))

  Rises-of_items : (js : json.Items) → IfRead RiseItems (of_items js)
  Rises-of_items json.no_items = tt
  Rises-of_items (json.item j js) =
      IfRead-and_then Rises RiseItems _ (λ d x. IfRead-map RiseItems RiseItems (item d) (λ ds y. (x, y)) (of_items js)
      (Rises-of_items js)) (of_json j) (Rises-of_json j)

  Rises-of_members : (ms : json.Members) (found : Members) → HasRisingKeys found
      → IfRead HasRisingKeys (of_members ms found)
  Rises-of_members json.no_members found rises = rises
  Rises-of_members (json.member name j ms) found rises =
      IfRead-and_then Rises HasRisingKeys _ (λ d x. Rises-of_members ms (put name d found) (
        keys_rise-put name d found rises.0,
        members_rise-put name d found x rises.1,
      )) (of_json j) (Rises-of_json j)

-- the keys of what was read rise
pub Rises-read : (bytes : List ℕ) (d : Data) → read bytes ≡ Some d → Rises d
Rises-read bytes d is =
    let parsed = option_and_then (λ p. json.if_last p.0 p.1) (json.value max_depth (tokens bytes)) in
    subst (IfRead Rises) is (IfRead-and_then (λ _. ⊤) Rises of_json (λ j x. Rises-of_json j) parsed (always parsed))

-- ---- what the value that was read is

mutual
  pub depth_of-json_of : (d : Data) → depth_of (json_of d) ≡ depth d
  depth_of-json_of null = search (rules, the_lemmas)
  depth_of-json_of (boolean truth) = search (rules, the_lemmas)
  depth_of-json_of (number n) = search (rules, the_lemmas)
  depth_of-json_of (string bytes) = search (rules, the_lemmas)
  depth_of-json_of (array ds) = depth_of-List _ ∙ ap suc (largest-items_of ds)
  depth_of-json_of (object ms) = depth_of-Object _ ∙ ap suc (largest-pairs_of ms)

  largest-items_of : (ds : Items) → largest (map depth_of (items_of ds)) ≡ items_depth ds
  largest-items_of no_items = refl
  largest-items_of (item d ds) = rw (depth_of-json_of d, largest-items_of ds)

  largest-pairs_of : (ms : Members)
      → largest (map (λ pair. pair.1) (map (with_value depth_of) (pairs_of ms))) ≡ members_depth ms
  largest-pairs_of no_members = refl
  largest-pairs_of (member key d ms) = rw (depth_of-json_of d, largest-pairs_of ms)

keys_of-pairs_of : (ms : Members) → map (λ pair. pair.0) (map (with_value is_canonical) (pairs_of ms)) ≡ member_keys ms
keys_of-pairs_of no_members = refl
keys_of-pairs_of (member key d ms) = ap (λ keys. key ∷ keys) (keys_of-pairs_of ms)

is_canonical-read : (n : Num) (read_as : Option ℤ) → whole_number_of n ≡ read_as → is_some read_as ≡ true
    → is_canonical (Whole (unwrap_or read_as (pos 0))) ≡ true
is_canonical-read n None is whole = absurd cc
is_canonical-read n (Some z) is whole = is_canonical-Whole z ∙ le-leb _ _ (whole_number_of-some n z is)

is_canonical-number : (n : Num) → all_whole (number n) ≡ true → is_canonical (json_of (number n)) ≡ true
is_canonical-number n whole = is_canonical-read n (whole_number_of n) refl whole

mutual
  pub is_canonical-json_of : (d : Data) → all_whole d ≡ true → Rises d → is_canonical (json_of d) ≡ true
  is_canonical-json_of null whole rises = search (rules, the_lemmas)
  is_canonical-json_of (boolean truth) whole rises = search (rules, the_lemmas)
  is_canonical-json_of (number n) whole rises = is_canonical-number n whole
  is_canonical-json_of (string bytes) whole rises = search (rules, the_lemmas)
  is_canonical-json_of (array ds) whole rises = is_canonical-List _ ∙ canonical-items_of ds whole rises
  is_canonical-json_of (object ms) whole rises =
      let keys : are_rising (map (λ pair. pair.0) (map (with_value is_canonical) (pairs_of ms))) ≡ true =
      rw (keys_of-pairs_of ms) rises.0 in
      is_canonical-Object _ ∙ and_from _ _ keys (canonical-pairs_of ms whole rises.1)

  canonical-items_of : (ds : Items) → all_whole_items ds ≡ true → RiseItems ds
      → list_all (λ member_is. member_is) (map is_canonical (items_of ds)) ≡ true
  canonical-items_of no_items whole rises = refl
  canonical-items_of (item d ds) whole rises =
      let parts = and_parts (all_whole d) (all_whole_items ds) whole in
      and_from _ _ (is_canonical-json_of d parts.0 rises.0) (canonical-items_of ds parts.1 rises.1)

  canonical-pairs_of : (ms : Members) → all_whole_members ms ≡ true → RiseMembers ms
      → list_all (λ pair. pair.1) (map (with_value is_canonical) (pairs_of ms)) ≡ true
  canonical-pairs_of no_members whole rises = refl
  canonical-pairs_of (member key d ms) whole rises =
      let parts = and_parts (all_whole d) (all_whole_members ms) whole in
      and_from _ _ (is_canonical-json_of d parts.0 rises.0) (canonical-pairs_of ms parts.1 rises.1)

-- what is read as a whole value is valid, where it is nested at most 127 deep
pub is_valid-json_of : (bytes : List ℕ) (d : Data) → read bytes ≡ Some d → all_whole d ≡ true
    → has_utf8 (json_of d) ≡ true → depth d ≤ 127 → is_valid (json_of d) ≡ true
is_valid-json_of bytes d is whole utf8 within =
    is_valid_from (json_of d) (is_canonical-json_of d whole (Rises-read bytes d is)) utf8
    (omega (arith, depth_of-json_of d))
