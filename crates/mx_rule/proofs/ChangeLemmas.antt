-- Rules by their places: what a change makes of a list that is kept by its ids, and where the rule with an id stands.
use Rattle.std.proofs.Common.{◌≡◌, ℕ, zero, suc, ◌+◌, Bool, true, false, not, cond, ◌||◌, List, [], ◌∷◌, length, nat_lt}
use Rattle.std.proofs.Common.{map, count_by, sum_by, position, remove, slice_get, Option, Some, None, option_map}
use Rattle.std.proofs.Common.{is_some, refl, sym, ap, subst, ◌∙◌, arith, String, Global, string_bytes}
use Rattle.std.specs.List.{list_any, position_or_len}
use Rattle.std.specs.Map.{keys_of}
use Rattle.std.specs.Str.{bytes_eq}
use Rattle.indexmap.specs.IndexMap.{set_value_at}
use Rattle.std.proofs.lemmas.Bool.{and_from, and_parts, cond-false, cond-true, le-ltb, lt-ltb, ltb-false, ltb-true}
use Rattle.std.proofs.lemmas.Bool.{not-true, not_from_false, not_from_true, or_from, or_parts}
use Rattle.std.proofs.lemmas.List.Sums.{sum_by-cons}
use Rattle.mx_rule.specs.declared.kind.Kind.TheVariants.{Override, Content}
use Rattle.mx_rule.specs.Editing.{changed_at, has_id, with_changed, without}
use Rattle.mx_rule.specs.Rule.{PushRule}
use Rattle.mx_rule.specs.Ruleset.{are_distinct, ids_of, is_own, own_among}
use Rattle.mx_rule.proofs.EditLemmas.{apart-flip, same-text}

abbrev pub Entry : Type 0
Entry = String Global × PushRule

abbrev pub rules_in : List Entry → List PushRule
rules_in entries = map (λ (e : Entry). e.1) entries

-- ---- one rule changed

pub rules-set : (change : PushRule → PushRule) (entries : List Entry) (index : ℕ) (rule : PushRule)
    → slice_get (rules_in entries) index ≡ Some rule
    → rules_in (set_value_at entries index (change rule)) ≡ changed_at index change (rules_in entries)
rules-set change [] index rule at = refl
rules-set change (first ∷ entries) zero rule at =
    let same : rule ≡ first.1 = cc in ap (λ r. change r ∷ rules_in entries) same
rules-set change (first ∷ entries) (suc index) rule at =
    ap (λ rules. first.1 ∷ rules) (rules-set change entries index rule at)

pub changed_at-past : (change : PushRule → PushRule) (rules : List PushRule) (index : ℕ)
    → None ≡ slice_get rules index → rules ≡ changed_at index change rules
changed_at-past change [] index past = refl
changed_at-past change (rule ∷ rules) zero past = absurd (let e : None ≡ Some rule = past in cc)
changed_at-past change (rule ∷ rules) (suc index) past =
    ap (λ rules. rule ∷ rules) (changed_at-past change rules index past)

pub ids-changed_at : (change : PushRule → PushRule) → ((rule : PushRule) → (change rule).id ≡ rule.id)
    → (index : ℕ) (rules : List PushRule) → ids_of (changed_at index change rules) ≡ ids_of rules
ids-changed_at change same index [] = refl
ids-changed_at change same zero (rule ∷ rules) = ap (λ id. id ∷ ids_of rules) (same rule)
ids-changed_at change same (suc index) (rule ∷ rules) =
    ap (λ ids. rule.id ∷ ids) (ids-changed_at change same index rules)

-- ---- one rule removed

pub map-remove : {X Y : Type 0} (f : X → Y) (xs : List X) (i : ℕ) → map f (remove xs i) ≡ remove (map f xs) i
map-remove f [] zero = refl
map-remove f [] (suc i) = refl
map-remove f (x ∷ xs) zero = refl
map-remove f (x ∷ xs) (suc i) = ap (λ ys. f x ∷ ys) (map-remove f xs i)

none-remove : (p : List ℕ → Bool) (texts : List (List ℕ)) (i : ℕ) → list_any p texts ≡ false
    → list_any p (remove texts i) ≡ false
none-remove p [] zero none = refl
none-remove p [] (suc i) none = refl
none-remove p (text ∷ texts) zero none = (or_parts (p text) (list_any p texts) none).1
none-remove p (text ∷ texts) (suc i) none =
    let parts = or_parts (p text) (list_any p texts) none in or_from _ _ parts.0 (none-remove p texts i parts.1)

pub distinct-remove : (texts : List (List ℕ)) (i : ℕ) → are_distinct texts ≡ true → are_distinct (remove texts i) ≡ true
distinct-remove [] zero distinct = refl
distinct-remove [] (suc i) distinct = refl
distinct-remove (text ∷ texts) zero distinct =
    (and_parts (not (list_any (λ later. bytes_eq later text) texts)) (are_distinct texts) distinct).1
distinct-remove (text ∷ texts) (suc i) distinct =
    let p : List ℕ → Bool = λ later. bytes_eq later text in
    let parts = and_parts (not (list_any p texts)) (are_distinct texts) distinct in
    and_from _ _ (ap not (none-remove p texts i (not-true _ parts.0))) (distinct-remove texts i parts.1)

-- ---- where the rule with an id stands

pub position-cons : {X : Type 0} (p : X → Bool) (x : X) (xs : List X)
    → position p (x ∷ xs) ≡ cond (p x) (Some 0) (option_map (λ i. i + 1) (position p xs))
position-cons p x xs = by (p x)
  where
    further : (t : Bool) → nat_lt (position_or_len p xs) (length xs) ≡ t
        → cond (nat_lt (1 + position_or_len p xs) (length (x ∷ xs))) (Some (1 + position_or_len p xs)) None
        ≡ option_map (λ i. i + 1) (cond t (Some (position_or_len p xs)) None)
    further true e =
        let lt = ltb-true _ _ e in
        cond-true _ _ _ (lt-ltb (1 + position_or_len p xs) (length (x ∷ xs)) (omega arith))
        ∙ ap (λ k. Some k) (omega arith)
    further false e =
        let ge = ltb-false _ _ e in cond-false _ _ _ (le-ltb (1 + position_or_len p xs) (length (x ∷ xs)) (omega arith))

    by : (b : Bool)
        → cond (nat_lt (cond (not b) (1 + position_or_len p xs) 0) (length (x ∷ xs)))
        (Some (cond (not b) (1 + position_or_len p xs) 0)) None
        ≡ cond b (Some 0) (option_map (λ i. i + 1) (position p xs))
    by true = cond-true _ _ _ (lt-ltb 0 (length (x ∷ xs)) (omega arith))
    by false = further (nat_lt (position_or_len p xs) (length xs)) refl

position-congr : {X : Type 0} (p q : X → Bool) (xs : List X) → ((x : X) → p x ≡ q x) → position p xs ≡ position q xs
position-congr p q [] same = refl
position-congr p q (x ∷ xs) same =
    position-cons p x xs
    ∙ (λ j. cond (same x j) (Some 0) (option_map (λ i. i + 1) (position-congr p q xs same j)))
    ∙ sym (position-cons q x xs)

position-map : {X Y : Type 0} (p : Y → Bool) (f : X → Y) (xs : List X) → position p (map f xs)
    ≡ position (λ x. p (f x)) xs
position-map p f [] = refl
position-map p f (x ∷ xs) =
    position-cons p (f x) (map f xs)
    ∙ ap (λ r. cond (p (f x)) (Some 0) (option_map (λ i. i + 1) r)) (position-map p f xs)
    ∙ sym (position-cons (λ x. p (f x)) x xs)

bytes_eq-flip : (a b : List ℕ) → bytes_eq a b ≡ bytes_eq b a
bytes_eq-flip a b = by (bytes_eq a b) (bytes_eq b a) refl refl
  where
    by : (x y : Bool) → bytes_eq a b ≡ x → bytes_eq b a ≡ y → x ≡ y
    by true true e f = refl
    by true false e f = sym e ∙ apart-flip b a f
    by false true e f = sym (apart-flip a b e) ∙ f
    by false false e f = refl

-- the place of a key is that of the rule with this id
pub place-by_key : (id : List ℕ) (keys : List (String Global)) (rules : List PushRule) → map string_bytes keys
    ≡ ids_of rules
    → position (λ key. bytes_eq id (string_bytes key)) keys ≡ position (has_id id) rules
place-by_key id keys rules are =
    sym (position-map (bytes_eq id) string_bytes keys)
    ∙ ap (position (bytes_eq id)) are
    ∙ position-map (bytes_eq id) (λ (rule : PushRule). rule.id) rules
    ∙ position-congr (λ (rule : PushRule). bytes_eq id rule.id) (has_id id) rules (λ rule. bytes_eq-flip id rule.id)

-- a rule has the id exactly where it has a place
pub is_some-position : {X : Type 0} (p : X → Bool) (xs : List X) → list_any p xs ≡ is_some (position p xs)
is_some-position p [] = refl
is_some-position p (x ∷ xs) =
    ap (λ b. p x || b) (is_some-position p xs) ∙ by (p x) (position p xs) ∙ ap is_some (sym (position-cons p x xs))
  where
    by : (b : Bool) (r : Option ℕ) → (b || is_some r) ≡ is_some (cond b (Some 0) (option_map (λ i. i + 1) r))
    by true r = refl
    by false None = refl
    by false (Some k) = refl

-- ---- by its id, or by its place

-- what a look-up found
pub data Found (b : Bool) (r : Option ℕ) (i : ℕ) : Type 0 where
  here : b ≡ true → i ≡ 0 → Found b r i
  later : (k : ℕ) → b ≡ false → r ≡ Some k → i ≡ suc k → Found b r i

found : (b : Bool) (r : Option ℕ) (i : ℕ) → cond b (Some 0) (option_map (λ k. k + 1) r) ≡ Some i → Found b r i
found true r i is = here refl cc
found false None i is = absurd (let e : None ≡ Some i = is in cc)
found false (Some k) i is = let e : k + 1 ≡ i = cc in later k refl refl (omega arith)

pub found-at : (p : PushRule → Bool) (rule : PushRule) (rules : List PushRule) (i : ℕ) → position p (rule ∷ rules)
    ≡ Some i
    → Found (p rule) (position p rules) i
found-at p rule rules i is = found (p rule) (position p rules) i (sym (position-cons p rule rules) ∙ is)

-- no other rule has the id of the first
others-apart : (id : List ℕ) (rule : PushRule) (rules : List PushRule) → has_id id rule ≡ true
    → are_distinct (ids_of (rule ∷ rules)) ≡ true → list_any (λ text. bytes_eq text id) (ids_of rules) ≡ false
others-apart id rule rules is distinct =
    let parts = and_parts (not (list_any (λ text. bytes_eq text rule.id) (ids_of rules)))
    (are_distinct (ids_of rules)) distinct in
    subst (λ named. list_any (λ text. bytes_eq text named) (ids_of rules) ≡ false) (same-text rule.id id is)
    (not-true _ parts.0)

without-absent : (id : List ℕ) (rules : List PushRule) → list_any (λ text. bytes_eq text id) (ids_of rules) ≡ false
    → without id rules ≡ rules
without-absent id [] apart = refl
without-absent id (rule ∷ rules) apart =
    let parts = or_parts (bytes_eq rule.id id) (list_any (λ text. bytes_eq text id) (ids_of rules)) apart in
    cond-true _ _ _ (not_from_false _ parts.0) ∙ ap (λ rules. rule ∷ rules) (without-absent id rules parts.1)

changed-absent : (id : List ℕ) (change : PushRule → PushRule) (rules : List PushRule)
    → list_any (λ text. bytes_eq text id) (ids_of rules) ≡ false → with_changed id change rules ≡ rules
changed-absent id change [] apart = refl
changed-absent id change (rule ∷ rules) apart =
    let parts = or_parts (bytes_eq rule.id id) (list_any (λ text. bytes_eq text id) (ids_of rules)) apart in
    let first : cond (has_id id rule) (change rule) rule ≡ rule = cond-false _ _ _ parts.0 in
    λ j. first j ∷ changed-absent id change rules parts.1 j

rest-distinct : (rule : PushRule) (rules : List PushRule) → are_distinct (ids_of (rule ∷ rules)) ≡ true
    → are_distinct (ids_of rules) ≡ true
rest-distinct rule rules distinct =
    (and_parts (not (list_any (λ text. bytes_eq text rule.id) (ids_of rules))) (are_distinct (ids_of rules)) distinct).1

-- the rules without the one of an id are those without the one at its place
pub without-by_place : (id : List ℕ) (rules : List PushRule) (i : ℕ) → are_distinct (ids_of rules) ≡ true
    → position (has_id id) rules ≡ Some i → without id rules ≡ remove rules i
without-by_place id [] i distinct is = absurd (let e : None ≡ Some i = is in cc)
without-by_place id (rule ∷ rules) i distinct is =
    let rest = λ (k : ℕ) (at : position (has_id id) rules ≡ Some k).
    without-by_place id rules k (rest-distinct rule rules distinct) at in
    elim (found-at (has_id id) rule rules i is) [
      | here named at ↦
          cond-false _ _ _ (not_from_true _ named) ∙ without-absent id rules (others-apart id rule rules named distinct)
          ∙ ap (remove (rule ∷ rules)) (sym at)
      | later k apart found at ↦
          cond-true _ _ _ (not_from_false _ apart) ∙ ap (λ rules. rule ∷ rules) (rest k found)
          ∙ ap (remove (rule ∷ rules)) (sym at)
    ]

-- to change the rule with an id is to change the one at its place
pub changed-by_place : (id : List ℕ) (change : PushRule → PushRule) (rules : List PushRule) (i : ℕ)
    → are_distinct (ids_of rules) ≡ true → position (has_id id) rules ≡ Some i → with_changed id change rules
    ≡ changed_at i change rules
changed-by_place id change [] i distinct is = absurd (let e : None ≡ Some i = is in cc)
changed-by_place id change (rule ∷ rules) i distinct is =
    let rest = λ (k : ℕ) (at : position (has_id id) rules ≡ Some k).
    changed-by_place id change rules k (rest-distinct rule rules distinct) at in
    elim (found-at (has_id id) rule rules i is) [
      | here named at ↦
          let first : cond (has_id id rule) (change rule) rule ≡ change rule = cond-true _ _ _ named in
          let others = changed-absent id change rules (others-apart id rule rules named distinct) in
          (λ j. first j ∷ others j) ∙ ap (λ i. changed_at i change (rule ∷ rules)) (sym at)
      | later k apart found at ↦
          let first : cond (has_id id rule) (change rule) rule ≡ rule = cond-false _ _ _ apart in
          (λ j. first j ∷ rest k found j) ∙ ap (λ i. changed_at i change (rule ∷ rules)) (sym at)
    ]

-- ---- what a list keeps

-- each rule is kept by its id, and no two have one
abbrev pub IsKept : List Entry → Type 0
IsKept entries = (map string_bytes (keys_of entries) ≡ ids_of (rules_in entries))
    × (are_distinct (ids_of (rules_in entries)) ≡ true)

keys-set : (rule : PushRule) (entries : List Entry) (index : ℕ) → keys_of (set_value_at entries index rule)
    ≡ keys_of entries
keys-set rule [] index = refl
keys-set rule (first ∷ entries) zero = refl
keys-set rule (first ∷ entries) (suc index) = ap (λ keys. first.0 ∷ keys) (keys-set rule entries index)

pub set-IsKept : (change : PushRule → PushRule) → ((rule : PushRule) → (change rule).id ≡ rule.id)
    → (entries : List Entry) (index : ℕ)
    (rule : PushRule) → slice_get (rules_in entries) index ≡ Some rule → IsKept entries
    → IsKept (set_value_at entries index (change rule))
set-IsKept change same entries index rule at kept =
    let ids : ids_of (rules_in (set_value_at entries index (change rule))) ≡ ids_of (rules_in entries) =
    ap ids_of (rules-set change entries index rule at) ∙ ids-changed_at change same index (rules_in entries) in
    (ap (map string_bytes) (keys-set (change rule) entries index) ∙ kept.0 ∙ sym ids, ap are_distinct ids ∙ kept.1)

pub remove-IsKept : (entries : List Entry) (index : ℕ) → IsKept entries → IsKept (remove entries index)
remove-IsKept entries index kept =
    let ids : ids_of (rules_in (remove entries index)) ≡ remove (ids_of (rules_in entries)) index =
    ap ids_of (map-remove (λ (e : Entry). e.1) entries index)
    ∙ map-remove (λ (rule : PushRule). rule.id) (rules_in entries) index in
    let keys : map string_bytes (keys_of (remove entries index)) ≡ remove (map string_bytes (keys_of entries)) index =
    ap (map string_bytes) (map-remove (λ (e : Entry). e.0) entries index)
    ∙ map-remove string_bytes (keys_of entries) index in (
      keys ∙ ap (λ texts. remove texts index) kept.0 ∙ sym ids,
      ap are_distinct ids
          ∙ distinct-remove (ids_of (rules_in entries)) index kept.1,
    )

-- a change that keeps whether each rule passes keeps how many do
own-changed_at : (p : PushRule → Bool) (change : PushRule → PushRule) → ((rule : PushRule) → p (change rule) ≡ p rule)
    → (index : ℕ) (rules : List PushRule) → count_by p (changed_at index change rules) ≡ count_by p rules
own-changed_at p change same index [] = refl
own-changed_at p change same zero (rule ∷ rules) =
    let one : PushRule → ℕ = λ r. cond (p r) 1 0 in
    sum_by-cons one (change rule) rules ∙ ap (λ b. cond b 1 0 + sum_by one rules) (same rule)
    ∙ sym (sum_by-cons one rule rules)
own-changed_at p change same (suc index) (rule ∷ rules) =
    let one : PushRule → ℕ = λ r. cond (p r) 1 0 in
    sum_by-cons one rule (changed_at index change rules)
    ∙ ap (λ n. one rule + n) (own-changed_at p change same index rules)
    ∙ sym (sum_by-cons one rule rules)

-- what a list keeps: its rules by their ids, and how many of them the user made, as override rules and as others
abbrev pub IsListOf : List Entry → ℕ → ℕ → Type 0
IsListOf entries own_override own_other = (map string_bytes (keys_of entries) ≡ ids_of (rules_in entries))
    × (are_distinct (ids_of (rules_in entries)) ≡ true)
    × (own_override ≡ own_among Override (rules_in entries))
    × (own_other ≡ own_among Content (rules_in entries))

-- a change of one rule that keeps its id and who made it keeps all that
pub set-IsListOf : (change : PushRule → PushRule) → ((rule : PushRule) → (change rule).id ≡ rule.id)
    → ((rule : PushRule) → is_own Override (change rule) ≡ is_own Override rule)
    → ((rule : PushRule) → is_own Content (change rule) ≡ is_own Content rule)
    → (entries : List Entry) (index : ℕ) (rule : PushRule) (own_override own_other : ℕ)
    → slice_get (rules_in entries) index ≡ Some rule → IsListOf entries own_override own_other
    → IsListOf (set_value_at entries index (change rule)) own_override own_other
set-IsListOf change same same_override same_other entries index rule own_override own_other at kept =
    let ids = set-IsKept change same entries index rule at (kept.0, kept.1) in
    let set = rules-set change entries index rule at in (
      ids.0,
      ids.1,
      kept.2 ∙ sym (ap (own_among Override) set ∙ own-changed_at (is_own Override) change same_override index
          (rules_in entries)),
      kept.3 ∙ sym (ap (own_among Content) set ∙ own-changed_at (is_own Content) change same_other index
          (rules_in entries)),
    )
