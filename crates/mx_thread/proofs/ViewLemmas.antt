-- What is seen of the ids that are kept, and what a new id or a new place changes.
use Rattle.std.proofs.Common.{◌≡◌, ℕ, Bool, true, false, cond, ◌||◌, List, [], ◌∷◌, Option, Some, None, is_some}
use Rattle.std.proofs.Common.{option_and_then, refl, sym, ap, ◌∙◌}
use Rattle.std.proofs.lemmas.Bool.{false≢true}
use Rattle.std.proofs.lemmas.Map.{lookup-none}
use Rattle.std.proofs.lemmas.Map.Entries.{none_past_head}
use Rattle.std.proofs.lemmas.Map.Keys.{IsDistinct-tail}
use Rattle.std.proofs.lemmas.Map.Made.{is_some-lookup}
use Rattle.std.proofs.lemmas.Map.Text.{is_eq-slice_cmp}
use Rattle.std.specs.Cmp.Lexicographic.{nat_list_cmp_total, nat_list_eq_equiv, slice_cmp}
use Rattle.std.specs.FinMap as map
use Rattle.std.specs.FinSet as set
use Rattle.std.specs.HashMap.Eq.{lookup_congr}
use Rattle.std.specs.List.{IsDistinct, list_any}
use Rattle.std.specs.Map.{keys_of, lookup}
use Rattle.std.specs.Ordering.{eq_by_cmp, nat_cmp}
use Rattle.std.specs.Str.{bytes_eq}
use Rattle.mx_thread.specs.declared.place.Place.{Place}
use Rattle.mx_thread.specs.ThreadsView.{has_capacity, noted, view_of}

abbrev pub Kept : Type 0
Kept = List (List ℕ × Option Place)

-- the place that a look-up finds, if one is noted
abbrev pub place_found : Option (Option Place) → Option Place
place_found found = option_and_then (λ place. place) found

find_noted : (es : Kept) → IsDistinct bytes_eq (keys_of es) → (q : List ℕ)
    → map.find (slice_cmp nat_cmp) q (noted es) ≡ place_found (lookup (bytes_eq q) es)
find_noted [] once q = refl
find_noted ((id, Some place) ∷ es) once q =
    ap (λ b. cond b (Some place) (map.find (slice_cmp nat_cmp) q (noted es))) (is_eq-slice_cmp q id)
    ∙ ap (cond (bytes_eq q id) (Some place)) (find_noted es (IsDistinct-tail bytes_eq id (keys_of es) once) q)
    ∙ by (bytes_eq q id)
  where
    by : (b : Bool) → cond b (Some place) (place_found (lookup (bytes_eq q) es)) ≡ place_found
        (cond b (Some (Some place)) (lookup (bytes_eq q) es))
    by true = refl
    by false = refl
find_noted ((id, None) ∷ es) once q = find_noted es (IsDistinct-tail bytes_eq id (keys_of es) once) q
    ∙ by (bytes_eq q id) refl
  where
    by : (b : Bool) → bytes_eq q id ≡ b
        → place_found (lookup (bytes_eq q) es) ≡ place_found (cond b (Some None) (lookup (bytes_eq q) es))
    by true same = ap place_found
        (lookup-none (bytes_eq q) es (none_past_head nat_list_eq_equiv q (id, None) es once same))
    by false same = refl

-- a place is found where it was noted
pub get-view : (es : Kept) → IsDistinct bytes_eq (keys_of es) → (q : List ℕ)
    → map.get (view_of es).places q ≡ place_found (lookup (bytes_eq q) es)
get-view es once q = map.get-from_entries nat_list_cmp_total (noted es) q ∙ find_noted es once q

any_same : (q : List ℕ) (ids : List (List ℕ))
    → list_any (eq_by_cmp (slice_cmp nat_cmp) q) ids ≡ list_any (bytes_eq q) ids
any_same q [] = refl
any_same q (id ∷ ids) = λ i. is_eq-slice_cmp q id i || any_same q ids i

-- there is capacity for the ids that are kept
pub capacity-view : (es : Kept) (q : List ℕ) → has_capacity (view_of es) q ≡ is_some (lookup (bytes_eq q) es)
capacity-view es q = set.contains-from_list nat_list_cmp_total (keys_of es) q ∙ any_same q (keys_of es)
    ∙ sym (is_some-lookup (bytes_eq q) es)

same_places : (m n : map.FinMap (slice_cmp nat_cmp) Place) → ((q : List ℕ) → map.get m q ≡ map.get n q) → m ≡ n
same_places m n same =
    map.same_map nat_list_cmp_total (map.slice_cmp-IsAntisymmetric map.nat_cmp-IsAntisymmetric) m n same

-- ---- an id more, without a place

module _ (old new : Kept) (id : List ℕ) (absent : lookup (bytes_eq id) old ≡ None)
    (updated : (q : List ℕ)
    → lookup (bytes_eq q) new ≡ cond (bytes_eq id q) (Some None) (lookup (bytes_eq q) old)) where
  absent_at : (q : List ℕ) → bytes_eq id q ≡ true → lookup (bytes_eq q) old ≡ None
  absent_at q same = lookup_congr bytes_eq nat_list_eq_equiv.congr old q id (nat_list_eq_equiv.symm q id ∙ same)
      ∙ absent

  found_same : (q : List ℕ) → place_found (lookup (bytes_eq q) new) ≡ place_found (lookup (bytes_eq q) old)
  found_same q = ap place_found (updated q) ∙ by (bytes_eq id q) refl
    where
      by : (b : Bool) → bytes_eq id q ≡ b
          → place_found (cond b (Some None) (lookup (bytes_eq q) old)) ≡ place_found (lookup (bytes_eq q) old)
      by true same = ap place_found (sym (absent_at q same))
      by false same = refl

  pub places-reserved : IsDistinct bytes_eq (keys_of old) → IsDistinct bytes_eq (keys_of new)
      → (view_of new).places ≡ (view_of old).places
  places-reserved once still = same_places _ _ (λ q. get-view new still q ∙ found_same q ∙ sym (get-view old once q))

  pub capacity-reserved : (q : List ℕ) → has_capacity (view_of new) q ≡ (has_capacity (view_of old) q || bytes_eq id q)
  capacity-reserved q = capacity-view new q ∙ ap is_some (updated q)
      ∙ by (bytes_eq id q) (is_some (lookup (bytes_eq q) old)) refl
      ∙ ap (λ b. b || bytes_eq id q) (sym (capacity-view old q))
    where
      by : (b c : Bool) → is_some (lookup (bytes_eq q) old) ≡ c
          → is_some (cond b (Some None) (lookup (bytes_eq q) old)) ≡ (is_some (lookup (bytes_eq q) old) || b)
      by true true is = sym (ap (λ c. c || true) is)
      by true false is = sym (ap (λ c. c || true) is)
      by false true is = is ∙ sym (ap (λ c. c || false) is)
      by false false is = is ∙ sym (ap (λ c. c || false) is)

-- ---- a place more

module _ (old new : Kept) (id : List ℕ) (place : Place)
    (updated : (q : List ℕ)
    → lookup (bytes_eq q) new ≡ cond (bytes_eq id q) (Some (Some place)) (lookup (bytes_eq q) old)) where
  pub places-noted : IsDistinct bytes_eq (keys_of old) → IsDistinct bytes_eq (keys_of new)
      → (view_of new).places ≡ map.insert (view_of old).places id place
  places-noted once still = same_places _ _ (λ q.
      get-view new still q ∙ ap place_found (updated q) ∙ by q (bytes_eq id q)
      ∙ ap (λ b. cond b (Some place) (place_found (lookup (bytes_eq q) old)))
      (nat_list_eq_equiv.symm id q ∙ sym (is_eq-slice_cmp q id))
      ∙ ap (cond (eq_by_cmp (slice_cmp nat_cmp) q id) (Some place)) (sym (get-view old once q))
      ∙ sym (map.get-insert nat_list_cmp_total (view_of old).places id place q))
    where
      by : (q : List ℕ) (b : Bool)
          → place_found (cond b (Some (Some place)) (lookup (bytes_eq q) old)) ≡ cond b (Some place)
          (place_found (lookup (bytes_eq q) old))
      by q true = refl
      by q false = refl

  pub capacity-noted : is_some (lookup (bytes_eq id) old) ≡ true → (q : List ℕ)
      → has_capacity (view_of new) q ≡ has_capacity (view_of old) q
  capacity-noted there q = capacity-view new q ∙ ap is_some (updated q) ∙ by (bytes_eq id q) refl
      ∙ sym (capacity-view old q)
    where
      by : (b : Bool) → bytes_eq id q ≡ b
          → is_some (cond b (Some (Some place)) (lookup (bytes_eq q) old)) ≡ is_some (lookup (bytes_eq q) old)
      by true same = sym
          (ap is_some (lookup_congr bytes_eq nat_list_eq_equiv.congr old q id (nat_list_eq_equiv.symm q id ∙ same))
          ∙ there)
      by false same = refl

-- ---- an id that is kept already

or_false : (b : Bool) → b ≡ (b || false)
or_false true = refl
or_false false = refl

pub capacity-there : (es : Kept) (id q : List ℕ) → is_some (lookup (bytes_eq id) es) ≡ true
    → has_capacity (view_of es) q ≡ (has_capacity (view_of es) q || bytes_eq id q)
capacity-there es id q there = by (bytes_eq id q) refl
  where
    by : (b : Bool) → bytes_eq id q ≡ b → has_capacity (view_of es) q ≡ (has_capacity (view_of es) q || bytes_eq id q)
    by true same =
        let has : has_capacity (view_of es) q ≡ true = capacity-view es q
        ∙ ap is_some (lookup_congr bytes_eq nat_list_eq_equiv.congr es q id
        (nat_list_eq_equiv.symm q id ∙ same)) ∙ there in
        has ∙ sym (ap (λ b. b || bytes_eq id q) has)
    by false same = or_false _ ∙ ap (λ b. has_capacity (view_of es) q || b) (sym same)

pub none_from : {X : Type 0} (o : Option X) → is_some o ≡ false → o ≡ None
none_from None none = refl
none_from (Some x) none = absurd (false≢true (sym none))
