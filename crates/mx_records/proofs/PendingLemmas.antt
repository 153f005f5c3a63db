-- Where the ids of users rise, halving finds the entry that a walk finds; and what entries stand for.
use Rattle.std.proofs.Common.{◌≡◌, ℕ, zero, suc, ◌+◌, ◌<◌, ◌≤◌, Bool, true, false, cond, not, T, List, [], ◌∷◌, ◌++◌}
use Rattle.std.proofs.Common.{map, length, get_or, slice_get, slice_set, Option, None, Some, option_map, Result, Ok}
use Rattle.std.proofs.Common.{Err, MatchResult, Ordering, Less, Equal, Greater, is_eq, nat_cmp, bytes_eq, OnOk, OnErr}
use Rattle.std.proofs.Common.{◌⊎◌, refl, sym, ap, subst, ◌∙◌, arith, add-one, inl, inr}
use Rattle.std.proofs.lemmas.Bool.{and_parts, cases_lt}
use Rattle.std.proofs.lemmas.Cmp.{nat_list_cmp_total}
use Rattle.std.proofs.lemmas.List.Sorted.{searchable_from_sorted}
use Rattle.std.proofs.lemmas.Option.{slice_get-map}
use Rattle.std.specs.Cmp.Lexicographic.{slice_cmp}
use Rattle.std.specs.FinMap as finite
use Rattle.std.specs.FinMap.{find, from_sorted, get, is_sorted, put, entries-insert, entries-from_sorted, get-empty}
use Rattle.std.specs.FinMap.{get-from_sorted, nat_cmp-IsAntisymmetric, same_entries_map, slice_cmp-IsAntisymmetric}
use Rattle.std.specs.FinMap.Entries.{below_all, find-where_key, is_sorted-put, is_sorted-where_key}
use Rattle.std.specs.List.{insert, remove}
use Rattle.std.specs.List.Sorted.{IsBinarySearchResult, IsSearchInRange, IsSortedBy}
use Rattle.std.specs.Ordering.{eq_by_cmp, is_lt, ordering_reverse}
use Rattle.mx_room.specs.Texts.{Texts}
use Rattle.mx_room.proofs.TextsLemmas.{bytes_eq-flip, get-set_at, same_texts, ties}
use Rattle.mx_records.specs.declared.pending.Tweaks.{Tweaks}
use Rattle.mx_records.specs.Pending.{Entries, IsEntryAt, IsGapAt, are_rising, tweaks_in, users_in, with_user}
use Rattle.mx_records.specs.Pending.{without_user}

abbrev order : List ℕ → List ℕ → Ordering
order = slice_cmp nat_cmp

-- how a user's entry stands to this user
abbrev pub order_to : List ℕ → List ℕ × Tweaks → Ordering
order_to user entry = order entry.0 user

same : (a b : List ℕ) → order a b ≡ Equal → a ≡ b
same = slice_cmp-IsAntisymmetric nat_cmp-IsAntisymmetric

flipped : (a b : List ℕ) (o : Ordering) → order a b ≡ o → order b a ≡ ordering_reverse o
flipped a b o is = nat_list_cmp_total.antisymm b a ∙ ap ordering_reverse is

less_from : (o : Ordering) → is_lt o ≡ true → o ≡ Less
less_from Less h = refl
less_from Equal h = cc
less_from Greater h = cc

pub holds : (b : Bool) → b ≡ true → T b
holds b is = subst T (sym is) tt

from_holds : (b : Bool) → T b → b ≡ true
from_holds true h = refl
from_holds false h = absurd h

-- ---- entries that rise

-- an id below all ids is below each
below-each : (id : List ℕ) (entries : Entries) (k : ℕ) (d : List ℕ × Tweaks) → below_all order id entries ≡ true
    → k < length entries → order id (get_or entries k d).0 ≡ Less
below-each id [] k d below within = absurd (omega arith)
below-each id (entry ∷ entries) zero d below within = less_from _ (and_parts (is_lt (order id entry.0)) _ below).0
below-each id (entry ∷ entries) (suc k) d below within =
    below-each id entries k d (and_parts (is_lt (order id entry.0)) _ below).1 (omega arith)

adjacent : (entries : Entries) (k : ℕ) (d : List ℕ × Tweaks) → are_rising entries ≡ true → suc k < length entries
    → order (get_or entries k d).0 (get_or entries (suc k) d).0 ≡ Less
adjacent [] k d rising within = absurd (omega arith)
adjacent (entry ∷ entries) zero d rising within =
    below-each entry.0 entries 0 d (and_parts (below_all order entry.0 entries) _ rising).0 (omega arith)
adjacent (entry ∷ entries) (suc k) d rising within =
    adjacent entries k d (and_parts (below_all order entry.0 entries) _ rising).1 (omega arith)

in_order : (entries : Entries) → are_rising entries ≡ true → IsSortedBy (λ a b. is_lt (order a.0 b.0)) entries
in_order entries rising = λ k d low within.
    rw add-one (ap is_lt
    (flipped (get_or entries k d).0 (get_or entries (suc k) d).0 Less (adjacent entries k d rising (omega arith))))

-- ---- the entry that is found

-- how a user stands to the ids before its own
above-first : (user : List ℕ) (entry : List ℕ × Tweaks) (entries : Entries) (at : ℕ) (d : List ℕ × Tweaks)
    → are_rising (entry ∷ entries) ≡ true → at < length entries → order (get_or entries at d).0 user ≡ Equal
    → order user entry.0 ≡ Greater
above-first user entry entries at d rising within equal =
    let below = below-each entry.0 entries at d (and_parts (below_all order entry.0 entries) _ rising).0 within in
    flipped entry.0 user Less (ap (order entry.0) (sym (same _ _ equal)) ∙ below)

found-at : (user : List ℕ) (entries : Entries) (at : ℕ) (d : List ℕ × Tweaks) → are_rising entries ≡ true
    → at < length entries → order (get_or entries at d).0 user ≡ Equal
    → tweaks_in user entries ≡ option_map (λ entry. entry.1) (slice_get entries at)
found-at user [] at d rising within equal = absurd (omega arith)
found-at user (entry ∷ entries) zero d rising within equal = rw (flipped entry.0 user Equal equal)
found-at user (entry ∷ entries) (suc at) d rising within equal =
    rw (above-first user entry entries at d rising (omega arith) equal)
    (found-at user entries at d (and_parts (below_all order entry.0 entries) _ rising).1 (omega arith) equal)

replaced-at : (user : List ℕ) (tweaks : Tweaks) (entries : Entries) (at : ℕ) (d : List ℕ × Tweaks)
    → are_rising entries ≡ true → at < length entries → order (get_or entries at d).0 user ≡ Equal
    → slice_set entries at (user, tweaks) ≡ with_user user tweaks entries
replaced-at user tweaks [] at d rising within equal = absurd (omega arith)
replaced-at user tweaks (entry ∷ entries) zero d rising within equal =
    rw (flipped entry.0 user Equal equal) (ap (λ id. (id, tweaks) ∷ entries) (sym (same entry.0 user equal)))
replaced-at user tweaks (entry ∷ entries) (suc at) d rising within equal =
    rw (above-first user entry entries at d rising (omega arith) equal)
    (ap (λ rest. entry ∷ rest)
    (replaced-at user tweaks entries at d (and_parts (below_all order entry.0 entries) _ rising).1 (omega arith) equal))

-- who is nobody's entry is out of all entries
none-out : (user : List ℕ) (entries : Entries)
    → ((k : ℕ) (d : List ℕ × Tweaks) → k < length entries → eq_by_cmp order user (get_or entries k d).0 ≡ false)
    → entries ≡ without_user user entries
none-out user [] apart = refl
none-out user (entry ∷ entries) apart =
    rw (apart 0 entry (omega arith))
    (ap (λ rest. entry ∷ rest) (none-out user entries (λ k d within. apart (suc k) d (omega arith))))

taken-out : (user : List ℕ) (entries : Entries) (at : ℕ) (d : List ℕ × Tweaks) → are_rising entries ≡ true
    → at < length entries → order (get_or entries at d).0 user ≡ Equal
    → remove entries at ≡ without_user user entries
taken-out user [] at d rising within equal = absurd (omega arith)
taken-out user (entry ∷ entries) zero d rising within equal =
    let below = (and_parts (below_all order entry.0 entries) _ rising).0 in
    rw (flipped entry.0 user Equal equal)
    (none-out user entries (λ k e inside.
    ap is_eq (ap (λ id. order id (get_or entries k e).0) (sym (same entry.0 user equal))
    ∙ below-each entry.0 entries k e below inside)))
taken-out user (entry ∷ entries) (suc at) d rising within equal =
    rw (above-first user entry entries at d rising (omega arith) equal)
    (ap (λ rest. entry ∷ rest)
    (taken-out user entries at d (and_parts (below_all order entry.0 entries) _ rising).1 (omega arith) equal))

-- ---- the gap that is found

inserted-at : (user : List ℕ) (tweaks : Tweaks) (entries : Entries) (at : ℕ) → at ≤ length entries
    → ((k : ℕ) (d : List ℕ × Tweaks) → k < at → order (get_or entries k d).0 user ≡ Less)
    → ((k : ℕ) (d : List ℕ × Tweaks) → at ≤ k → k < length entries → order (get_or entries k d).0 user ≡ Greater)
    → insert entries at (user, tweaks) ≡ with_user user tweaks entries
inserted-at user tweaks [] zero within below above = refl
inserted-at user tweaks [] (suc at) within below above = absurd (omega arith)
inserted-at user tweaks (entry ∷ entries) zero within below above =
    rw (flipped entry.0 user Greater (above 0 entry (omega arith) (omega arith)))
inserted-at user tweaks (entry ∷ entries) (suc at) within below above =
    rw (flipped entry.0 user Less (below 0 entry (omega arith)))
    (ap (λ rest. entry ∷ rest)
    (inserted-at user tweaks entries at (omega arith) (λ k d inside. below (suc k) d (omega arith))
    (λ k d low inside. above (suc k) d (omega arith) (omega arith))))

not-found : (user : List ℕ) (entries : Entries)
    → ((k : ℕ) (d : List ℕ × Tweaks) → k < length entries → eq_by_cmp order user (get_or entries k d).0 ≡ false)
    → tweaks_in user entries ≡ None
not-found user [] apart = refl
not-found user (entry ∷ entries) apart =
    rw (apart 0 entry (omega arith)) (not-found user entries (λ k d within. apart (suc k) d (omega arith)))

pub place_from_search : (user : List ℕ) (entries : Entries) (d : List ℕ × Tweaks) (found : Result ℕ ℕ)
    → are_rising entries ≡ true → IsSearchInRange found (length entries)
    → IsBinarySearchResult (order_to user) entries found
    → MatchResult found (λ at. IsEntryAt user entries at) (λ at. IsGapAt user entries at)
place_from_search user entries d (Ok at) rising within equal = record {
  within = within;
  found = found-at user entries at d rising within (equal d);
  replaced = λ tweaks. replaced-at user tweaks entries at d rising within (equal d);
  taken_out = taken-out user entries at d rising within (equal d);
}
place_from_search user entries d (Err at) rising within parts =
    let sides =
    parts (searchable_from_sorted nat_list_cmp_total (λ entry. entry.0) entries user (in_order entries rising)) in
    let apart : (k : ℕ) (e : List ℕ × Tweaks) → k < length entries → eq_by_cmp order user (get_or entries k e).0 ≡ false
    = λ k e inside. elim (cases_lt k at) [
      | inl before ↦ ap is_eq (flipped (get_or entries k e).0 user Less (sides.0 k e (omega arith) before))
      | inr after ↦ ap is_eq (flipped (get_or entries k e).0 user Greater (sides.1 k e after inside))
    ] in
    record {
      within = within;
      missing = not-found user entries apart;
      inserted = λ tweaks. inserted-at user tweaks entries at within (λ k e before. sides.0 k e (omega arith) before)
          (λ k e after inside. sides.1 k e after inside);
      is_out = none-out user entries apart;
    }

-- ---- what entries stand for

pub rising-with : (user : List ℕ) (tweaks : Tweaks) (entries : Entries) → are_rising entries ≡ true
    → are_rising (with_user user tweaks entries) ≡ true
rising-with user tweaks entries rising =
    from_holds _ (is_sorted-put order nat_list_cmp_total user tweaks entries (holds _ rising))

pub rising-without : (user : List ℕ) (entries : Entries) → are_rising entries ≡ true
    → are_rising (without_user user entries) ≡ true
rising-without user entries rising =
    from_holds _ (is_sorted-where_key order (λ id. not (eq_by_cmp order user id)) entries (holds _ rising))

pub entries-users_in : (entries : Entries) → are_rising entries ≡ true → finite.entries (users_in entries) ≡ entries
entries-users_in entries rising = entries-from_sorted order entries (holds _ rising)

pub get-users_in : (entries : Entries) (q : List ℕ) → are_rising entries ≡ true
    → get (users_in entries) q ≡ tweaks_in q entries
get-users_in entries q rising = get-from_sorted order entries q (holds _ rising)

pub user-listed : (entries : Entries) (k : ℕ) (entry : Option (List ℕ × Tweaks)) → are_rising entries ≡ true
    → entry ≡ slice_get entries k → option_map (λ e. e.0) entry ≡ slice_get (finite.keys (users_in entries)) k
user-listed entries k entry rising is =
    ap (option_map (λ e. e.0)) is ∙ sym (slice_get-map (λ e. e.0) entries k)
    ∙ ap (λ es. slice_get (map (λ e. e.0) es) k) (sym (entries-users_in entries rising))

pub either : {A E P Q : Type 0} (r : Result A E) → OnOk r P → OnErr r Q → P ⊎ Q
either (Ok x) p q = inl p
either (Err e) p q = inr q

pub users_in-none : users_in [] ≡ finite.empty
users_in-none = same_texts (users_in []) finite.empty (λ q. get-users_in [] q refl ∙ sym (get-empty order q))

pub users_in-with : (user : List ℕ) (tweaks : Tweaks) (entries : Entries) → are_rising entries ≡ true
    → users_in (with_user user tweaks entries) ≡ finite.insert (users_in entries) user tweaks
users_in-with user tweaks entries rising =
    same_entries_map (users_in (with_user user tweaks entries)) (finite.insert (users_in entries) user tweaks)
    (entries-users_in (with_user user tweaks entries) (rising-with user tweaks entries rising)
    ∙ sym (entries-insert nat_list_cmp_total (users_in entries) user tweaks
    ∙ ap (with_user user tweaks) (entries-users_in entries rising)))

turned : (b : Bool) (o : Option Tweaks) → cond (not b) o None ≡ cond b None o
turned true o = refl
turned false o = refl

pub users_in-without : (user : List ℕ) (entries : Entries) → are_rising entries ≡ true
    → users_in (without_user user entries) ≡ finite.remove (users_in entries) user
users_in-without user entries rising =
    same_texts (users_in (without_user user entries)) (finite.remove (users_in entries) user)
    (λ q.
    get-users_in (without_user user entries) q (rising-without user entries rising)
    ∙ find-where_key order (λ id. not (eq_by_cmp order user id)) q
    (λ x tied. ap (λ id. not (eq_by_cmp order user id)) (sym (same q x tied))) entries
    ∙ turned (eq_by_cmp order user q) (tweaks_in q entries)
    ∙ ap (λ b. cond b None (tweaks_in q entries)) (ties user q ∙ bytes_eq-flip user q)
    ∙ ap (cond (bytes_eq q user) None) (sym (get-users_in entries q rising))
    ∙ sym (get-set_at user None (users_in entries) q))
