-- Threads in the order of their first rows: look-ups, and what a move leaves.
use Rattle.std.proofs.Common.{◌≡◌, ℕ, zero, suc, ◌+◌, ◌<◌, Bool, true, false, cond, not, ◌||◌, List, [], ◌∷◌, ◌++◌}
use Rattle.std.proofs.Common.{length, map, sum_by, get_or, insert, remove, position, slice_get, Option, Some}
use Rattle.std.proofs.Common.{option_map, refl, sym, ap, ◌∙◌, arith}
use Rattle.std.proofs.lemmas.Bool.{cond_both, false≢true}
use Rattle.std.proofs.Math.ListN.{get_or-map}
use Rattle.std.proofs.lemmas.List.{length-map}
use Rattle.std.proofs.lemmas.List.Edits.{length-remove}
use Rattle.std.proofs.lemmas.List.Sums.{sum_by-insert, sum_by-remove}
use Rattle.std.proofs.lemmas.List.Sorted.{IsNonDecreasingBy-insert}
use Rattle.std.proofs.lemmas.List.Quantifiers.{position-Some}
use Rattle.std.proofs.lemmas.Map.Entries.{length-keys_of, lookup_from_place}
use Rattle.std.proofs.lemmas.Option.{get_or_from_slice_get, slice_get-map, slice_get_within}
use Rattle.std.specs.HashMap.Eq.{lookup_congr}
use Rattle.std.specs.List.{IsDistinct}
use Rattle.std.specs.Map.{keys_of, lookup}
use Rattle.std.specs.Option.{option_map_or}
use Rattle.indexmap.specs.IndexMap.{set_value_at}
use Rattle.mx_rows.specs.declared.row.Row.{Row}
use Rattle.mx_rows.specs.declared.thread_key.ThreadKey.{ThreadKey}
use Rattle.mx_blocks.specs.declared.thread_rows.ThreadRows.{ThreadRows}
use Rattle.mx_rows.proofs.EntryLemmas.{cond_same, get_or_of_slice_get, IsNonDecreasingBy-remove, no_rows, some_at}
use Rattle.mx_rows.proofs.EntryLemmas.{some_same}
use Rattle.mx_blocks.specs.Block.{packed_rows}
use Rattle.mx_blocks.specs.Entries.{hot_in, Entries, InOrder, is_spent, IsPlace, rows_in, start_at, thread_rows}
use Rattle.mx_rows.specs.Rows.{has_rows}
use Rattle.mx_rows.specs.Threads.{same_thread, same_thread-equiv}

-- ---- lists

-- ---- look-ups

-- what is read of a thread whose entry was written or taken out, where nothing else changed
pub read_after : {B : Type 0} (es new : Entries) (key : ThreadKey) (before left : Option ThreadRows)
    (at : Option ThreadRows → B) (f : B → B)
    → lookup (same_thread key) es ≡ before
    → ((q : ThreadKey) → lookup (same_thread q) new ≡ cond (same_thread key q) left (lookup (same_thread q) es))
    → at left ≡ f (at before)
    → (t : ThreadKey)
    → at (lookup (same_thread t) new) ≡ cond (same_thread key t) (f (at (lookup (same_thread t) es)))
    (at (lookup (same_thread t) es))
read_after es new key before left at f found updated says t = by (same_thread key t) refl
  where
    here : same_thread key t ≡ true → lookup (same_thread t) es ≡ before
    here same = lookup_congr same_thread same_thread-equiv.congr es t key (same_thread-equiv.symm t key ∙ same) ∙ found

    by : (b : Bool) → same_thread key t ≡ b
        → at (lookup (same_thread t) new) ≡ cond (same_thread key t) (f (at (lookup (same_thread t) es)))
        (at (lookup (same_thread t) es))
    by true same = ap at (updated t) ∙ ap (λ c. at (cond c left (lookup (same_thread t) es))) same ∙ says
        ∙ ap (λ o. f (at o)) (sym (here same))
        ∙ sym (ap (λ c. cond c (f (at (lookup (same_thread t) es))) (at (lookup (same_thread t) es))) same)
    by false same = ap at (updated t) ∙ ap (λ c. at (cond c left (lookup (same_thread t) es))) same
        ∙ sym (ap (λ c. cond c (f (at (lookup (same_thread t) es))) (at (lookup (same_thread t) es))) same)

-- the same where what is read stays
pub read_same : {B : Type 0} (es new : Entries) (key : ThreadKey) (before left : Option ThreadRows)
    (at : Option ThreadRows → B)
    → lookup (same_thread key) es ≡ before
    → ((q : ThreadKey) → lookup (same_thread q) new ≡ cond (same_thread key q) left (lookup (same_thread q) es))
    → at left ≡ at before
    → (t : ThreadKey) → at (lookup (same_thread t) new) ≡ at (lookup (same_thread t) es)
read_same es new key before left at found updated says t =
    read_after es new key before left at (λ b. b) found updated says t ∙ cond_same _ _

-- a thread that is spent has neither rows nor capacity
pub spent_parts : (kept : ThreadRows) → is_spent kept ≡ true → ((thread_rows kept) ≡ []) × (kept.reserved ≡ false)
spent_parts kept spent = by (has_rows (thread_rows kept)) kept.reserved refl refl spent
  where
    by : (a b : Bool) → has_rows (thread_rows kept) ≡ a → kept.reserved ≡ b → not (a || b) ≡ true
        → ((thread_rows kept) ≡ []) × (kept.reserved ≡ false)
    by false false none free spent = (no_rows _ none, free)
    by false true none free spent = absurd (false≢true spent)
    by true b none free spent = absurd (false≢true spent)

-- nor hot rows
pub spent_hot : (kept : ThreadRows) → is_spent kept ≡ true → kept.hot.items ≡ []
spent_hot kept spent = by (packed_rows kept.blocks.items) kept.hot.items (spent_parts kept spent).0
  where
    by : (xs ys : List Row) → xs ++ ys ≡ [] → ys ≡ []
    by [] ys none = none
    by (x ∷ xs) ys none = absurd (cc)

pub found_at : (es : Entries) (i : ℕ) (e : ThreadKey × ThreadRows) → IsDistinct same_thread (keys_of es)
    → slice_get es i ≡ Some e → lookup (same_thread e.0) es ≡ Some e.1
found_at es i e once is = lookup_from_place same_thread-equiv es i e.0 e.1 once is

-- ---- one entry written

pub slice_get-set_value_at : (es : Entries) (i : ℕ) (e : ThreadKey × ThreadRows) (w : ThreadRows)
    → slice_get es i ≡ Some e → slice_get (set_value_at es i w) i ≡ Some (e.0, w)
slice_get-set_value_at [] i e w is = cc
slice_get-set_value_at (x ∷ es) zero e w is = ap (λ (y : ThreadKey × ThreadRows). Some (y.0, w)) (some_same is)
slice_get-set_value_at (x ∷ es) (suc i) e w is = slice_get-set_value_at es i e w is

pub remove-set_value_at : (es : Entries) (i : ℕ) (w : ThreadRows) → remove (set_value_at es i w) i ≡ remove es i
remove-set_value_at [] i w = refl
remove-set_value_at (x ∷ es) zero w = refl
remove-set_value_at (x ∷ es) (suc i) w = ap (λ l. x ∷ l) (remove-set_value_at es i w)

-- what is read of each entry stays where it is the same of the one that is written
pub map-set_value_at : {A : Type 0} (f : ThreadKey × ThreadRows → A) (es : Entries) (i : ℕ)
    (e : ThreadKey × ThreadRows) (w : ThreadRows)
    → slice_get es i ≡ Some e → f (e.0, w) ≡ f e → map f (set_value_at es i w) ≡ map f es
map-set_value_at f [] i e w is same = refl
map-set_value_at f (x ∷ es) zero e w is same =
    let here = some_same is in
    ap (λ y. y ∷ map f es) (ap (λ (y : ThreadKey × ThreadRows). f (y.0, w)) here ∙ same ∙ sym (ap f here))
map-set_value_at f (x ∷ es) (suc i) e w is same = ap (λ l. f x ∷ l) (map-set_value_at f es i e w is same)

-- ---- the order

-- threads that start where others do stand in order where these do
pub InOrder-same_starts : (es new : Entries) → map start_at new ≡ map start_at es → InOrder es → InOrder new
InOrder-same_starts es new same up i j d le lt =
    let long : length new ≡ length es = sym (length-map new start_at) ∙ ap length same ∙ length-map es start_at in
    let at : (k : ℕ) → start_at (get_or new k d) ≡ start_at (get_or es k d) = λ k. sym (get_or-map start_at new k d)
    ∙ ap (λ l. get_or l k (start_at d)) same ∙ get_or-map start_at es k d in
    let before = up i j d le (omega arith) in
    let at_i = at i in
    let at_j = at j in
    omega arith

-- where a thread that changed is taken out, or stands at its place, the order is kept
pub InOrder-settled : (es : Entries) (i to start : ℕ) (e : ThreadKey × ThreadRows) (b : Bool) → i < length es
    → InOrder es → IsPlace es i start to → start_at e ≡ start
    → InOrder (cond b (remove es i) (insert (remove es i) to e))
InOrder-settled es i to start e b within order place starts =
    let left = IsNonDecreasingBy-remove start_at es i within order in
    let shorter = length-remove es i within in
    cond_both b (remove es i) (insert (remove es i) to e) InOrder (λ _. left)
    (λ _. IsNonDecreasingBy-insert start_at (remove es i) to e left (let fits = place.within in omega arith)
    (λ k d below. let h = place.before k d below in omega arith)
    (λ k d from below. let h = place.after k d from below in omega arith))

-- what is summed over the threads falls by what was summed of the one that changed
pub sum_by-settled : (f : ThreadKey × ThreadRows → ℕ) (es : Entries) (i to : ℕ) (old new : ThreadKey × ThreadRows)
    (b : Bool) → slice_get es i ≡ Some old → f new ≡ 0
    → sum_by f (cond b (remove es i) (insert (remove es i) to new)) + f old ≡ sum_by f es
sum_by-settled f es i to old new b is none =
    let gone : sum_by f (remove es i) + f (get_or es i old) ≡ sum_by f es
    = sum_by-remove f es i old (slice_get_within es i old is) in
    let here : get_or es i old ≡ old = get_or_of_slice_get es i old is in
    let kept : sum_by f (remove es i) + f old ≡ sum_by f es = ap (λ x. sum_by f (remove es i) + f x) (sym here)
    ∙ gone in
    cond_both b (remove es i) (insert (remove es i) to new) (λ l. sum_by f l + f old ≡ sum_by f es) (λ _. kept)
    (λ _. let more = sum_by-insert f (remove es i) to new in omega arith)

-- the threads after one was written and then settled
pub settled : (es written new : Entries) (i to : ℕ) (e : ThreadKey × ThreadRows) (w : ThreadRows)
    → slice_get es i ≡ Some e → written ≡ set_value_at es i w
    → ((x : ThreadKey × ThreadRows) → slice_get written i ≡ Some x
    → new ≡ cond (is_spent x.1) (remove written i) (insert (remove written i) to x))
    → new ≡ cond (is_spent w) (remove es i) (insert (remove es i) to (e.0, w))
settled es written new i to e w is write says =
    says (e.0, w) (ap (λ l. slice_get l i) write ∙ slice_get-set_value_at es i e w is)
    ∙ ap (λ l. cond (is_spent w) l (insert l to (e.0, w))) (ap (λ l. remove l i) write ∙ remove-set_value_at es i w)

-- ---- an entry by its index

-- the entry at the index where a thread was found
pub entry_found : (es : Entries) (t : ThreadKey) (i : ℕ) → Some i ≡ position (same_thread t) (keys_of es)
    → (e : ThreadKey × ThreadRows) × (slice_get es i ≡ Some e) × (same_thread t e.0 ≡ true)
entry_found es t i is =
    let found = position-Some (same_thread t) (keys_of es) i t (sym is) in
    let long = length-keys_of es in
    let here = some_at es i (omega arith) in
    let key : slice_get (keys_of es) i ≡ Some here.0.0 = slice_get-map (λ (e : ThreadKey × ThreadRows). e.0) es i
    ∙ ap (option_map (λ (e : ThreadKey × ThreadRows). e.0)) here.1 in
    (here.0, here.1, ap (same_thread t) (sym (get_or_from_slice_get (keys_of es) i here.0.0 t key)) ∙ found.1)

-- the index of an entry's value
pub value_at : (es : Entries) (i : ℕ) (e : ThreadKey × ThreadRows) (v : ThreadRows) → slice_get es i ≡ Some e
    → slice_get (map (λ x. x.1) es) i ≡ Some v → v ≡ e.1
value_at es i e v is value =
    some_same (sym value ∙ slice_get-map (λ (x : ThreadKey × ThreadRows). x.1) es i
    ∙ ap (option_map (λ (x : ThreadKey × ThreadRows). x.1)) is)

-- the rows of the thread that an entry was found by
pub rows_found : (es : Entries) (t : ThreadKey) (i : ℕ) (e : ThreadKey × ThreadRows)
    → IsDistinct same_thread (keys_of es) → slice_get es i ≡ Some e → same_thread t e.0 ≡ true
    → (thread_rows e.1) ≡ rows_in es t
rows_found es t i e once is same =
    sym (ap (λ o. option_map_or (λ (kept : ThreadRows). (thread_rows kept)) o [])
    (lookup_congr same_thread same_thread-equiv.congr es t e.0 same ∙ found_at es i e once is))

-- the hot rows of the thread that an entry was found by
pub hot_found : (es : Entries) (t : ThreadKey) (i : ℕ) (e : ThreadKey × ThreadRows)
    → IsDistinct same_thread (keys_of es) → slice_get es i ≡ Some e → same_thread t e.0 ≡ true
    → e.1.hot.items ≡ hot_in es t
hot_found es t i e once is same =
    sym (ap (λ o. option_map_or (λ (kept : ThreadRows). kept.hot.items) o [])
    (lookup_congr same_thread same_thread-equiv.congr es t e.0 same ∙ found_at es i e once is))
