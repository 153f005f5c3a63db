-- No thread is kept without a row or capacity: what holds of each entry, after one was written, moved or taken out.
use Rattle.std.proofs.Common.{◌≡◌, ℕ, zero, suc, Bool, true, false, cond, not, ◌&&◌, ◌||◌, List, [], ◌∷◌, ◌++◌, insert}
use Rattle.std.proofs.Common.{remove, slice_get, Some, refl, sym, ap, ◌∙◌}
use Rattle.std.proofs.lemmas.Bool.{and_parts, and_from, cond_both, false≢true, not-false}
use Rattle.std.specs.List.{list_all}
use Rattle.indexmap.specs.IndexMap.{set_value_at}
use Rattle.mx_rows.specs.declared.row.Row.{Row}
use Rattle.mx_rows.specs.declared.thread_rows.ThreadRows.{ThreadRows}
use Rattle.mx_rows.specs.Plain.{are_needed, Entries, Entry, is_spent}
use Rattle.mx_rows.specs.Rows.{has_rows}
use Rattle.mx_rows.proofs.EntryLemmas.{some_same}

-- ---- lists

list_all-remove : {X : Type 0} (q : X → Bool) (xs : List X) (i : ℕ)
    → list_all q xs ≡ true → list_all q (remove xs i) ≡ true
list_all-remove q [] zero all = refl
list_all-remove q [] (suc i) all = refl
list_all-remove q (x ∷ xs) zero all = (and_parts (q x) (list_all q xs) all).1
list_all-remove q (x ∷ xs) (suc i) all =
    let parts = and_parts (q x) (list_all q xs) all in
    and_from _ _ parts.0 (list_all-remove q xs i parts.1)

list_all-insert : {X : Type 0} (q : X → Bool) (xs : List X) (i : ℕ) (y : X)
    → list_all q xs ≡ true → q y ≡ true → list_all q (insert xs i y) ≡ true
list_all-insert q [] zero y all here = and_from _ _ here refl
list_all-insert q [] (suc i) y all here = and_from _ _ here refl
list_all-insert q (x ∷ xs) zero y all here = and_from _ _ here all
list_all-insert q (x ∷ xs) (suc i) y all here =
    let parts = and_parts (q x) (list_all q xs) all in
    and_from _ _ parts.0 (list_all-insert q xs i y parts.1 here)

list_all-at : {X : Type 0} (q : X → Bool) (xs : List X) (i : ℕ) (x : X)
    → list_all q xs ≡ true → slice_get xs i ≡ Some x → q x ≡ true
list_all-at q [] i x all is = cc
list_all-at q (y ∷ xs) zero x all is = ap q (sym (some_same is)) ∙ (and_parts (q y) (list_all q xs) all).0
list_all-at q (y ∷ xs) (suc i) x all is = list_all-at q xs i x (and_parts (q y) (list_all q xs) all).1 is

list_all-set_value_at : (q : Entry → Bool) (es : Entries) (i : ℕ) (e : Entry) (w : ThreadRows)
    → slice_get es i ≡ Some e → q (e.0, w) ≡ true → list_all q es ≡ true → list_all q (set_value_at es i w) ≡ true
list_all-set_value_at q [] i e w is here all = refl
list_all-set_value_at q (x ∷ es) zero e w is here all =
    and_from _ _ (ap (λ (y : Entry). q (y.0, w)) (some_same is) ∙ here) (and_parts (q x) (list_all q es) all).1
list_all-set_value_at q (x ∷ es) (suc i) e w is here all =
    let parts = and_parts (q x) (list_all q es) all in
    and_from _ _ parts.0 (list_all-set_value_at q es i e w is here parts.1)

-- ---- threads

abbrev pub need : Entry → Bool
need entry = has_rows entry.1.rows.items || entry.1.reserved

pub needed-at : (es : Entries) (i : ℕ) (e : Entry) → are_needed es ≡ true → slice_get es i ≡ Some e → need e ≡ true
needed-at es i e needed is = list_all-at need es i e needed is

pub needed-written : (es : Entries) (i : ℕ) (e : Entry) (w : ThreadRows) → slice_get es i ≡ Some e
    → need (e.0, w) ≡ true → are_needed es ≡ true → are_needed (set_value_at es i w) ≡ true
needed-written es i e w is here needed = list_all-set_value_at need es i e w is here needed

-- a thread that changed is taken out where nothing is left of it, and else it is needed
pub needed-settled : (es : Entries) (i to : ℕ) (e : Entry) → are_needed es ≡ true
    → are_needed (cond (is_spent e.1) (remove es i) (insert (remove es i) to e)) ≡ true
needed-settled es i to e needed =
    let others = list_all-remove need es i needed in
    cond_both (is_spent e.1) (remove es i) (insert (remove es i) to e) (λ l. are_needed l ≡ true)
    (λ _. others) (λ left. list_all-insert need (remove es i) to e others (not-false (need e) left))

pub has_rows-push : (rows : List Row) (row : Row) → has_rows (rows ++ row ∷ []) ≡ true
has_rows-push [] row = refl
has_rows-push (first ∷ rows) row = refl

pub or_more : (a b k : Bool) → (a || b) ≡ true → (a || (b || k)) ≡ true
or_more true b k one = refl
or_more false true k one = refl
or_more false false k one = absurd (false≢true one)
