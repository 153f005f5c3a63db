-- Lists of rows: what rises, where a list starts, what a cut leaves of it and drops.
use Rattle.std.proofs.Common.{◌≡◌, ℕ, ◌+◌, ◌<◌, ◌≤◌, nat_lt, nat_le, Bool, true, false, cond, ◌&&◌, List, [], ◌∷◌, ◌++◌}
use Rattle.std.proofs.Common.{filter, count_by, All, Option, Some, find, refl, sym, ap, ◌∙◌, arith}
use Rattle.std.proofs.lemmas.Bool.{and_parts, and_from, cond-false, cond_both, lt-leb, lt-ltb, ltb-true, false≢true}
use Rattle.std.proofs.lemmas.List.Elements.{All-head, All-tail}
use Rattle.std.proofs.lemmas.List.Sums.{length-filter, sum_by-cons}
use Rattle.std.specs.List.{list_all}
use Rattle.std.specs.Option.{option_map_or}
use Rattle.mx_rows.specs.declared.row.Row.{Row}
use Rattle.mx_rows.specs.Rows.{above, are_in_range, counts_in, has_rows, is_rising, start_of, upto}

-- ---- tests of each element

pub list_all-filter : {X : Type 0} (p q : X → Bool) (xs : List X) → list_all q xs ≡ true
    → list_all q (filter p xs) ≡ true
list_all-filter p q [] all = refl
list_all-filter p q (x ∷ xs) all =
    let parts = and_parts (q x) (list_all q xs) all in
    let rest = list_all-filter p q xs parts.1 in
    cond_both (p x) (x ∷ filter p xs) (filter p xs) (λ l. list_all q l ≡ true) (λ _. and_from _ _ parts.0 rest)
    (λ _. rest)

pub list_all-push : {X : Type 0} (q : X → Bool) (xs : List X) (y : X) → list_all q xs ≡ true → q y ≡ true
    → list_all q (xs ++ y ∷ []) ≡ true
list_all-push q [] y all last = and_from _ _ last refl
list_all-push q (x ∷ xs) y all last =
    let parts = and_parts (q x) (list_all q xs) all in
    and_from _ _ parts.0 (list_all-push q xs y parts.1 last)

-- ---- rows that rise

pub is_rising-above : (n : ℕ) (rows : List Row) → is_rising rows ≡ true → is_rising (above n rows) ≡ true
is_rising-above n [] rising = refl
is_rising-above n (row ∷ rows) rising =
    let parts = and_parts (list_all (λ later. nat_lt row.position later.position) rows) (is_rising rows) rising in
    let rest = is_rising-above n rows parts.1 in
    cond_both (nat_lt n row.position) (row ∷ above n rows) (above n rows) (λ l. is_rising l ≡ true)
    (λ _. and_from _ _ (list_all-filter _ _ rows parts.0) rest) (λ _. rest)

pub is_rising-push : (rows : List Row) (row : Row) → All (λ (before : Row). before.position < row.position) rows
    → is_rising rows ≡ true → is_rising (rows ++ row ∷ []) ≡ true
is_rising-push [] row below rising = refl
is_rising-push (first ∷ rows) row below rising =
    let parts = and_parts (list_all (λ later. nat_lt first.position later.position) rows) (is_rising rows) rising in
    let last : nat_lt first.position row.position ≡ true
    = lt-ltb _ _ (All-head (λ (before : Row). before.position < row.position) first rows below) in
    and_from _ _ (list_all-push _ rows row parts.0 last)
    (is_rising-push rows row
    (All-tail (λ (before : Row). before.position < row.position) first rows below) parts.1)

-- ---- where a list starts

found_start : (row : Row) (rows : List Row) (found : Option Row) (b : Bool)
    → start_of rows ≡ option_map_or (λ row. row.position) found 18446744073709551616
    → start_of (cond b (row ∷ rows) rows) ≡ option_map_or (λ row. row.position)
    (cond b (Some row) found) 18446744073709551616
found_start row rows found true is = refl
found_start row rows found false is = is

pub start_of-above : (n : ℕ) (rows : List Row)
    → start_of (above n rows) ≡ option_map_or (λ row. row.position)
    (find (λ row. nat_lt n row.position) rows) 18446744073709551616
start_of-above n [] = refl
start_of-above n (row ∷ rows) = found_start row _ _ (nat_lt n row.position) (start_of-above n rows)

-- ---- counts

counted : {X : Type 0} (p q : X → Bool) (x : X) (xs : List X) (n : ℕ) (b : Bool) → count_by q xs ≡ n
    → count_by q (cond b (x ∷ xs) xs) ≡ cond (b && q x) 1 0 + n
counted p q x xs n true is = sum_by-cons _ x xs ∙ ap (λ m. cond (q x) 1 0 + m) is
counted p q x xs n false is = is ∙ omega arith

pub count_by-filter : {X : Type 0} (p q : X → Bool) (xs : List X)
    → count_by q (filter p xs) ≡ count_by (λ x. p x && q x) xs
count_by-filter p q [] = refl
count_by-filter p q (x ∷ xs) = counted p q x (filter p xs) _ (p x) (count_by-filter p q xs) ∙ sym (sum_by-cons _ x xs)

pub counts_in-upto : (n : ℕ) (rows : List Row)
    → counts_in (upto n rows)
    ≡ record {
      notify = count_by (λ row. nat_le row.position n) rows;
      highlight = count_by
          (λ row. nat_le row.position n && row.highlight) rows;
    }
counts_in-upto n rows =
    let notify = length-filter (λ (row : Row). nat_le row.position n) rows in
    let highlight = count_by-filter (λ (row : Row). nat_le row.position n) (λ row. row.highlight) rows in
    λ i. record { notify = notify i; highlight = highlight i }

-- a cut leaves nothing to cut
pub upto-above : (n : ℕ) (rows : List Row) → upto n (above n rows) ≡ []
upto-above n [] = refl
upto-above n (row ∷ rows) =
    let rest = upto-above n rows in
    cond_both (nat_lt n row.position) (row ∷ above n rows) (above n rows) (λ l. upto n l ≡ [])
    (λ over. cond-false _ _ _ (lt-leb _ _ (ltb-true _ _ over)) ∙ rest) (λ _. rest)

-- ---- a row more

pub start_of-push : (rows : List Row) (row : Row) → has_rows rows ≡ true → start_of (rows ++ row ∷ []) ≡ start_of rows
start_of-push [] row some = absurd (false≢true some)
start_of-push (first ∷ rows) row some = refl

pub start_of-le : (rows : List Row) → are_in_range rows ≡ true → start_of rows ≤ 18446744073709551616
start_of-le [] small = omega arith
start_of-le (row ∷ rows) small = let first =
    ltb-true _ _ (and_parts (nat_lt row.position 18446744073709551616) (are_in_range rows) small).0 in omega arith
