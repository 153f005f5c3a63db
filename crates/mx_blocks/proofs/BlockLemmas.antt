-- Rows of a block: what a cut leaves of them and drops, and what packing makes of rows.
use Rattle.std.proofs.Common.{◌≡◌, ℕ, zero, suc, ◌+◌, ◌-◌, ◌^◌, ◌<◌, ◌≤◌, ◌⊎◌, inl, inr, nat_lt, nat_le, Bool, true}
use Rattle.std.proofs.Common.{cond, List, [], ◌∷◌, ◌++◌, length, drop, count_by, length-drop, refl, sym, ap, ◌∙◌}
use Rattle.std.proofs.Common.{⊎_elim, arith}
use Rattle.std.proofs.lemmas.Bool.{and_parts, and_from, cond-true, cond-false, cases_lt, le-leb, lt-leb, lt-ltb, le-ltb}
use Rattle.std.proofs.lemmas.Bool.{leb-true}
use Rattle.std.proofs.lemmas.List.{append-nil, drop-append-le}
use Rattle.std.proofs.Math.Seq.{drop-nil}
use Rattle.std.proofs.lemmas.List.Elements.{filter-append}
use Rattle.std.proofs.lemmas.List.Sums.{sum_by-cons}
use Rattle.std.specs.List.{list_all, range_with_len}
use Rattle.mx_rows.specs.declared.row.Row.{Row}
use Rattle.mx_rows.specs.Rows.{above, counts_in, start_of, upto}
use Rattle.mx_rows.proofs.CutLemmas.{above-all, upto-none}
use Rattle.mx_blocks.specs.Block.{mark_at, rows_from}
use Rattle.mx_blocks.specs.Differences.{differences, IsFirstBelow, IsPacked, positions, total}
use Rattle.mx_blocks.specs.Walk.{first_or_end, IsSplit}

-- ---- positions

pub positions_above : (x p : ℕ) (ds : List ℕ) → x < p → list_all (λ q. nat_lt x q) (positions p ds) ≡ true
positions_above x p [] over = and_from _ _ (lt-ltb x p over) refl
positions_above x p (d ∷ ds) over = and_from _ _ (lt-ltb x p over) (positions_above x (p + d) ds (omega arith))

pub positions_upto : (x p : ℕ) (ds : List ℕ) → p + total ds ≤ x → list_all (λ q. nat_le q x) (positions p ds) ≡ true
positions_upto x p [] under = and_from _ _ (le-leb p x (omega arith)) refl
positions_upto x p (d ∷ ds) under =
    and_from _ _ (le-leb p x (omega arith)) (positions_upto x (p + d) ds (omega arith))

pub first_positions : (p : ℕ) (ds : List ℕ) → first_or_end (positions p ds) ≡ p
first_positions p [] = refl
first_positions p (d ∷ ds) = refl

-- what is left of positions without some at the front goes on to the same last one
pub drop-positions : (n p : ℕ) (ds : List ℕ)
    → (drop n (positions p ds) ≡ []) ⊎ ((q : ℕ) × (es : List ℕ) × (drop n (positions p ds) ≡ positions q es)
    × (q + total es ≡ p + total ds))
drop-positions zero p ds = inr (p, ds, refl, refl)
drop-positions (suc n) p [] = inl (drop-nil n)
drop-positions (suc n) p (d ∷ ds) =
    ⊎_elim (λ none. inl none) (λ some. inr (some.0, some.1, some.2, omega (arith, some.3)))
    (drop-positions n (p + d) ds)

pub positions-push : (p d : ℕ) (ds : List ℕ) → positions p (ds ++ d ∷ []) ≡ positions p ds ++ (p + total ds + d) ∷ []
positions-push p d [] = ap (λ n. p ∷ n ∷ []) (omega arith)
positions-push p d (e ∷ ds) =
    ap (λ l. p ∷ l) (positions-push (p + e) d ds) ∙ ap (λ n. p ∷ positions (p + e) ds ++ n ∷ []) (omega arith)

pub total-push : (d : ℕ) (ds : List ℕ) → total (ds ++ d ∷ []) ≡ total ds + d
total-push d [] = omega arith
total-push d (e ∷ ds) = omega (arith, total-push d ds)

-- ---- rows

module _ (m : List ℕ) where
  pub rows_from-append : (k : ℕ) (xs ys : List ℕ)
      → rows_from m k (xs ++ ys) ≡ rows_from m k xs ++ rows_from m (k + length xs) ys
  rows_from-append k [] ys = ap (λ n. rows_from m n ys) (omega arith)
  rows_from-append k (x ∷ xs) ys =
      ap (λ l. record { position = x; highlight = mark_at m k } ∷ l)
      (rows_from-append (k + 1) xs ys
      ∙ ap (λ n. rows_from m (k + 1) xs ++ rows_from m n ys) (omega arith))

  pub length-rows_from : (k : ℕ) (ps : List ℕ) → length (rows_from m k ps) ≡ length ps
  length-rows_from k [] = refl
  length-rows_from k (p ∷ ps) = ap suc (length-rows_from (k + 1) ps)

  pub all-rows_from : (q : ℕ → Bool) (k : ℕ) (ps : List ℕ) → list_all q ps ≡ true
      → list_all (λ (row : Row). q row.position) (rows_from m k ps) ≡ true
  all-rows_from q k [] all = refl
  all-rows_from q k (p ∷ ps) all =
      let parts = and_parts (q p) (list_all q ps) all in
      and_from _ _ parts.0 (all-rows_from q (k + 1) ps parts.1)

  pub counts-rows_from : (k : ℕ) (ps : List ℕ)
      → count_by (λ (row : Row). row.highlight) (rows_from m k ps) ≡ count_by (mark_at m) (range_with_len k (length ps))
  counts-rows_from k [] = refl
  counts-rows_from k (p ∷ ps) =
      let row : Row = record { position = p; highlight = mark_at m k } in
      sum_by-cons _ row (rows_from m (k + 1) ps) ∙ ap (λ n. cond (mark_at m k) 1 0 + n) (counts-rows_from (k + 1) ps)
      ∙ sym (sum_by-cons _ k (range_with_len (k + 1) (length ps)))

pub above-none : (x : ℕ) (rows : List Row) → list_all (λ row. nat_le row.position x) rows ≡ true → above x rows ≡ []
above-none x [] all = refl
above-none x (row ∷ rows) all =
    let parts = and_parts (nat_le row.position x) (list_all (λ row. nat_le row.position x) rows) all in
    cond-false _ _ _ (le-ltb x row.position (leb-true _ _ parts.0)) ∙ above-none x rows parts.1

pub upto-all : (x : ℕ) (rows : List Row) → list_all (λ row. nat_le row.position x) rows ≡ true → upto x rows ≡ rows
upto-all x [] all = refl
upto-all x (row ∷ rows) all =
    let parts = and_parts (nat_le row.position x) (list_all (λ row. nat_le row.position x) rows) all in
    cond-true _ _ _ parts.0 ∙ ap (λ l. row ∷ l) (upto-all x rows parts.1)

-- ---- a cut of a block

list_all-drop : (q : ℕ → Bool) (n : ℕ) (ps : List ℕ) → list_all q ps ≡ true → list_all q (drop n ps) ≡ true
list_all-drop q zero ps all = all
list_all-drop q (suc n) [] all = refl
list_all-drop q (suc n) (p ∷ ps) all = list_all-drop q n ps (and_parts (q p) (list_all q ps) all).1

drop-past : (n : ℕ) (xs ys : List ℕ) → length xs ≤ n → drop n (xs ++ ys) ≡ drop (n - length xs) ys
drop-past n [] ys past = ap (λ k. drop k ys) (omega arith)
drop-past zero (x ∷ xs) ys past = absurd (omega arith)
drop-past (suc n) (x ∷ xs) ys past =
    drop-past n xs ys (omega arith) ∙ ap (λ k. drop k ys) (omega arith)

-- where no more rows are at or below the position than are gone, it drops none
module _ (m : List ℕ) (x passed next gone : ℕ) (ps : List ℕ) (split : IsSplit x passed next ps) where
  left_over : passed ≤ gone
      → list_all (λ (row : Row). nat_lt x row.position) (rows_from m gone (drop gone ps)) ≡ true
  left_over few =
      all-rows_from m (λ p. nat_lt x p) gone (drop gone ps)
      (ap (list_all (λ p. nat_lt x p))
      (ap (drop gone) split.parts ∙ drop-past gone split.done split.rest (omega (arith, split.count)))
      ∙ list_all-drop (λ p. nat_lt x p) (gone - length split.done) split.rest split.above)

  pub cut_none-rows : passed ≤ gone → rows_from m gone (drop gone ps) ≡ above x (rows_from m gone (drop gone ps))
  cut_none-rows few = sym (above-all x _ (left_over few))

  pub cut_none-dropped : passed ≤ gone → upto x (rows_from m gone (drop gone ps)) ≡ []
  cut_none-dropped few = upto-none x _ (left_over few)

  -- the rows that a cut drops, and those behind them
  dropped : List Row
  dropped = rows_from m gone (drop gone split.done)

  pub cut_rest : drop passed ps ≡ split.rest
  cut_rest =
      let none : passed - length split.done ≡ 0 = omega (arith, split.count) in
      ap (drop passed) split.parts ∙ drop-past passed split.done split.rest (omega (arith, split.count))
      ∙ ap (λ n. drop n split.rest) none

  pub cut_parts : gone ≤ passed
      → rows_from m gone (drop gone ps) ≡ rows_from m gone (drop gone split.done) ++ rows_from m passed (drop passed ps)
  cut_parts some =
      let to_passed : gone + length (drop gone split.done) ≡ passed
      = omega (arith, split.count, length-drop gone split.done) in
      ap (λ l. rows_from m gone (drop gone l)) split.parts
      ∙ ap (rows_from m gone) (drop-append-le gone split.done split.rest (omega (arith, split.count)))
      ∙ rows_from-append m gone (drop gone split.done) split.rest
      ∙ ap (λ n. rows_from m gone (drop gone split.done) ++ rows_from m n split.rest) to_passed
      ∙ ap (λ l. rows_from m gone (drop gone split.done) ++ rows_from m passed l) (sym cut_rest)

  under : list_all (λ (row : Row). nat_le row.position x) (rows_from m gone (drop gone split.done)) ≡ true
  under = all-rows_from m (λ p. nat_le p x) gone (drop gone split.done)
      (list_all-drop (λ p. nat_le p x) gone split.done split.upto)

  over : list_all (λ (row : Row). nat_lt x row.position) (rows_from m passed (drop passed ps)) ≡ true
  over = all-rows_from m (λ p. nat_lt x p) passed (drop passed ps)
      (ap (list_all (λ p. nat_lt x p)) cut_rest ∙ split.above)

  pub cut_rows : gone ≤ passed → above x (rows_from m gone (drop gone ps)) ≡ rows_from m passed (drop passed ps)
  cut_rows some =
      ap (above x) (cut_parts some) ∙ filter-append _ (rows_from m gone (drop gone split.done)) _
      ∙ ap (λ l. l ++ above x (rows_from m passed (drop passed ps))) (above-none x _ under)
      ∙ above-all x _ over

  pub cut_upto : gone ≤ passed → upto x (rows_from m gone (drop gone ps)) ≡ rows_from m gone (drop gone split.done)
  cut_upto some =
      ap (upto x) (cut_parts some) ∙ filter-append _ (rows_from m gone (drop gone split.done)) _
      ∙ ap (λ l. upto x (rows_from m gone (drop gone split.done)) ++ l) (upto-none x _ over)
      ∙ append-nil _ ∙ upto-all x _ under

  pub cut_counts : gone ≤ passed
      → counts_in (upto x (rows_from m gone (drop gone ps)))
      ≡ record { notify = passed - gone; highlight = count_by (mark_at m) (range_with_len gone (passed - gone)) }
  cut_counts some =
      let long : length (drop gone split.done) ≡ passed - gone
      = omega (arith, split.count, length-drop gone split.done) in
      ap counts_in (cut_upto some)
      ∙ (λ i. record {
        notify = (length-rows_from m gone (drop gone split.done) ∙ long) i;
        highlight = (counts-rows_from m gone (drop gone split.done)
            ∙ ap (λ n. count_by (mark_at m) (range_with_len gone n)) long) i;
      })

  pub cut_start : next ≡ start_of (rows_from m passed (drop passed ps))
  cut_start = split.begins ∙ by split.rest ∙ ap (λ l. start_of (rows_from m passed l)) (sym cut_rest)
    where
      by : (rest : List ℕ) → first_or_end rest ≡ start_of (rows_from m passed rest)
      by [] = refl
      by (p ∷ rest) = refl

-- counts of rows are those of what a cut drops and of what it leaves
pub counts-split : (x : ℕ) (rows : List Row)
    → (length rows ≡ length (upto x rows) + length (above x rows))
    × (count_by (λ (row : Row). row.highlight) rows ≡ count_by (λ (row : Row). row.highlight) (upto x rows)
    + count_by (λ (row : Row). row.highlight) (above x rows))
counts-split x [] = (refl, refl)
counts-split x (row ∷ rows) =
    let rest = counts-split x rows in
    let here = sum_by-cons (λ (row : Row). cond row.highlight 1 0) row rows in
    ⊎_elim (λ over. (
      omega (arith, rest.0, ap length (drops over), ap length (leaves over)),
      omega (
        arith,
        rest.1,
        here,
        ap (count_by (λ (row : Row). row.highlight)) (drops over),
        ap (count_by (λ (row : Row). row.highlight)) (leaves over),
        sum_by-cons (λ (row : Row). cond row.highlight 1 0) row (above x rows),
      ),
    ))
    (λ under. (
      omega (arith, rest.0, ap length (takes under), ap length (loses under)),
      omega (
        arith,
        rest.1,
        here,
        ap (count_by (λ (row : Row). row.highlight)) (takes under),
        ap (count_by (λ (row : Row). row.highlight)) (loses under),
        sum_by-cons (λ (row : Row). cond row.highlight 1 0) row (upto x rows),
      ),
    )) (cases_lt x row.position)
  where
    drops : x < row.position → upto x (row ∷ rows) ≡ upto x rows
    drops over = cond-false _ _ _ (lt-leb _ _ over)

    leaves : x < row.position → above x (row ∷ rows) ≡ row ∷ above x rows
    leaves over = cond-true _ _ _ (lt-ltb _ _ over)

    takes : row.position ≤ x → upto x (row ∷ rows) ≡ row ∷ upto x rows
    takes under = cond-true _ _ _ (le-leb _ _ under)

    loses : row.position ≤ x → above x (row ∷ rows) ≡ above x rows
    loses under = cond-false _ _ _ (le-ltb _ _ under)

-- ---- a walk

-- a walk passed some positions, and stands at one that it hasn't passed, before the rest of the bytes
pub record WalksOn (first : ℕ) (packed : List ℕ) (x last passed at : ℕ) : Type 0 where
  pub done : List ℕ
  pub parts : positions first (differences packed) ≡ done ++ positions last (differences (drop at packed))
  pub count : length done ≡ passed
  pub upto : list_all (λ p. nat_le p x) done ≡ true
  pub whole : IsPacked (drop at packed)
  pub behind : passed ≤ at
  pub within : at ≤ length packed
  pub small : last + total (differences (drop at packed)) < 2 ^ 64

pub IsFirstBelow-total : (p : ℕ) (ds : List ℕ) → p + total ds < 2 ^ 64 → IsFirstBelow (2 ^ 64) ds
IsFirstBelow-total p [] small = tt
IsFirstBelow-total p (d ∷ ds) small = omega arith

pub length-positions : (p : ℕ) (ds : List ℕ) → length (positions p ds) ≡ length ds + 1
length-positions p [] = refl
length-positions p (d ∷ ds) = omega (arith, length-positions (p + d) ds)
