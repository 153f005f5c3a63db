-- The rows of a thread: what a cut does to its blocks, one after another, and what packing leaves as it is.
use Rattle.std.proofs.Common.{◌≡◌, ℕ, ◌+◌, ◌<◌, ◌≤◌, nat_lt, nat_le, true, false, cond, List, [], ◌∷◌, ◌++◌, length}
use Rattle.std.proofs.Common.{drop, count_by, length-append, append_assoc, append-nil, refl, sym, ap, ◌∙◌, ⊎_elim}
use Rattle.std.proofs.Common.{arith}
use Rattle.std.proofs.lemmas.Bool.{and_parts, and_from, cond-true, cond-false, cond_both, cases_lt, le-ltb, lt-ltb}
use Rattle.std.proofs.lemmas.Bool.{ltb-true, leb-false, false≢true}
use Rattle.std.proofs.lemmas.List.Elements.{filter-append}
use Rattle.std.proofs.lemmas.List.Folds.{list_all-append}
use Rattle.std.proofs.lemmas.List.Sums.{count_by-le-length, length-filter, sum_by-append, sum_by-cons}
use Rattle.std.specs.List.{list_all}
use Rattle.mx_rows.specs.declared.counts.Counts.{Counts}
use Rattle.mx_rows.specs.declared.row.Row.{Row}
use Rattle.mx_rows.specs.Rows.{above, counts_in, has_rows, is_rising, upto}
use Rattle.mx_rows.proofs.CutLemmas.{above-all, upto-none}
use Rattle.mx_blocks.specs.Block.{block_rows, Kept, mark_at, packed_positions, packed_rows, rows_from}
use Rattle.mx_blocks.specs.Differences.{differences, positions, total}
use Rattle.mx_blocks.specs.Kept.{are_alive, first_ends_upto, last_of, rows_of_parts}
use Rattle.mx_blocks.proofs.BlockLemmas.{above-none, counts-split, all-rows_from, drop-positions, positions_upto}
use Rattle.mx_blocks.proofs.BlockLemmas.{upto-all}

-- ---- rows that rise, in two parts

-- the first part rises, and so does the second
pub rising_parts : (xs ys : List Row) → is_rising (xs ++ ys) ≡ true → (is_rising xs ≡ true) × (is_rising ys ≡ true)
rising_parts [] ys rising = (refl, rising)
rising_parts (x ∷ xs) ys rising =
    let parts = and_parts (list_all (λ later. nat_lt x.position later.position) (xs ++ ys))
    (is_rising (xs ++ ys)) rising in
    let rest = rising_parts xs ys parts.1 in
    let over = and_parts (list_all (λ (later : Row). nat_lt x.position later.position) xs)
    (list_all (λ later. nat_lt x.position later.position) ys)
    (sym (list_all-append (λ (later : Row). nat_lt x.position later.position) xs ys) ∙ parts.0) in
    (and_from _ _ over.0 rest.0, rest.1)

all_above_more : (p n : ℕ) (rows : List Row) → p < n → list_all (λ row. nat_lt n row.position) rows ≡ true
    → list_all (λ row. nat_lt p row.position) rows ≡ true
all_above_more p n [] below all = refl
all_above_more p n (row ∷ rows) below all =
    let parts = and_parts (nat_lt n row.position) (list_all (λ row. nat_lt n row.position) rows) all in
    let over = ltb-true _ _ parts.0 in
    and_from _ _ (lt-ltb p row.position (omega arith)) (all_above_more p n rows below parts.1)

-- where a row of the first part is above a position, the second part is
pub later_above : (p : ℕ) (xs ys : List Row) → is_rising (xs ++ ys) ≡ true → has_rows (above p xs) ≡ true
    → list_all (λ row. nat_lt p row.position) ys ≡ true
later_above p [] ys rising some = absurd (false≢true some)
later_above p (x ∷ xs) ys rising some =
    let parts = and_parts (list_all (λ later. nat_lt x.position later.position) (xs ++ ys))
    (is_rising (xs ++ ys)) rising in
    ⊎_elim (λ over. all_above_more p x.position ys over
    (and_parts (list_all (λ (later : Row). nat_lt x.position later.position) xs)
    (list_all (λ later. nat_lt x.position later.position) ys)
    (sym (list_all-append (λ (later : Row). nat_lt x.position later.position) xs ys) ∙ parts.0)).1)
    (λ under. later_above p xs ys parts.1
    (ap has_rows (sym (cond-false (nat_lt p x.position) (x ∷ above p xs) (above p xs) (le-ltb p x.position under)))
    ∙ some))
    (cases_lt p x.position)

-- ---- blocks

pub packed_rows-append : (xs ys : List Kept) → packed_rows (xs ++ ys) ≡ packed_rows xs ++ packed_rows ys
packed_rows-append [] ys = refl
packed_rows-append (x ∷ xs) ys =
    ap (λ l. block_rows x ++ l) (packed_rows-append xs ys)
    ∙ sym (append_assoc (block_rows x) (packed_rows xs) (packed_rows ys))

-- a block that ends at or below a position is there whole
pub whole_upto : (p : ℕ) (b : Kept) → last_of b ≤ p
    → list_all (λ (row : Row). nat_le row.position p) (block_rows b) ≡ true
whole_upto p b ends =
    all-rows_from b.highlights (λ q. nat_le q p) b.gone (drop b.gone (packed_positions b))
    (⊎_elim (λ none. ap (list_all (λ q. nat_le q p)) none)
    (λ some. ap (list_all (λ q. nat_le q p)) some.2 ∙ positions_upto p some.0 some.1 (omega (arith, some.3)))
    (drop-positions b.gone b.first (differences b.packed)))

some_above : (m : List ℕ) (p k q : ℕ) (es : List ℕ) → p < q + total es
    → has_rows (above p (rows_from m k (positions q es))) ≡ true
some_above m p k q [] over =
    ap has_rows
    (cond-true (nat_lt p q) (record { position = q; highlight = mark_at m k } ∷ []) [] (lt-ltb p q (omega arith)))
some_above m p k q (e ∷ es) over =
    let rest = some_above m p (k + 1) (q + e) es (omega arith) in
    cond_both (nat_lt p q)
    (record { position = q; highlight = mark_at m k } ∷ above p (rows_from m (k + 1) (positions (q + e) es)))
    (above p (rows_from m (k + 1) (positions (q + e) es))) (λ l. has_rows l ≡ true) (λ _. refl) (λ _. rest)

-- of a block that ends above a position something is left there, where it had something
pub left_above : (p : ℕ) (b : Kept) → p < last_of b → has_rows (block_rows b) ≡ true
    → has_rows (above p (block_rows b)) ≡ true
left_above p b over alive =
    ⊎_elim (λ none. absurd (false≢true (sym (ap (λ l. has_rows (rows_from b.highlights b.gone l)) none) ∙ alive)))
    (λ some. ap (λ l. has_rows (above p (rows_from b.highlights b.gone l))) some.2
    ∙ some_above b.highlights p b.gone some.0 some.1 (omega (arith, some.3)))
    (drop-positions b.gone b.first (differences b.packed))

-- ---- blocks that go whole

-- after some blocks went, what was dropped and what the rest still drops are what all drop
pub record DropsOn (p : ℕ) (old now : List Kept) (dropped : Counts) : Type 0 where
  pub rows : above p (packed_rows now) ≡ above p (packed_rows old)
  pub notify : dropped.notify + length (upto p (packed_rows now)) ≡ length (upto p (packed_rows old))
  pub highlight : dropped.highlight + count_by (λ row. row.highlight) (upto p (packed_rows now))
      ≡ count_by (λ row. row.highlight) (upto p (packed_rows old))
  pub rising : is_rising (packed_rows now) ≡ true
  pub alive : are_alive now ≡ true

-- one block more
module _ (p : ℕ) (b : Kept) (bs : List Kept) (ends : last_of b ≤ p) where
  pub whole-above : above p (packed_rows (b ∷ bs)) ≡ above p (packed_rows bs)
  whole-above =
      filter-append (λ (row : Row). nat_lt p row.position) (block_rows b) (packed_rows bs)
      ∙ ap (λ l. l ++ above p (packed_rows bs)) (above-none p (block_rows b) (whole_upto p b ends))

  whole-upto : upto p (packed_rows (b ∷ bs)) ≡ block_rows b ++ upto p (packed_rows bs)
  whole-upto =
      filter-append (λ (row : Row). nat_le row.position p) (block_rows b) (packed_rows bs)
      ∙ ap (λ l. l ++ upto p (packed_rows bs)) (upto-all p (block_rows b) (whole_upto p b ends))

  pub whole-notify : length (upto p (packed_rows (b ∷ bs))) ≡ length (block_rows b) + length (upto p (packed_rows bs))
  whole-notify = ap length whole-upto ∙ length-append (block_rows b) (upto p (packed_rows bs))

  pub whole-highlight : count_by (λ (row : Row). row.highlight) (upto p (packed_rows (b ∷ bs)))
      ≡ count_by (λ (row : Row). row.highlight) (block_rows b) + count_by (λ (row : Row). row.highlight)
      (upto p (packed_rows bs))
  whole-highlight =
      ap (count_by (λ (row : Row). row.highlight)) whole-upto
      ∙ sum_by-append (λ (row : Row). cond row.highlight 1 0) (block_rows b) (upto p (packed_rows bs))

pub DropsOn-more : (p : ℕ) (old : List Kept) (b : Kept) (bs : List Kept) (dropped sums more : Counts)
    → DropsOn p old (b ∷ bs) dropped → last_of b ≤ p → sums ≡ counts_in (block_rows b)
    → more.notify ≡ dropped.notify + sums.notify → more.highlight ≡ dropped.highlight + sums.highlight
    → DropsOn p old bs more
DropsOn-more p old b bs dropped sums more before ends is notify highlight =
    record {
      rows = sym (whole-above p b bs ends) ∙ before.rows;
      notify = omega (arith, before.notify, whole-notify p b bs ends, ap (λ (n : Counts). n.notify) is);
      highlight = omega (arith, before.highlight, whole-highlight p b bs ends, ap (λ (n : Counts). n.highlight) is);
      rising = (rising_parts (block_rows b) (packed_rows bs) before.rising).1;
      alive = (and_parts (has_rows (block_rows b)) (are_alive bs) before.alive).1;
    }

-- what a cut drops is no more than there is
pub upto_fits : (p : ℕ) (rows : List Row) → (length (upto p rows) ≤ length rows)
    × (count_by (λ (row : Row). row.highlight) (upto p rows) ≤ length rows)
upto_fits p rows =
    let some : length (upto p rows) ≤ length rows = omega (
      arith,
      length-filter (λ (row : Row). nat_le row.position p) rows,
      count_by-le-length (λ (row : Row). nat_le row.position p) rows,
    ) in
    (some, omega (arith, some, count_by-le-length (λ (row : Row). row.highlight) (upto p rows)))

-- what one block more drops is no more than all drop
pub DropsOn-fits : (p : ℕ) (old : List Kept) (b : Kept) (bs : List Kept) (dropped sums : Counts)
    → DropsOn p old (b ∷ bs) dropped → last_of b ≤ p → sums ≡ counts_in (block_rows b)
    → (dropped.notify + sums.notify ≤ length (packed_rows old)) ×
    (dropped.highlight + sums.highlight ≤ length (packed_rows old))
DropsOn-fits p old b bs dropped sums before ends is =
    let upto_all = upto_fits p (packed_rows old) in (
      omega (arith, before.notify, whole-notify p b bs ends, ap (λ (n : Counts). n.notify) is, upto_all.0),
      omega (arith, before.highlight, whole-highlight p b bs ends, ap (λ (n : Counts). n.highlight) is, upto_all.1),
    )

-- ---- the first block that is left

module _ (p : ℕ) (b b' : Kept) (bs : List Kept) (rising : is_rising (packed_rows (b ∷ bs)) ≡ true)
    (alive : are_alive (b ∷ bs) ≡ true) (over : first_ends_upto p (b ∷ bs) ≡ false)
    (cut : block_rows b' ≡ above p (block_rows b)) where
  left : has_rows (above p (block_rows b)) ≡ true
  left = left_above p b (leb-false _ _ over) (and_parts (has_rows (block_rows b)) (are_alive bs) alive).0

  others : list_all (λ (row : Row). nat_lt p row.position) (packed_rows bs) ≡ true
  others = later_above p (block_rows b) (packed_rows bs) rising left

  pub first-rows : packed_rows (b' ∷ bs) ≡ above p (packed_rows (b ∷ bs))
  first-rows =
      (λ i. cut i ++ sym (above-all p (packed_rows bs) others) i)
      ∙ sym (filter-append (λ (row : Row). nat_lt p row.position) (block_rows b) (packed_rows bs))

  pub first-upto : upto p (block_rows b) ≡ upto p (packed_rows (b ∷ bs))
  first-upto =
      sym (append-nil _) ∙ ap (λ l. upto p (block_rows b) ++ l) (sym (upto-none p (packed_rows bs) others))
      ∙ sym (filter-append (λ (row : Row). nat_le row.position p) (block_rows b) (packed_rows bs))

  pub first-alive : are_alive (b' ∷ bs) ≡ true
  first-alive =
      and_from _ _ (ap has_rows cut ∙ left) (and_parts (has_rows (block_rows b)) (are_alive bs) alive).1

-- ---- blocks and hot rows together

-- what a cut drops of two parts, and what it leaves of both
module _ (p : ℕ) (xs ys : List Row) where
  pub both-notify : length (upto p xs) + length (upto p ys) + length (above p (xs ++ ys)) ≡ length (xs ++ ys)
  both-notify =
      omega (
        arith,
        (counts-split p (xs ++ ys)).0,
        length-append (upto p xs) (upto p ys),
        ap length (filter-append (λ (row : Row). nat_le row.position p) xs ys),
      )

  pub both-highlight : count_by (λ (row : Row). row.highlight) (upto p xs) + count_by (λ (row : Row). row.highlight)
      (upto p ys)
      + count_by (λ (row : Row). row.highlight) (above p (xs ++ ys))
      ≡ count_by (λ (row : Row). row.highlight) (xs ++ ys)
  both-highlight =
      omega (
        arith,
        (counts-split p (xs ++ ys)).1,
        sum_by-append (λ (row : Row). cond row.highlight 1 0) (upto p xs) (upto p ys),
        ap (count_by (λ (row : Row). row.highlight)) (filter-append (λ (row : Row). nat_le row.position p) xs ys),
      )

-- the counts of one row more
pub counts-push : (rows : List Row) (row : Row) (new old : Counts) → old ≡ counts_in rows
    → new.notify ≡ old.notify + 1 → new.highlight ≡ old.highlight + cond row.highlight 1 0
    → new ≡ counts_in (rows ++ row ∷ [])
counts-push rows row new old is notify highlight =
    let long : new.notify ≡ length (rows ++ row ∷ [])
    = omega (arith, ap (λ (n : Counts). n.notify) is, length-append rows (row ∷ [])) in
    let marked : new.highlight ≡ count_by (λ (r : Row). r.highlight) (rows ++ row ∷ [])
    = omega (
      arith,
      ap (λ (n : Counts). n.highlight) is,
      sum_by-append (λ (r : Row). cond r.highlight 1 0) rows (row ∷ []),
      sum_by-cons (λ (r : Row). cond r.highlight 1 0) row [],
    ) in
    λ i. record { notify = long i; highlight = marked i }

-- packing the first hot rows leaves the rows as they are
pub packed_same : (blocks : List Kept) (hot first rest : List Row) (b : Kept) → first ++ rest ≡ hot → block_rows b
    ≡ first
    → rows_of_parts (blocks ++ b ∷ []) rest ≡ rows_of_parts blocks hot
packed_same blocks hot first rest b parts is =
    ap (λ l. l ++ rest) (packed_rows-append blocks (b ∷ []))
    ∙ ap (λ l. (packed_rows blocks ++ l) ++ rest) (append-nil (block_rows b) ∙ is)
    ∙ append_assoc (packed_rows blocks) first rest ∙ ap (λ l. packed_rows blocks ++ l) parts

pub are_alive-push : (blocks : List Kept) (b : Kept) → are_alive blocks ≡ true → has_rows (block_rows b) ≡ true
    → are_alive (blocks ++ b ∷ []) ≡ true
are_alive-push [] b alive some = and_from _ _ some refl
are_alive-push (x ∷ blocks) b alive some =
    let parts = and_parts (has_rows (block_rows x)) (are_alive blocks) alive in
    and_from _ _ parts.0 (are_alive-push blocks b parts.1 some)

pub has_rows-long : (rows : List Row) → 0 < length rows → has_rows rows ≡ true
has_rows-long [] some = absurd (omega arith)
has_rows-long (row ∷ rows) some = refl
