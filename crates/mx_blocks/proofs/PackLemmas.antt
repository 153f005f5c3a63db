-- Packing: how far it has come, and that the rows of a new block are those that were packed.
use Rattle.std.proofs.Common.{◌≡◌, ℕ, zero, suc, ◌+◌, ◌-◌, ◌<◌, ◌≤◌, nat_lt, true, false, List, [], ◌∷◌, ◌++◌, length}
use Rattle.std.proofs.Common.{get_or, map, take, refl, sym, ap, ◌∙◌, subst, arith}
use Rattle.std.proofs.lemmas.Bool.{and_parts, ltb-true}
use Rattle.std.proofs.lemmas.List.{get_or_default, map-append, take_more}
use Rattle.std.specs.List.{list_all}
use Rattle.mx_rows.specs.declared.row.Row.{Row}
use Rattle.mx_rows.specs.Rows.{is_rising, start_of}
use Rattle.mx_blocks.specs.Block.{mark_at, rows_from}
use Rattle.mx_blocks.specs.Differences.{differences, IsPacked, positions, total}
use Rattle.mx_blocks.proofs.BlockLemmas.{positions-push, total-push}

-- the rows before the k-th are marked as they are highlighted, and the others aren't
pub record MarksOn (rows : List Row) (marks : List ℕ) (k : ℕ) : Type 0 where
  pub done : (j : ℕ) (d : Row) → j < k → mark_at marks j ≡ (get_or rows j d).highlight
  pub rest : (j : ℕ) → k ≤ j → mark_at marks j ≡ false

-- the differences of the first rows are packed
pub record PacksOn (rows : List Row) (packed : List ℕ) (i : ℕ) : Type 0 where
  pub whole : IsPacked packed
  pub reads : (d : Row) → positions (get_or rows 0 d).position (differences packed)
      ≡ map (λ row. row.position) (take i rows)
  pub last : (d : Row) → (get_or rows 0 d).position + total (differences packed) ≡ (get_or rows (i - 1) d).position

-- a row that rises stands above the one before it
pub rising_at : (rows : List Row) (i : ℕ) (d : Row) → is_rising rows ≡ true → suc i < length rows
    → (get_or rows i d).position < (get_or rows (suc i) d).position
rising_at [] i d rising within = absurd (omega arith)
rising_at (row ∷ []) i d rising within = absurd (omega arith)
rising_at (row ∷ next ∷ rows) zero d rising within =
    let parts = and_parts (list_all (λ later. nat_lt row.position later.position) (next ∷ rows))
    (is_rising (next ∷ rows)) rising in
    ltb-true _ _
    (and_parts (nat_lt row.position next.position)
    (list_all (λ later. nat_lt row.position later.position) rows) parts.0).0
rising_at (row ∷ next ∷ rows) (suc i) d rising within =
    let parts = and_parts (list_all (λ later. nat_lt row.position later.position) (next ∷ rows))
    (is_rising (next ∷ rows)) rising in
    rising_at (next ∷ rows) i d parts.1 (omega arith)

-- rows are those at their positions, where the marks are their highlights
pub rows_same : (marks : List ℕ) (k : ℕ) (rows : List Row)
    → ((j : ℕ) (d : Row) → j < length rows → mark_at marks (k + j) ≡ (get_or rows j d).highlight)
    → rows_from marks k (map (λ row. row.position) rows) ≡ rows
rows_same marks k [] says = refl
rows_same marks k (row ∷ rows) says =
    let here : mark_at marks k ≡ row.highlight = ap (mark_at marks) (omega arith) ∙ says 0 row (omega arith) in
    let rest = rows_same marks (k + 1) rows
    (λ j d within. ap (mark_at marks) (omega arith) ∙ says (suc j) d (omega arith)) in
    λ i. record { position = row.position; highlight = here i } ∷ rest i

-- the same, told of the later one
pub rising_before : (rows : List Row) (i : ℕ) (d : Row) → is_rising rows ≡ true → 0 < i → i < length rows
    → (get_or rows (i - 1) d).position < (get_or rows i d).position
rising_before rows i d rising some within =
    let later : suc (i - 1) ≡ i = omega arith in
    subst (λ k. (get_or rows (i - 1) d).position < (get_or rows k d).position) later
    (rising_at rows (i - 1) d rising (omega arith))

pub PacksOn-first : (rows : List Row) (packed : List ℕ) → 0 < length rows → packed ≡ [] → PacksOn rows packed 1
unfolding differences IsPacked
PacksOn-first [] packed some none = absurd (omega arith)
PacksOn-first (row ∷ rows) packed some none = record {
  whole = subst IsPacked (sym none) tt;
  reads = λ d. ap (λ l. positions row.position (differences l)) none;
  last = λ d. ap (λ l. row.position + total (differences l)) none ∙ omega arith;
}

pub PacksOn-more : (rows : List Row) (packed new : List ℕ) (i : ℕ) (d : Row) → PacksOn rows packed i
    → is_rising rows ≡ true → 0 < i → i < length rows → IsPacked new
    → differences new ≡ differences packed ++ ((get_or rows i d).position - (get_or rows (i - 1) d).position) ∷ []
    → PacksOn rows new (i + 1)
PacksOn-more rows packed new i d before rising some within whole reads =
    let step : ℕ = (get_or rows i d).position - (get_or rows (i - 1) d).position in
    let over = rising_before rows i d rising some within in
    let first : (e : Row) → get_or rows 0 e ≡ get_or rows 0 d = λ e. get_or_default rows 0 e d (omega arith) in
    let here : (e : Row) → get_or rows i e ≡ get_or rows i d = λ e. get_or_default rows i e d within in
    let sum : (get_or rows 0 d).position + total (differences packed) + step ≡ (get_or rows i d).position
    = omega (arith, before.last d) in
    let read : positions (get_or rows 0 d).position (differences new) ≡ map (λ row. row.position) (take (i + 1) rows)
    = ap (positions (get_or rows 0 d).position) reads
    ∙ positions-push (get_or rows 0 d).position step (differences packed)
    ∙ (λ j. before.reads d j ++ sum j ∷ [])
    ∙ sym (map-append (λ (row : Row). row.position) (take i rows) (get_or rows i d ∷ []))
    ∙ ap (map (λ (row : Row). row.position)) (sym (take_more rows i d within)) in
    let last : (get_or rows 0 d).position + total (differences new) ≡ (get_or rows i d).position
    = omega (arith, ap total reads, total-push step (differences packed), sum) in
    let same : i + 1 - 1 ≡ i = omega arith in
    record {
      whole = whole;
      reads = λ e. ap (λ (row : Row). positions row.position (differences new)) (first e) ∙ read;
      last = λ e. ap (λ (row : Row). row.position + total (differences new)) (first e) ∙ last
          ∙ ap (λ (row : Row). row.position) (sym (here e)) ∙ ap (λ k. (get_or rows k e).position) (sym same);
    }

pub start_at_first : (rows : List Row) (d : Row) → 0 < length rows → (get_or rows 0 d).position ≡ start_of rows
start_at_first [] d some = absurd (omega arith)
start_at_first (row ∷ rows) d some = refl
