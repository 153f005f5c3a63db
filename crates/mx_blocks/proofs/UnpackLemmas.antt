-- Unpacking: how far it has come, and that what it appends are the rows that aren't gone.
use Rattle.std.proofs.Common.{◌≡◌, ℕ, suc, ◌+◌, ◌-◌, ◌^◌, ◌<◌, ◌≤◌, nat_lt, Bool, true, false, cond, List, [], ◌∷◌}
use Rattle.std.proofs.Common.{◌++◌, length, drop, refl, sym, ap, ◌∙◌, ⊎_elim, arith}
use Rattle.std.proofs.Math.Seq.{drop-nil}
use Rattle.std.proofs.lemmas.Bool.{cases_lt, cond-false, cond-true, le-ltb, lt-ltb}
use Rattle.mx_rows.specs.declared.row.Row.{Row}
use Rattle.mx_blocks.specs.Block.{mark_at, rows_from}
use Rattle.mx_blocks.specs.Differences.{differences, IsPacked, positions, total}
use Rattle.mx_blocks.specs.Walk.{rows_left}

-- some rows are appended, and those from a place of the bytes on are still to come
pub record UnpacksOn (first : ℕ) (packed marks : List ℕ) (gone : ℕ) (old out : List Row)
    (position row at : ℕ) : Type 0 where
  pub done : List Row
  pub begins : out ≡ old ++ done
  pub parts : done ++ rows_left marks gone row (positions position (differences (drop at packed)))
      ≡ rows_left marks gone 0 (positions first (differences packed))
  pub whole : IsPacked (drop at packed)
  pub within : at ≤ length packed
  pub small : position + total (differences (drop at packed)) < 2 ^ 64
  pub few : row + length (differences (drop at packed)) ≤ 255

module _ (m : List ℕ) (g : ℕ) where
  pub rows_left-cons : (k p : ℕ) (ps : List ℕ)
      → rows_left m g k (p ∷ ps) ≡ rows_left m g k (p ∷ []) ++ rows_left m g (k + 1) ps
  rows_left-cons k p ps = by (nat_lt k g)
    where
      by : (b : Bool)
          → cond b (rows_left m g (k + 1) ps)
          (record { position = p; highlight = mark_at m k } ∷ rows_left m g (k + 1) ps)
          ≡ cond b [] (record { position = p; highlight = mark_at m k } ∷ []) ++ rows_left m g (k + 1) ps
      by true = refl
      by false = refl

  rows_left-all : (k : ℕ) (ps : List ℕ) → g ≤ k → rows_left m g k ps ≡ rows_from m k ps
  rows_left-all k [] past = refl
  rows_left-all k (p ∷ ps) past =
      cond-false (nat_lt k g) (rows_left m g (k + 1) ps)
      (record { position = p; highlight = mark_at m k } ∷ rows_left m g (k + 1) ps)
      (le-ltb k g past)
      ∙ ap (λ l. record { position = p; highlight = mark_at m k } ∷ l) (rows_left-all (k + 1) ps (omega arith))

  pub rows_left-from : (k : ℕ) (ps : List ℕ) → k ≤ g → rows_left m g k ps ≡ rows_from m g (drop (g - k) ps)
  rows_left-from k [] before = ap (rows_from m g) (sym (drop-nil (g - k)))
  rows_left-from k (p ∷ ps) before =
      ⊎_elim
      (λ lt. let less : g - k ≡ suc (g - (k + 1)) = omega arith in
      cond-true (nat_lt k g) (rows_left m g (k + 1) ps)
      (record { position = p; highlight = mark_at m k } ∷ rows_left m g (k + 1) ps)
      (lt-ltb k g lt)
      ∙ rows_left-from (k + 1) ps (omega arith) ∙ ap (λ n. rows_from m g (drop n (p ∷ ps))) (sym less))
      (λ ge. let same : k ≡ g = omega arith in let none : g - k ≡ 0 = omega arith in
      rows_left-all k (p ∷ ps) ge ∙ ap (λ n. rows_from m n (p ∷ ps)) same
      ∙ ap (λ n. rows_from m g (drop n (p ∷ ps))) (sym none))
      (cases_lt k g)
