-- Marks of rows: a bit that is set, and the others.
use Rattle.std.proofs.Common.{◌≡◌, ◌≢◌, ℕ, ◌*◌, ◌/◌, ◌%◌, ◌^◌, ◌<◌, max, nat_eq, true, false, List, length, get_or, set}
use Rattle.std.proofs.Common.{replicate, bit_or, sym, ap, ◌∙◌, ⊎_elim, arith}
use Rattle.std.proofs.lemmas.Bool.{cases_eq, cases_lt}
use Rattle.std.proofs.lemmas.List.{length-replicate, get_or_past, get_or-replicate, get_or-set_other, get_or-set_same}
use Rattle.std.proofs.lemmas.Nat.Bits.{bit_at-lt, bit_at_or, bit_at-pow_other, bit_at-pow_same, bit_at-zero}
use Rattle.std.proofs.Math.Pow.{pow-lt}
use Rattle.std.specs.Int.{bit_at}
use Rattle.mx_blocks.specs.Block.{mark_at}

pub mark_at-zeros : (n k : ℕ) → mark_at (replicate n 0) k ≡ false
unfolding mark_at
mark_at-zeros n k =
    ap (λ byte. nat_eq (bit_at byte (k % 8)) 1)
    (⊎_elim (λ within. get_or-replicate n (k / 8) 0 0 within)
    (λ past. get_or_past (replicate n 0) (k / 8) 0 (omega (arith, length-replicate {A = ℕ} n 0))) (cases_lt (k / 8) n))
    ∙ ap (λ bit. nat_eq bit 1) (bit_at-zero (k % 8))

-- a bit of a byte fits the byte
pub one_bit : (row : ℕ) → 1 * 2 ^ (row % 8) % 256 ≡ 2 ^ (row % 8)
one_bit row =
    let below : 2 ^ (row % 8) < 2 ^ 8 = pow-lt {i = row % 8} {j = 8} (omega arith) in
    omega arith

pub mark_here : (marks : List ℕ) (row : ℕ) → row / 8 < length marks
    → mark_at (set marks (row / 8) (bit_or (get_or marks (row / 8) 0) (1 * 2 ^ (row % 8) % 256))) row ≡ true
unfolding mark_at
mark_here marks row within =
    let byte = get_or marks (row / 8) 0 in
    let one : bit_at (bit_or byte (1 * 2 ^ (row % 8) % 256)) (row % 8) ≡ 1
    = ap (λ n. bit_at (bit_or byte n) (row % 8)) (one_bit row)
    ∙ bit_at_or byte (2 ^ (row % 8)) (row % 8)
    ∙ ap (max (bit_at byte (row % 8))) (bit_at-pow_same (row % 8))
    ∙ omega (arith, bit_at-lt byte (row % 8)) in
    ap (λ b. nat_eq (bit_at b (row % 8)) 1) (get_or-set_same marks (row / 8) _ 0 within) ∙ ap (λ bit. nat_eq bit 1) one

pub mark_other : (marks : List ℕ) (row k : ℕ) → row / 8 < length marks → k ≢ row
    → mark_at (set marks (row / 8) (bit_or (get_or marks (row / 8) 0) (1 * 2 ^ (row % 8) % 256))) k ≡ mark_at marks k
unfolding mark_at
mark_other marks row k within other =
    ⊎_elim beside apart (cases_eq (k / 8) (row / 8))
  where
    apart : k / 8 ≢ row / 8
        → nat_eq (bit_at
        (get_or (set marks (row / 8) (bit_or (get_or marks (row / 8) 0) (1 * 2 ^ (row % 8) % 256))) (k / 8) 0)
        (k % 8)) 1
        ≡ nat_eq (bit_at (get_or marks (k / 8) 0) (k % 8)) 1
    apart differ = ap (λ b. nat_eq (bit_at b (k % 8)) 1) (get_or-set_other marks (row / 8) (k / 8) _ 0 differ)

    beside : k / 8 ≡ row / 8
        → nat_eq (bit_at
        (get_or (set marks (row / 8) (bit_or (get_or marks (row / 8) 0) (1 * 2 ^ (row % 8) % 256))) (k / 8) 0)
        (k % 8)) 1
        ≡ nat_eq (bit_at (get_or marks (k / 8) 0) (k % 8)) 1
    beside same =
        let byte = get_or marks (row / 8) 0 in
        let bit : bit_at (bit_or byte (1 * 2 ^ (row % 8) % 256)) (k % 8) ≡ bit_at byte (k % 8)
        = ap (λ n. bit_at (bit_or byte n) (k % 8)) (one_bit row)
        ∙ bit_at_or byte (2 ^ (row % 8)) (k % 8)
        ∙ ap (max (bit_at byte (k % 8))) (bit_at-pow_other (row % 8) (k % 8) (omega arith))
        ∙ omega arith in
        ap (λ i. nat_eq
        (bit_at (get_or (set marks (row / 8) (bit_or byte (1 * 2 ^ (row % 8) % 256))) i 0) (k % 8)) 1) same
        ∙ ap (λ b. nat_eq (bit_at b (k % 8)) 1) (get_or-set_same marks (row / 8) _ 0 within)
        ∙ ap (λ n. nat_eq n 1) bit
        ∙ ap (λ i. nat_eq (bit_at (get_or marks i 0) (k % 8)) 1) (sym same)
