-- That the digits of a size line fit.
use Rattle.std.proofs.Common.{ℕ, ◌+◌, ◌*◌, ◌^◌, ◌<◌, ◌≤◌, arith}
use Rattle.std.proofs.Math.Nat.{pow-le-pow_right}

-- Fewer than eight digits and one more fit 32 bits.
pub digits_fit : (count value digit : ℕ) → count < 8 → value < 16 ^ count → digit < 16 → 16 * value + digit < 2 ^ 32
digits_fit count value digit few fits small =
    let most : 16 ^ count ≤ 16 ^ 7 = pow-le-pow_right {n = 16} (omega arith) {i = count} {j = 7} (omega arith) in
    omega arith
