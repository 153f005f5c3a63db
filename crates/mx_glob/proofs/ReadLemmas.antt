-- Bounds on the reads of a search: m is a segment's length, p a pattern's, v the text's.
use Rattle.std.proofs.Common.{◌≡◌, ℕ, suc, ◌+◌, ◌-◌, ◌*◌, ◌≤◌, min, inl, inr, ap, arith}
use Rattle.std.proofs.lemmas.Bool.{cases_lt}
use Rattle.std.proofs.Math.Nat.{mul-le-mul_right}

-- from one place to another by way of a third
through : (a b c : ℕ) → a ≤ b → b ≤ c → c - a ≡ (b - a) + (c - b)
through a b c ab bc = omega arith

-- the reads of the last segment of a pattern of the length p
pub rest_tried : (m p v from reached : ℕ) → m ≤ p → from ≤ reached → reached ≤ v
    → (m + 1) * (v - reached) + (p + 1) * (reached - from) ≤ (p + 1) * (v - from)
rest_tried m p v from reached below a b =
    let e = ap (λ t. p * t) (through from reached v a b) in
    let less : (m + 1) * (v - reached) ≤ (p + 1) * (v - reached) = mul-le-mul_right (v - reached) (omega arith) in
    omega arith

-- the reads of a word match: those up to the first star, and those after it
pub starred_word : (m r v place : ℕ) → 1 ≤ m → place + m ≤ v
    → (m + 1) * (place + m) + 1 + ((r + 1) * (v - (place + m)) + 1) ≤ (m + suc r + 1) * v + 1
starred_word m r v place some room =
    let first : 1 * (place + m) ≤ (r + 1) * (place + m) = mul-le-mul_right (place + m) (omega arith) in
    let e : v ≡ (place + m) + (v - (place + m)) = omega arith in
    let all = ap (λ t. (m + suc r + 1) * t) e in
    omega arith

-- the reads up to a place whose character is the segment's first, and those of the try there
pub candidate_paid : (n from place : ℕ) → 1 ≤ n → from ≤ place
    → (n + 1) * from + (place + 1 - from) + min 1 (place - from) + n ≤ (n + 1) * (place + 1)
candidate_paid n from place some on =
    let e : place + 1 ≡ from + (place - from) + 1 = omega arith in
    let all = ap (λ t. (n + 1) * t) e in
    elim (cases_lt from place) [
      | inl before ↦ let more : 1 * (place - from) ≤ n * (place - from) =
          mul-le-mul_right (place - from) some in omega arith
      | inr at ↦ let same : from ≡ place = omega arith in let none = ap (λ t. n * (place - t)) same in omega arith
    ]
