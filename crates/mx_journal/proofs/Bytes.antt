-- The header, and numbers of four bytes, there and back.
use Rattle.std.proofs.Common.{◌≡◌, ℕ, ◌+◌, ◌<◌, ◌^◌, List, ◌++◌, length, take, refl, sym, ◌∙◌, ap, arith}
use Rattle.std.proofs.lemmas.Nat.{from_le_bytes-to_le_bytes_4}
use Rattle.std.proofs.lemmas.List.{append_assoc, append_cancel_left, length-append, take_at}
use Rattle.mx_journal.specs.Image.{number_bytes, header, IsPayload, body_of}
use Rattle.mx_journal.specs.Fault.{number_in}

pub length-number_bytes : (n : ℕ) → length (number_bytes n) ≡ 4
unfolding number_bytes
length-number_bytes n = refl

pub length-header : length header ≡ 16
unfolding header number_bytes
length-header = refl

pub length-body_of : (payload : List ℕ) → length (body_of payload) ≡ 4 + length payload
length-body_of payload =
    length-append (number_bytes (length payload)) payload
    ∙ ap (λ n. n + length payload) (length-number_bytes (length payload))

pub number_in-number_bytes : (n : ℕ) (rest : List ℕ) → n < 2 ^ 32 → number_in (number_bytes n ++ rest) ≡ n
unfolding number_bytes number_in
number_in-number_bytes n rest fits = from_le_bytes-to_le_bytes_4 n fits

-- A body is read in one way.
pub same_body : (p q x y : List ℕ) → IsPayload p → IsPayload q → body_of p ++ x ≡ body_of q ++ y → (p ≡ q) × (x ≡ y)
same_body p q x y fp fq is =
    let shown : number_bytes (length p) ++ (p ++ x) ≡ number_bytes (length q) ++ (q ++ y) = sym
    (append_assoc (number_bytes (length p)) p x) ∙ is ∙ append_assoc (number_bytes (length q)) q y in
    let same : length p ≡ length q = sym (number_in-number_bytes (length p) (p ++ x) (omega (arith, fp.1)))
    ∙ ap number_in shown ∙ number_in-number_bytes (length q) (q ++ y) (omega (arith, fq.1)) in
    let bytes : number_bytes (length p) ≡ number_bytes (length q) = ap number_bytes same in
    let rest : p ++ x ≡ q ++ y = append_cancel_left (number_bytes (length q)) _ _
    (ap (λ b. b ++ (p ++ x)) (sym bytes) ∙ shown) in
    let payloads : p ≡ q = sym (take_at p x (length p) refl) ∙ ap (take (length p)) rest
    ∙ take_at q y (length p) (sym same) in
    (payloads, append_cancel_left q _ _ (ap (λ b. b ++ x) (sym payloads) ∙ rest))
