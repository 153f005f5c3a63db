-- What is staged, and the payload that it shows.
use Rattle.std.proofs.Common.{◌≡◌, inl, inr, ℕ, ◌+◌, ◌-◌, ◌<◌, List, [], ◌∷◌, ◌++◌, length, take, drop, sym, ◌∙◌, ap}
use Rattle.std.proofs.Common.{arith}
use Rattle.std.proofs.lemmas.List.{append_assoc, length-append, take_at, drop_at}
use Rattle.mx_journal.specs.Image.{number_bytes, closed_gate, IsPayload, body_of}
use Rattle.mx_journal.specs.Held.{staged_bytes, payload_in, IsStaged}
use Rattle.mx_journal.proofs.Bytes.{length-number_bytes, length-body_of}

pub length-staged_bytes : (payload : List ℕ) → length (staged_bytes payload) ≡ 5 + length payload
length-staged_bytes payload = length-append (body_of payload) (closed_gate ∷ []) ∙ omega (arith, length-body_of payload)

pub payload_in-staged_bytes : (payload : List ℕ) → payload_in (staged_bytes payload) ≡ payload
payload_in-staged_bytes payload =
    let rest : drop 4 (staged_bytes payload) ≡ payload ++ closed_gate ∷ [] = ap (drop 4)
    (append_assoc (number_bytes (length payload)) payload (closed_gate ∷ []))
    ∙ drop_at (number_bytes (length payload)) (payload ++ closed_gate ∷ []) 4
    (length-number_bytes (length payload)) in
    ap (λ bytes. take (length (staged_bytes payload) - 5) bytes) rest
    ∙ take_at payload (closed_gate ∷ []) (length (staged_bytes payload) - 5)
    (omega (arith, length-staged_bytes payload))

pub payload_in-staged : (bytes payload : List ℕ) → bytes ≡ staged_bytes payload → payload_in bytes ≡ payload
payload_in-staged bytes payload is = ap payload_in is ∙ payload_in-staged_bytes payload

pub IsStaged-put : (bytes payload : List ℕ) → IsPayload payload → bytes ≡ staged_bytes payload → IsStaged bytes
IsStaged-put bytes payload fit is =
    let same : payload_in bytes ≡ payload = payload_in-staged bytes payload is in
    let long : length (payload_in bytes) ≡ length payload = ap length same in
    inr ((omega (arith, fit.0), omega (arith, fit.1)), is ∙ ap staged_bytes (sym same))

-- Where a payload is staged its record is.
pub IsStaged-some : (bytes : List ℕ) → IsStaged bytes → 0 < length (payload_in bytes)
    → IsPayload (payload_in bytes) × (bytes ≡ staged_bytes (payload_in bytes))
IsStaged-some bytes (inl none) some = absurd (omega (arith, ap (λ b. length (payload_in b)) none))
IsStaged-some bytes (inr staged) some = staged
