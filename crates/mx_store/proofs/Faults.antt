-- Where reading the entries of a journal stops, the image has its first fault.
use Rattle.std.proofs.Common.{◌≡◌, ℕ, ◌+◌, ◌<◌, ◌≤◌, List, [], ◌∷◌, ◌++◌, Option, length, drop, inl, inr, sym, ap}
use Rattle.std.proofs.Common.{subst, ◌∙◌, arith}
use Rattle.std.proofs.lemmas.List.{length-append}
use Rattle.mx_journal.specs.Image.{open_gate, body_of, front_of}
use Rattle.mx_journal.specs.Fault.{IsFaultyGate}
use Rattle.mx_journal.specs.Journal.{ReadTo}
use Rattle.mx_journal.specs.NextRecord.{HasRecord}
use Rattle.mx_journal.proofs.Bytes.{length-body_of}
use Rattle.mx_journal.proofs.Images.{length-front_of}
use Rattle.mx_records.specs.History.{History}
use Rattle.mx_records.specs.Refusing.{IsValid, payloads_of}
use Rattle.mx_store.specs.Standing.{HasFirstFaultAt, IsNoNextPayload}

pub first_fault_gate : {seen : Option (List ℕ)} {gate : ℕ} {content : List ℕ} (server : List ℕ) (h : History)
    (offset : ℕ) → IsValid server h → ReadTo seen gate content (payloads_of h) → 17 < length content
    → IsFaultyGate (drop gate content) → offset ≡ gate → HasFirstFaultAt server content offset
first_fault_gate {gate = gate} {content = content} server h offset valid read long faulty is = (
  long,
  inr (record {
    before = h;
    behind = drop gate content;
    valid = valid;
    is = read.front;
    place = read.place ∙ sym is;
    faulty = inl faulty;
  }),
)

length_more : (a b : List ℕ) → length (open_gate ∷ (a ++ b)) ≡ 1 + (length a + length b)
length_more a b = let both = length-append a b in omega (arith, both)

pub first_fault_record : {seen : Option (List ℕ)} {gate : ℕ} {content : List ℕ} (server : List ℕ) (h : History)
    (payload : List ℕ) (offset : ℕ) → IsValid server h → ReadTo seen gate content (payloads_of h)
    → HasRecord content gate payload → IsNoNextPayload server h payload → offset ≡ gate
    → HasFirstFaultAt server content offset
first_fault_record {gate = gate} {content = content} server h payload offset valid read here bad is =
    let rest = drop (gate + 5 + length payload) content in
    let front = length-front_of (payloads_of h) in
    let back : length (drop gate content) ≡ 1 + (length (body_of payload) + length rest) =
    ap length here.is ∙ length_more (body_of payload) rest in
    let whole : length content ≡ length (front_of (payloads_of h)) + length (drop gate content) =
    ap length read.front ∙ length-append (front_of (payloads_of h)) (drop gate content) in (
      omega (arith, length-body_of payload),
      inr (record {
        before = h;
        behind = drop gate content;
        valid = valid;
        is = read.front;
        place = read.place ∙ sym is;
        faulty = inr (record { payload = payload; behind = rest; is = here.is; fit = here.fit; bad = bad });
      }),
    )
