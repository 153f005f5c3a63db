-- An image stands for one list of payloads at most, or it has one first fault.
use Rattle.std.proofs.Common.{◌≡◌, ◌≢◌, inl, inr, ⊎_elim, ℕ, ◌+◌, ◌≤◌, List, [], ◌∷◌, ◌++◌, length, take, refl, sym}
use Rattle.std.proofs.Common.{◌∙◌, ap, arith}
use Rattle.std.proofs.lemmas.List.{append_assoc, append_cancel_left, length-append, take_at}
use Rattle.mx_journal.specs.Image.{number_bytes, header, open_gate, IsPayload, ArePayloads, body_of, records_of}
use Rattle.mx_journal.specs.Image.{front_of, IsJournalOf, StandsForPayloads}
use Rattle.mx_journal.specs.Fault.{number_in, LacksBody, IsFaultyGate, LacksHeader, HasFaultyGateAt, IsNotAJournalAt}
use Rattle.mx_journal.specs.NextRecord.{BeginsWith}
use Rattle.mx_journal.proofs.Bytes.{length-header, length-body_of, number_in-number_bytes, same_body}

-- No record stands at the front of these bytes.
abbrev pub HasNoRecord : List ℕ → Type 0
HasNoRecord bytes = (payload rest : List ℕ) → IsPayload payload → bytes ≡ open_gate ∷ (body_of payload ++ rest) → ⊥

pub HasNoRecord-closed : (gate : ℕ) (behind : List ℕ) → gate ≢ open_gate → HasNoRecord (gate ∷ behind)
HasNoRecord-closed gate behind closed payload rest fit is = closed (cc)

lacks_no_body : (bytes payload rest : List ℕ) → IsPayload payload → bytes ≡ body_of payload ++ rest → LacksBody bytes
    → ⊥
lacks_no_body bytes payload rest fit is lacks =
    let shown : bytes ≡ number_bytes (length payload) ++ (payload ++ rest) = is
    ∙ append_assoc (number_bytes (length payload)) payload rest in
    let number : number_in bytes ≡ length payload = ap number_in shown
    ∙ number_in-number_bytes (length payload) (payload ++ rest) (omega (arith, fit.1)) in
    let long : length bytes ≡ 4 + length payload + length rest = ap length is ∙ length-append (body_of payload) rest
    ∙ ap (λ n. n + length rest) (length-body_of payload) in
    ⊎_elim (λ short. absurd (omega arith)) (λ lacks. ⊎_elim (λ none. absurd (omega (arith, fit.0)))
    (λ lacks. ⊎_elim (λ much. absurd (omega (arith, fit.1))) (λ ends. absurd (omega arith)) lacks) lacks) lacks

pub HasNoRecord-faulty : (bytes : List ℕ) → IsFaultyGate bytes → HasNoRecord bytes
HasNoRecord-faulty [] faulty payload rest fit is = cc
HasNoRecord-faulty (gate ∷ behind) faulty payload rest fit is = lacks_no_body behind payload rest fit (cc) faulty.1

-- Records are read in one way, up to where none stands.
pub same_records : (ps qs : List (List ℕ)) (t u : List ℕ) → ArePayloads ps → ArePayloads qs → HasNoRecord t
    → HasNoRecord u
    → records_of ps ++ t ≡ records_of qs ++ u → (ps ≡ qs) × (t ≡ u)
same_records [] [] t u fp fq nt nu is = (refl, is)
same_records [] (q ∷ qs) t u fp fq nt nu is =
    absurd (nt q (records_of qs ++ u) fq.0 (is ∙ ap (λ r. open_gate ∷ r) (append_assoc (body_of q) (records_of qs) u)))
same_records (p ∷ ps) [] t u fp fq nt nu is =
    absurd (nu p (records_of ps ++ t) fp.0 (sym is
    ∙ ap (λ r. open_gate ∷ r) (append_assoc (body_of p) (records_of ps) t)))
same_records (p ∷ ps) (q ∷ qs) t u fp fq nt nu is =
    let behind : (body_of p ++ records_of ps) ++ t ≡ (body_of q ++ records_of qs) ++ u = cc in
    let both = same_body p q (records_of ps ++ t) (records_of qs ++ u) fp.0 fq.0
    (sym (append_assoc (body_of p) (records_of ps) t) ∙ behind ∙ append_assoc (body_of q) (records_of qs) u) in
    let rest = same_records ps qs t u fp.1 fq.1 nt nu both.1 in
    (cc (both.0, rest.0), rest.1)

-- The same behind the header.
pub same_fronts : (ps qs : List (List ℕ)) (t u : List ℕ) → ArePayloads ps → ArePayloads qs → HasNoRecord t
    → HasNoRecord u
    → front_of ps ++ t ≡ front_of qs ++ u → (ps ≡ qs) × (t ≡ u)
same_fronts ps qs t u fp fq nt nu is =
    same_records ps qs t u fp fq nt nu (append_cancel_left header _ _
    (sym (append_assoc header (records_of ps) t) ∙ is ∙ append_assoc header (records_of qs) u))

pub length-front_of : (ps : List (List ℕ)) → length (front_of ps) ≡ 16 + length (records_of ps)
length-front_of ps = length-append header (records_of ps) ∙ ap (λ n. n + length (records_of ps)) length-header

short_is_empty : (image : List ℕ) (ps : List (List ℕ)) → length image ≤ 17 → IsJournalOf image ps → ps ≡ []
short_is_empty image [] short journal = refl
short_is_empty image (p ∷ ps) short journal =
    let whole : length image ≡ length (front_of (p ∷ ps)) + length (journal.gate ∷ journal.behind) = ap length
    journal.is ∙ length-append (front_of (p ∷ ps)) (journal.gate ∷ journal.behind) in
    let front = length-front_of (p ∷ ps) in
    let body : length (body_of p ++ records_of ps) ≡ length (body_of p) + length (records_of ps) = length-append
    (body_of p) (records_of ps) in
    absurd (omega (arith, length-body_of p))

pub stands_for_one : (image : List ℕ) (ps qs : List (List ℕ)) → StandsForPayloads image ps
    → StandsForPayloads image qs → ps ≡ qs
stands_for_one image ps qs (inl a) (inl b) = a.1 ∙ sym b.1
stands_for_one image ps qs (inl a) (inr b) = a.1 ∙ sym (short_is_empty image qs a.0 b)
stands_for_one image ps qs (inr a) (inl b) = short_is_empty image ps b.0 a ∙ sym b.1
stands_for_one image ps qs (inr a) (inr b) =
    (same_fronts ps qs _ _ a.fit b.fit (HasNoRecord-closed a.gate a.behind a.closed)
    (HasNoRecord-closed b.gate b.behind b.closed) (sym a.is ∙ b.is)).0

pub stands_for_short : (image : List ℕ) (ps : List (List ℕ)) → length image ≤ 17 → StandsForPayloads image ps → ps ≡ []
stands_for_short image ps short (inl none) = none.1
stands_for_short image ps short (inr journal) = short_is_empty image ps short journal

pub header_first : (image : List ℕ) (ps : List (List ℕ)) (rest : List ℕ) → image ≡ front_of ps ++ rest
    → take 16 image ≡ header
header_first image ps rest is =
    ap (take 16) (is ∙ append_assoc header (records_of ps) rest)
    ∙ take_at header (records_of ps ++ rest) 16 length-header

-- Where an image has a fault it stands for nothing.
pub fault_stands_for_none : (image : List ℕ) (offset : ℕ) (qs : List (List ℕ)) → IsNotAJournalAt image offset
    → StandsForPayloads image qs → ⊥
fault_stands_for_none image offset qs fault (inl short) = omega (arith, fault.0, short.0)
fault_stands_for_none image offset qs fault (inr journal) =
    ⊎_elim (λ (lacks : LacksHeader image offset). lacks.differs (header_first image qs _ journal.is))
    (λ (at : HasFaultyGateAt image offset). not_faulty at.behind at.faulty
    (same_fronts at.before qs _ _ at.fit journal.fit (HasNoRecord-faulty at.behind at.faulty)
    (HasNoRecord-closed journal.gate journal.behind journal.closed) (sym at.is ∙ journal.is)).1) fault.1
  where
    not_faulty : (behind : List ℕ) → IsFaultyGate behind → behind ≡ journal.gate ∷ journal.behind → ⊥
    not_faulty [] faulty is = cc
    not_faulty (gate ∷ more) faulty is = journal.closed (cc)

-- It has one first fault.
pub one_fault : (image : List ℕ) (offset other : ℕ) → HasFaultyGateAt image offset → IsNotAJournalAt image other
    → other ≡ offset
one_fault image offset other at fault =
    ⊎_elim (λ (lacks : LacksHeader image other). absurd (lacks.differs (header_first image at.before _ at.is)))
    (λ (b : HasFaultyGateAt image other). sym b.place
    ∙ ap (λ ps. length (front_of ps)) (same_fronts b.before at.before _ _ b.fit at.fit
    (HasNoRecord-faulty b.behind b.faulty) (HasNoRecord-faulty at.behind at.faulty) (sym b.is ∙ at.is)).0
    ∙ at.place) fault.1

-- What is read of records up to anything is a front of what is read up to where none stands.
records_begin : (ps qs : List (List ℕ)) (t u : List ℕ) → ArePayloads ps → ArePayloads qs → HasNoRecord u
    → records_of ps ++ t ≡ records_of qs ++ u → BeginsWith qs ps
records_begin [] qs t u fp fq nu is = (qs, refl)
records_begin (p ∷ ps) [] t u fp fq nu is =
    absurd (nu p (records_of ps ++ t) fp.0 (sym is
    ∙ ap (λ r. open_gate ∷ r) (append_assoc (body_of p) (records_of ps) t)))
records_begin (p ∷ ps) (q ∷ qs) t u fp fq nu is =
    let behind : (body_of p ++ records_of ps) ++ t ≡ (body_of q ++ records_of qs) ++ u = cc in
    let both = same_body p q (records_of ps ++ t) (records_of qs ++ u) fp.0 fq.0
    (sym (append_assoc (body_of p) (records_of ps) t) ∙ behind ∙ append_assoc (body_of q) (records_of qs) u) in
    let rest = records_begin ps qs t u fp.1 fq.1 nu both.1 in
    (rest.0, cc (both.0, rest.1))

-- The same behind the header, where the image is a journal.
pub front_begins : (image : List ℕ) (ps qs : List (List ℕ)) (t : List ℕ) → ArePayloads ps → image ≡ front_of ps ++ t
    → IsJournalOf image qs → BeginsWith qs ps
front_begins image ps qs t fit is journal =
    records_begin ps qs t (journal.gate ∷ journal.behind) fit journal.fit
    (HasNoRecord-closed journal.gate journal.behind journal.closed)
    (append_cancel_left header _ _ (sym (append_assoc header (records_of ps) t) ∙ sym is ∙ journal.is
    ∙ append_assoc header (records_of qs) (journal.gate ∷ journal.behind)))
