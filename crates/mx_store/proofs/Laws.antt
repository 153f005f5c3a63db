-- An image stands for one history at most, or it has one first fault.
use Rattle.std.proofs.Common.{◌≡◌, ◌≢◌, ◌⊎◌, inl, inr, ⊎_elim, ℕ, ◌<◌, ◌≤◌, List, [], ◌∷◌, ◌++◌, length, take, refl}
use Rattle.std.proofs.Common.{sym, ap, subst, ◌∙◌, arith}
use Rattle.std.proofs.lemmas.List.{append-nil, append_assoc, append_cancel_left}
use Rattle.mx_journal.specs.Image.{header, open_gate, IsPayload, ArePayloads, body_of, records_of, front_of}
use Rattle.mx_journal.specs.Image.{IsJournalOf, StandsForPayloads}
use Rattle.mx_journal.specs.Fault.{IsFaultyGate, LacksHeader}
use Rattle.mx_journal.specs.NextRecord.{BeginsWith}
use Rattle.mx_journal.proofs.Bytes.{same_body}
use Rattle.mx_journal.proofs.Crash.{front_of-push, ArePayloads-push}
use Rattle.mx_journal.proofs.Images.{HasNoRecord-faulty, fault_stands_for_none, front_begins, header_first}
use Rattle.mx_journal.proofs.Images.{stands_for_one}
use Rattle.mx_records.specs.declared.entry.Entry.{Entry}
use Rattle.mx_records.specs.History.{History, with_entry}
use Rattle.mx_records.specs.Refusing.{IsValid, payloads_of}
use Rattle.mx_records.proofs.ValidLemmas.{IsValid-none, IsValid-push}
use Rattle.mx_store.specs.Standing.{HasBadRecord, HasFaultBehind, HasFirstFaultAt, StandsFor}
use Rattle.mx_store.proofs.Histories.{AreValidAfter, entry_fits, first_valid, next_of_history, payload_some, rest_valid}
use Rattle.mx_store.proofs.Histories.{same_histories}

fit_payloads : (server : List ℕ) (before entries : List Entry) → IsValid server before
    → AreValidAfter server before entries → ArePayloads (payloads_of entries)
unfolding payloads_of
fit_payloads server before [] valid after = tt
fit_payloads server before (entry ∷ entries) valid after =
    let next = first_valid server before entry entries after in (
      (payload_some entry, entry_fits server before entry valid next),
      fit_payloads server (with_entry before entry) entries (IsValid-push server before entry valid next)
          (rest_valid server before entry entries after),
    )

-- The payloads of a valid history are payloads of a journal.
pub are_payloads : (server : List ℕ) (h : History) → IsValid server h → ArePayloads (payloads_of h)
unfolding IsValid
are_payloads server h valid = fit_payloads server [] h (IsValid-none server) valid

-- An image stands for one history at most.
pub one_history : (server image : List ℕ) (g h : History) → StandsFor server image g → StandsFor server image h → g ≡ h
one_history server image g h a b =
    same_histories server g h a.valid b.valid
    (stands_for_one image (payloads_of g) (payloads_of h) a.payloads b.payloads)

-- ---- a fault, and a history

bad_stands_for_none : (server image behind : List ℕ) (before h : History) → 17 < length image → IsValid server before
    → image ≡ front_of (payloads_of before) ++ behind → HasBadRecord server before behind → StandsFor server image h
    → StandsForPayloads image (payloads_of h) → ⊥
bad_stands_for_none server image behind before h long valid is bad stands (inl short) = omega (arith, long, short.0)
bad_stands_for_none server image behind before h long valid is bad stands (inr journal) =
    let ps = payloads_of before in
    let one = open_gate ∷ body_of bad.payload in
    let front : image ≡ front_of (ps ++ bad.payload ∷ []) ++ bad.behind =
    is ∙ ap (λ b. front_of ps ++ b) bad.is ∙ sym (append_assoc (front_of ps) one bad.behind)
    ∙ ap (λ f. f ++ bad.behind) (sym (front_of-push ps bad.payload)) in
    let begins = front_begins image (ps ++ bad.payload ∷ []) (payloads_of h) bad.behind
    (ArePayloads-push ps bad.payload (are_payloads server before valid) bad.fit) front journal in
    let next = next_of_history server before h bad.payload begins.0 valid stands.valid
    (begins.1 ∙ append_assoc ps (bad.payload ∷ []) begins.0) in
    bad.bad next.0 next.1 next.2

-- Where an image has a fault it stands for no history.
pub no_history : (server image : List ℕ) (offset : ℕ) (h : History) → HasFirstFaultAt server image offset
    → StandsFor server image h → ⊥
no_history server image offset h fault stands =
    ⊎_elim (λ (lacks : LacksHeader image offset).
    fault_stands_for_none image offset (payloads_of h) (fault.0, inl lacks) stands.payloads)
    (λ (at : HasFaultBehind server image offset).
    ⊎_elim (λ (gate : IsFaultyGate at.behind). fault_stands_for_none image offset (payloads_of h) (
      fault.0,
      inr (record {
        before = payloads_of at.before;
        behind = at.behind;
        is = at.is;
        place = at.place;
        fit = are_payloads server at.before at.valid;
        faulty = gate;
      }),
    ) stands.payloads)
    (λ (bad : HasBadRecord server at.before at.behind). bad_stands_for_none server image at.behind at.before h fault.0
    at.valid at.is bad stands stands.payloads) at.faulty) fault.1

-- ---- two faults

-- Of two lists of records before any bytes one begins with the other.
records_apart : (ps qs : List (List ℕ)) (t u : List ℕ) → ArePayloads ps → ArePayloads qs
    → records_of ps ++ t ≡ records_of qs ++ u → BeginsWith qs ps ⊎ BeginsWith ps qs
records_apart [] qs t u fp fq is = inl (qs, refl)
records_apart (p ∷ ps) [] t u fp fq is = inr (p ∷ ps, refl)
records_apart (p ∷ ps) (q ∷ qs) t u fp fq is =
    let behind : (body_of p ++ records_of ps) ++ t ≡ (body_of q ++ records_of qs) ++ u = cc in
    let both = same_body p q (records_of ps ++ t) (records_of qs ++ u) fp.0 fq.0
    (sym (append_assoc (body_of p) (records_of ps) t) ∙ behind ∙ append_assoc (body_of q) (records_of qs) u) in
    ⊎_elim (λ (a : BeginsWith qs ps). inl (a.0, cc (both.0, a.1)))
    (λ (b : BeginsWith ps qs). inr (b.0, cc (both.0, b.1)))
    (records_apart ps qs t u fp.1 fq.1 both.1)

-- What stands behind the first records.
records_behind : (ps more : List (List ℕ)) (t u : List ℕ) → records_of ps ++ t ≡ records_of (ps ++ more) ++ u
    → t ≡ records_of more ++ u
records_behind [] more t u is = is
records_behind (p ∷ ps) more t u is =
    let behind : (body_of p ++ records_of ps) ++ t ≡ (body_of p ++ records_of (ps ++ more)) ++ u = cc in
    records_behind ps more t u
    (append_cancel_left (body_of p) _ _ (sym (append_assoc (body_of p) (records_of ps) t) ∙ behind
    ∙ append_assoc (body_of p) (records_of (ps ++ more)) u))

fit_behind : (ps more : List (List ℕ)) → ArePayloads (ps ++ more) → ArePayloads more
fit_behind [] more fit = fit
fit_behind (p ∷ ps) more fit = fit_behind ps more fit.1

-- Where one image begins with the records of two histories, each before a fault, neither goes on.
goes_no_further : (server image : List ℕ) (a b : ℕ) (x : HasFaultBehind server image a)
    (y : HasFaultBehind server image b) (more : List (List ℕ)) → payloads_of y.before ≡ payloads_of x.before ++ more
    → payloads_of y.before ≡ payloads_of x.before
goes_no_further server image a b x y [] is = is ∙ append-nil (payloads_of x.before)
goes_no_further server image a b x y (m ∷ more) is =
    let xs = payloads_of x.before in
    let fronts : front_of xs ++ x.behind ≡ front_of (xs ++ m ∷ more) ++ y.behind =
    sym x.is ∙ y.is ∙ ap (λ ps. front_of ps ++ y.behind) is in
    let records : records_of xs ++ x.behind ≡ records_of (xs ++ m ∷ more) ++ y.behind =
    append_cancel_left header _ _ (sym (append_assoc header (records_of xs) x.behind) ∙ fronts
    ∙ append_assoc header (records_of (xs ++ m ∷ more)) y.behind) in
    let rest = records_of more ++ y.behind in
    let here : x.behind ≡ open_gate ∷ (body_of m ++ rest) =
    records_behind xs (m ∷ more) x.behind y.behind records
    ∙ ap (λ r. open_gate ∷ r) (append_assoc (body_of m) (records_of more) y.behind) in
    let fit : ArePayloads (xs ++ m ∷ more) =
    subst ArePayloads is (are_payloads server y.before y.valid) in
    let fit_here : IsPayload m = (fit_behind xs (m ∷ more) fit).0 in
    ⊎_elim (λ (gate : IsFaultyGate x.behind). absurd (HasNoRecord-faulty x.behind gate m rest fit_here here))
    (λ (bad : HasBadRecord server x.before x.behind).
    let bodies : body_of bad.payload ++ bad.behind ≡ body_of m ++ rest = cc (bad.is, here) in
    let same = same_body bad.payload m bad.behind rest bad.fit fit_here bodies in
    let next = next_of_history server x.before y.before bad.payload more x.valid y.valid
    (is ∙ ap (λ p. xs ++ p ∷ more) (sym same.0)) in
    absurd (bad.bad next.0 next.1 next.2)) x.faulty

both_behind : (server image : List ℕ) (a b : ℕ) → HasFaultBehind server image a → HasFaultBehind server image b
    → a ≡ b
both_behind server image a b x y =
    let xs = payloads_of x.before in
    let ys = payloads_of y.before in
    let records : records_of xs ++ x.behind ≡ records_of ys ++ y.behind =
    append_cancel_left header _ _ (sym (append_assoc header (records_of xs) x.behind) ∙ sym x.is ∙ y.is
    ∙ append_assoc header (records_of ys) y.behind) in
    let same : ys ≡ xs =
    ⊎_elim (λ (longer : BeginsWith ys xs). goes_no_further server image a b x y longer.0 longer.1)
    (λ (longer : BeginsWith xs ys). sym (goes_no_further server image b a y x longer.0 longer.1))
    (records_apart xs ys x.behind y.behind (are_payloads server x.before x.valid) (are_payloads server y.before y.valid)
    records) in
    sym x.place ∙ ap (λ ps. length (front_of ps)) (sym same) ∙ y.place

-- An image has one first fault.
pub one_fault : (server image : List ℕ) (a b : ℕ) → HasFirstFaultAt server image a → HasFirstFaultAt server image b
    → a ≡ b
one_fault server image a b first second =
    ⊎_elim (λ (x : LacksHeader image a).
    ⊎_elim (λ (y : LacksHeader image b). x.first ∙ sym y.first)
    (λ (y : HasFaultBehind server image b).
    absurd (x.differs (header_first image (payloads_of y.before) y.behind y.is)))
    second.1)
    (λ (x : HasFaultBehind server image a).
    ⊎_elim (λ (y : LacksHeader image b). absurd (y.differs (header_first image (payloads_of x.before) x.behind x.is)))
    (λ (y : HasFaultBehind server image b). both_behind server image a b x y)
    second.1) first.1
