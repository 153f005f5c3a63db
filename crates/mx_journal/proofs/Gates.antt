-- What is read at a gate, and what it says of the whole image.
use Rattle.std.proofs.Common.{◌≡◌, ◌≢◌, ◌⊎◌, ◌↔◌, inl, inr, ⊎_elim, ℕ, ◌+◌, ◌-◌, ◌<◌, ◌≤◌, ◌^◌, List, [], ◌∷◌, ◌++◌}
use Rattle.std.proofs.Common.{Option, Some, Bool, true, false, Result, Ok, Err, length, take, drop, get_or, refl, sym}
use Rattle.std.proofs.Common.{◌∙◌, ap, subst, arith}
use Rattle.std.specs.Int.{w32, from_le_bytes}
use Rattle.std.proofs.lemmas.Nat.{from_le_bytes-to_le_bytes_4}
use Rattle.std.proofs.lemmas.Bool.{cases_lt}
use Rattle.std.proofs.lemmas.List.{append_assoc, append-nil, length-append, length-drop, length-take-le}
use Rattle.std.proofs.lemmas.List.{take-append-drop, drop_all, drop_more, drop-drop}
use Rattle.mx_journal.specs.Image.{number_bytes, header, open_gate, closed_gate, ArePayloads, body_of, front_of}
use Rattle.mx_journal.specs.Image.{empty_journal, IsJournalOf, StandsForPayloads}
use Rattle.mx_journal.specs.Fault.{number_in, LacksBody, HasBodyOf, IsFaultyGate, HasFaultyGateAt, IsNotAJournalAt}
use Rattle.mx_journal.specs.Journal.{ReadTo, HasClosedGate, LeavesAlike, RestsAt}
use Rattle.mx_journal.specs.declared.error.JournalError.{JournalError}
use Rattle.mx_journal.specs.declared.error.JournalError.TheVariants.{NotAJournal, DiskFault, OutOfMemory}
use Rattle.mx_journal.specs.NextRecord.{HasRecord, Found, BeginsWith}
use Rattle.mx_journal.proofs.Bytes.{length-body_of}
use Rattle.mx_journal.proofs.Images.{HasNoRecord-closed, HasNoRecord-faulty, same_fronts, stands_for_one, front_begins}
use Rattle.mx_journal.proofs.Crash.{IsJournalOf-read, front_of-push, ArePayloads-push}

pub number_in-shown : (n : ℕ) (bytes : List ℕ) → n < 2 ^ 32 → number_bytes n ≡ take 4 bytes → number_in bytes ≡ n
unfolding number_bytes number_in
number_in-shown n bytes fits shown = ap (from_le_bytes w32) (sym shown) ∙ from_le_bytes-to_le_bytes_4 n fits

-- The gate is the first of what is left.
pub HasClosedGate-read : (content : List ℕ) (offset gate : ℕ) → offset < length content
    → gate ≡ get_or content offset 0 → gate ≢ open_gate → HasClosedGate content offset
HasClosedGate-read content offset gate inside is closed = record {
  gate = gate;
  behind = drop (offset + 1) content;
  is = drop_more content offset 0 inside ∙ ap (λ g. g ∷ drop (offset + 1) content) (sym is);
  closed = closed;
}

pub IsFaultyGate-read : (content : List ℕ) (offset : ℕ) → offset < length content
    → get_or content offset 0 ≡ open_gate → LacksBody (drop (offset + 1) content) → IsFaultyGate (drop offset content)
IsFaultyGate-read content offset inside opens lacks =
    subst (λ (bytes : List ℕ). IsFaultyGate bytes) (sym (drop_more content offset 0 inside)) (opens, lacks)

pub IsFaultyGate-missing : (content : List ℕ) (offset : ℕ) → length content ≤ offset
    → IsFaultyGate (drop offset content)
IsFaultyGate-missing content offset past =
    subst (λ (bytes : List ℕ). IsFaultyGate bytes) (sym (drop_all offset content past)) tt

pub HasRecord-read : (content : List ℕ) (offset count : ℕ) (payload : List ℕ) → offset < length content
    → get_or content offset 0 ≡ open_gate → HasBodyOf (drop (offset + 1) content) count
    → payload ≡ take count (drop (offset + 5) content) → HasRecord content offset payload
HasRecord-read content offset count payload inside opens body is =
    let back = drop (offset + 1) content in
    let behind : drop 4 back ≡ drop (offset + 5) content = drop-drop 4 (offset + 1) content
    ∙ ap (λ n. drop n content) (omega arith) in
    let long : length back ≡ length content - (offset + 1) = length-drop (offset + 1) content in
    let rest : length (drop (offset + 5) content) ≡ length content - (offset + 5) = length-drop (offset + 5) content in
    let count_is : length payload ≡ count = ap length is
    ∙ length-take-le count (drop (offset + 5) content) (omega (arith, body.whole)) in
    let split : back ≡ number_bytes count ++ (payload ++ drop (offset + 5 + count) content) = sym
    (take-append-drop 4 back) ∙ ap (λ front. front ++ drop 4 back) (sym body.number)
    ∙ ap (λ rest. number_bytes count ++ rest)
    (behind ∙ sym (take-append-drop count (drop (offset + 5) content))
    ∙ ap (λ front. front ++ drop count (drop (offset + 5) content)) (sym is)
    ∙ ap (λ rest. payload ++ rest) (drop-drop count (offset + 5) content)) in
    record {
      is = drop_more content offset 0 inside ∙ ap (λ g. g ∷ back) opens
          ∙ ap (λ rest. open_gate ∷ rest) (split
          ∙ ap (λ n. number_bytes n ++ (payload ++ drop (offset + 5 + n) content)) (sym count_is)
          ∙ sym (append_assoc (number_bytes (length payload)) payload (drop (offset + 5 + length payload) content)));
      fit = (omega (arith, count_is, body.some_bytes), omega (arith, count_is, body.within));
    }

-- One payload more was read.
pub ReadTo-more : {seen : Option (List ℕ)} {offset : ℕ} {content : List ℕ} {payloads : List (List ℕ)}
    (now : Option (List ℕ)) (payload : List ℕ) (next : ℕ) → ReadTo seen offset content payloads
    → HasRecord content offset payload → now ≡ Some content
    → next ≡ offset + 5 + length payload → ReadTo now next content (payloads ++ payload ∷ [])
ReadTo-more {offset = offset} {content = content} {payloads = payloads} now payload next read here told next_is =
    let f = front_of payloads in
    let one = open_gate ∷ body_of payload in
    let rest = drop (offset + 5 + length payload) content in
    record {
      told = told;
      whole = read.whole;
      front = read.front ∙ ap (λ back. f ++ back) here.is ∙ sym (append_assoc f one rest)
          ∙ ap (λ front. front ++ rest) (sym (front_of-push payloads payload))
          ∙ ap (λ n. front_of (payloads ++ payload ∷ []) ++ drop n content) (sym next_is);
      place = ap length (front_of-push payloads payload) ∙ length-append f one
          ∙ omega (arith, read.place, length-body_of payload);
      fit = ArePayloads-push payloads payload read.fit here.fit;
    }

-- At a closed gate all were read.
pub stands_all : {seen : Option (List ℕ)} {offset : ℕ} {content : List ℕ} {payloads : List (List ℕ)}
    (others : List (List ℕ)) → ReadTo seen offset content payloads → HasClosedGate content offset
    → StandsForPayloads content others ↔ (others ≡ payloads)
stands_all {content = content} {payloads = payloads} others read closed =
    let this : StandsForPayloads content payloads = inr (IsJournalOf-read read closed) in (
      λ stands. stands_for_one content others payloads stands this,
      λ same. subst
          (λ (ps : List (List ℕ)). StandsForPayloads content ps) (sym same) this,
    )

pub RestsAt-read : {seen : Option (List ℕ)} {offset : ℕ} {content : List ℕ} {payloads : List (List ℕ)}
    {old may_leave : List ℕ → Type 0} (now : Option (List ℕ)) → ReadTo seen offset content payloads
    → HasClosedGate content offset → now ≡ Some content → LeavesAlike content payloads old
    → ((image : List ℕ) → may_leave image → old image) → RestsAt now may_leave offset payloads
RestsAt-read {content = content} {payloads = payloads} now read closed told alike before = record {
  content = content;
  read = record { told = told; whole = read.whole; front = read.front; place = read.place; fit = read.fit };
  gate_closed = closed;
  durable = λ image may.
      ⊎_elim (λ (same : image ≡ content). subst (λ (i : List ℕ). IsJournalOf i payloads) (sym same)
      (IsJournalOf-read read closed)) (λ journal. journal) (alike image (before image may));
}

-- What the content stands for begins with what was read.
pub begins_with_read : {seen : Option (List ℕ)} {offset : ℕ} {content : List ℕ} {payloads : List (List ℕ)}
    (others : List (List ℕ)) → ReadTo seen offset content payloads → StandsForPayloads content others
    → BeginsWith others payloads
begins_with_read {offset = offset} {content = content} {payloads = payloads} others read (inl short) =
    let empty : IsJournalOf content [] = record {
      gate = closed_gate;
      behind = [];
      is = read.whole short.0
          ∙ ap (λ h. h ++ closed_gate ∷ []) (sym (append-nil header));
      closed = λ e. absurd (omega arith);
      fit = tt;
    } in
    let begins = front_begins content payloads [] (drop offset content) read.fit read.front empty in
    (begins.0, short.1 ∙ begins.1)
begins_with_read {offset = offset} {content = content} {payloads = payloads} others read (inr journal) =
    front_begins content payloads others (drop offset content) read.fit read.front journal

-- At a faulty gate the image has its first fault.
pub HasFaultyGateAt-read : {seen : Option (List ℕ)} {offset : ℕ} {content : List ℕ} {payloads : List (List ℕ)}
    → ReadTo seen offset content payloads → IsFaultyGate (drop offset content) → HasFaultyGateAt content offset
HasFaultyGateAt-read {offset = offset} {content = content} {payloads = payloads} read faulty = record {
  before = payloads;
  behind = drop offset content;
  is = read.front;
  place = read.place;
  fit = read.fit;
  faulty = faulty;
}

closed_not_faulty : (bytes : List ℕ) → bytes ≡ closed_gate ∷ [] → IsFaultyGate bytes → ⊥
closed_not_faulty [] is faulty = cc
closed_not_faulty (gate ∷ behind) is faulty =
    let zero_is : gate ≡ closed_gate = cc in
    omega (arith, faulty.0)

-- No record was read of the empty journal, and its gate is closed.
empty_is_closed : (content : List ℕ) (payloads : List (List ℕ)) (bytes : List ℕ)
    → content ≡ front_of payloads ++ bytes → ArePayloads payloads → IsFaultyGate bytes → content ≡ empty_journal → ⊥
empty_is_closed content payloads bytes front fit faulty empty =
    let both = same_fronts payloads [] bytes (closed_gate ∷ []) fit tt (HasNoRecord-faulty bytes faulty)
    (HasNoRecord-closed closed_gate [] (λ e. absurd (omega arith)))
    (sym front ∙ empty ∙ ap (λ h. h ++ closed_gate ∷ []) (sym (append-nil header))) in
    closed_not_faulty bytes both.1 faulty

pub IsNotAJournalAt-read : {seen : Option (List ℕ)} {offset : ℕ} {content : List ℕ} {payloads : List (List ℕ)}
    → ReadTo seen offset content payloads → IsFaultyGate (drop offset content) → IsNotAJournalAt content offset
IsNotAJournalAt-read {offset = offset} {content = content} {payloads = payloads} read faulty = (
  ⊎_elim (λ long. long) (λ short. absurd (empty_is_closed content payloads (drop offset content) read.front
      read.fit faulty (read.whole short))) (cases_lt 17 (length content)),
  inr (HasFaultyGateAt-read read faulty),
)

pub Found-fault : (result : Result Bool JournalError) (content : List ℕ) (gate : ℕ) (out : List ℕ) (offset : ℕ)
    → Found result content gate out → result ≡ Err (NotAJournal offset)
    → (offset ≡ gate) × IsFaultyGate (drop gate content)
Found-fault result content gate out offset found is = subst
    (λ (r : Result Bool JournalError). Found r content gate out) is found

-- Where nothing is given, what was found says nothing of the buffer.
pub Found-other : (cause : JournalError) (content : List ℕ) (gate : ℕ) (out other : List ℕ)
    → Found (Err cause) content gate out → Found (Err cause) content gate other
Found-other (NotAJournal offset) content gate out other found = found
Found-other DiskFault content gate out other found = found
Found-other OutOfMemory content gate out other found = found

record_not_closed : {content payload : List ℕ} {offset : ℕ} → HasRecord content offset payload
    → HasClosedGate content offset → ⊥
record_not_closed here closed = closed.closed (cc (here.is, closed.is))

faulty_not_closed : {content : List ℕ} {offset : ℕ} → IsFaultyGate (drop offset content)
    → HasClosedGate content offset → ⊥
faulty_not_closed {content = content} {offset = offset} faulty closed =
    let gate : IsFaultyGate (closed.gate ∷ closed.behind) = subst (λ (bytes : List ℕ). IsFaultyGate bytes) closed.is
    faulty in
    closed.closed gate.0

record_not_faulty : {content payload : List ℕ} {offset : ℕ} → HasRecord content offset payload
    → IsFaultyGate (drop offset content) → ⊥
record_not_faulty {content = content} {payload = payload} {offset = offset} here faulty =
    HasNoRecord-faulty (drop offset content) faulty payload (drop (offset + 5 + length payload) content) here.fit
    here.is

-- At a closed gate it answers false, unless the disk fails.
pub Found-closed : (result : Result Bool JournalError) (content : List ℕ) (gate : ℕ) (out : List ℕ)
    → Found result content gate out → HasClosedGate content gate → (result ≡ Ok false) ⊎ (result ≡ Err DiskFault)
Found-closed (Ok true) content gate out found closed = absurd (record_not_closed found closed)
Found-closed (Ok false) content gate out found closed = inl refl
Found-closed (Err (NotAJournal offset)) content gate out found closed = absurd (faulty_not_closed found.1 closed)
Found-closed (Err DiskFault) content gate out found closed = inr refl
Found-closed (Err OutOfMemory) content gate out found closed = absurd (record_not_closed found.1 closed)

-- At a faulty gate it answers its offset, unless the disk fails.
pub Found-faulty : (result : Result Bool JournalError) (content : List ℕ) (gate : ℕ) (out : List ℕ)
    → Found result content gate out → IsFaultyGate (drop gate content)
    → (result ≡ Err (NotAJournal gate)) ⊎ (result ≡ Err DiskFault)
Found-faulty (Ok true) content gate out found faulty = absurd (record_not_faulty found faulty)
Found-faulty (Ok false) content gate out found faulty = absurd (faulty_not_closed faulty found)
Found-faulty (Err (NotAJournal offset)) content gate out found faulty = inl (ap (λ o. Err (NotAJournal o)) found.0)
Found-faulty (Err DiskFault) content gate out found faulty = inr refl
Found-faulty (Err OutOfMemory) content gate out found faulty = absurd (record_not_faulty found.1 faulty)
