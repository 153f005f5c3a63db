-- A disk from call to call of a commit.
use Rattle.std.proofs.Common.{◌≡◌, ℕ, ◌+◌, ◌≤◌, List, [], ◌∷◌, ◌++◌, Option, Some, None, IfSome, length, take, drop}
use Rattle.std.proofs.Common.{sym, ◌∙◌, ap, subst, arith}
use Rattle.std.proofs.lemmas.List.{append_assoc, length-append, length_push, length-take-le, drop_at}
use Rattle.mx_outside.specs.Told.{WhereTold}
use Rattle.mx_outside.specs.Disk.{Torn, put_at, Only}
use Rattle.mx_outside.proofs.Told.{WhereTold-at, WhereTold-then}
use Rattle.mx_journal.specs.Image.{open_gate, closed_gate, IsPayload, ArePayloads, body_of, front_of, IsJournalOf}
use Rattle.mx_journal.specs.Image.{StandsForEither}
use Rattle.mx_journal.specs.Calls.{IsTornFrom}
use Rattle.mx_journal.specs.Journal.{HasClosedGate, RestsAt}
use Rattle.mx_journal.specs.Held.{staged_bytes}
use Rattle.mx_journal.proofs.Bytes.{length-body_of}
use Rattle.mx_journal.proofs.Images.{length-front_of}
use Rattle.mx_journal.proofs.Crash.{IsStagedIn, IsJournalOf-read, front_of-push, ArePayloads-push, torn_behind}
use Rattle.mx_journal.proofs.Crash.{written_behind, torn_gate, written_gate}

pub journal_at_rest : {seen : Option (List ℕ)} {may_leave : List ℕ → Type 0} {offset : ℕ} {payloads : List (List ℕ)}
    (rests : RestsAt seen may_leave offset payloads) → IsJournalOf rests.content payloads
journal_at_rest rests = IsJournalOf-read rests.read rests.gate_closed

-- The first write leaves the old payloads.
pub first_leaves : {seen : Option (List ℕ)} {old : List ℕ → Type 0} {offset : ℕ} {payloads : List (List ℕ)} (n : ℕ)
    → RestsAt seen old offset payloads → (image : List ℕ) → IsTornFrom old (offset + 1) n image
    → IsJournalOf image payloads
first_leaves {offset = offset} {payloads = payloads} n rests image torn =
    torn_behind torn.0 image payloads offset n (rests.durable torn.0 torn.1) rests.read.place torn.2

-- The record is on the disk, behind the closed gate.
pub record StagedOn (seen : Option (List ℕ)) (may_leave : List ℕ → Type 0) (payloads : List (List ℕ))
    (payload : List ℕ) : Type 0 where
  pub content : List ℕ
  pub told : seen ≡ Some content
  pub staged : IsStagedIn content payloads payload
  pub durable : Only content may_leave

pub first_writes : (old new : Option (List ℕ)) {may_leave later : List ℕ → Type 0} {offset : ℕ}
    {payloads : List (List ℕ)} (payload piece : List ℕ) → RestsAt old may_leave offset payloads
    → piece ≡ staged_bytes payload
    → WhereTold old new (λ before after. after ≡ put_at (offset + 1) piece before)
    → WhereTold old new (λ before after. Only after later) → StagedOn new later payloads payload
first_writes old new {later = later} {offset = offset} {payloads = payloads} payload piece rests is written durable =
    let at = WhereTold-at (λ before after. after ≡ put_at (offset + 1) piece before) old new rests.content written
    rests.read.told in
    let kept = WhereTold-at (λ before after. Only after later) old new rests.content durable rests.read.told in
    record {
      content = at.0;
      told = at.1;
      staged = written_behind rests.content at.0 payloads payload offset (journal_at_rest rests) rests.read.place
          (at.2 ∙ ap (λ bytes. put_at (offset + 1) bytes rests.content) is);
      durable = subst (λ (content : List ℕ). Only content later) (cc (kept.1, at.1)) kept.2;
    }

-- The second write leaves the old payloads or the new ones.
pub second_leaves : {seen : Option (List ℕ)} {old : List ℕ → Type 0} (offset : ℕ) {payloads : List (List ℕ)}
    {payload : List ℕ} → StagedOn seen old payloads payload → length (front_of payloads) ≡ offset
    → ArePayloads payloads → IsPayload payload
    → (image : List ℕ) → IsTornFrom old offset 1 image → StandsForEither payloads (payloads ++ payload ∷ []) image
second_leaves offset {payloads = payloads} {payload = payload} on place fit one image torn =
    torn_gate on.content image payloads payload offset on.staged place fit one
    (subst (λ (i : List ℕ). Torn offset 1 i image) (on.durable torn.0 torn.1) torn.2)

length-front_of_push : (payloads : List (List ℕ)) (payload : List ℕ) (offset : ℕ)
    → length (front_of payloads) ≡ offset
    → length (front_of (payloads ++ payload ∷ [])) ≡ offset + length (staged_bytes payload)
length-front_of_push payloads payload offset place =
    ap length (front_of-push payloads payload) ∙ length-append (front_of payloads) (open_gate ∷ body_of payload)
    ∙ omega (arith, length-append (body_of payload) (closed_gate ∷ []))

-- The new payload is on the disk.
pub second_writes : (old new : Option (List ℕ)) {may_leave later : List ℕ → Type 0} (offset : ℕ)
    {payloads : List (List ℕ)} {payload : List ℕ} (piece : List ℕ) → StagedOn old may_leave payloads payload
    → piece ≡ staged_bytes payload → length (front_of payloads) ≡ offset → ArePayloads payloads → IsPayload payload
    → WhereTold old new (λ before after. after ≡ put_at offset (open_gate ∷ []) before)
    → WhereTold old new (λ before after. Only after later)
    → RestsAt new later (offset + length piece) (payloads ++ payload ∷ [])
second_writes old new {later = later} offset {payloads = payloads} {payload = payload} piece on is_piece place fit one
    written durable =
    let at = WhereTold-at (λ before after. after ≡ put_at offset (open_gate ∷ []) before) old new on.content written
    on.told in
    let kept = WhereTold-at (λ before after. Only after later) old new on.content durable on.told in
    let all = payloads ++ payload ∷ [] in
    let front = front_of all in
    let behind = on.staged.behind in
    let is : at.0 ≡ front ++ closed_gate ∷ behind = written_gate on.content at.0 payloads payload offset on.staged
    place at.2 in
    let at_gate : length front ≡ offset + length piece = length-front_of_push payloads payload offset place
    ∙ ap (λ bytes. offset + length bytes) (sym is_piece) in
    let rest : drop (offset + length piece) at.0 ≡ closed_gate ∷ behind = ap (drop (offset + length piece)) is
    ∙ drop_at front (closed_gate ∷ behind) (offset + length piece) at_gate in
    let long : length at.0 ≡ length front + (1 + length behind) = ap length is
    ∙ length-append front (closed_gate ∷ behind) ∙ omega arith in
    let far : 21 ≤ offset + length piece = omega (
      arith,
      length-front_of payloads,
      ap length is_piece,
      length-append (body_of payload) (closed_gate ∷ []),
      length-body_of payload,
    ) in
    let fits : ArePayloads all = ArePayloads-push payloads payload fit one in
    let journal : IsJournalOf at.0 all = record {
      gate = closed_gate;
      behind = behind;
      is = is;
      closed = λ e. absurd
          (omega arith);
      fit = fits;
    } in
    let only : Only at.0 later = subst (λ (content : List ℕ). Only content later) (cc (kept.1, at.1)) kept.2 in
    record {
      content = at.0;
      read = record {
        told = at.1;
        whole = λ short. absurd (omega arith);
        front = is ∙ ap (λ back. front ++ back) (sym rest);
        place = at_gate;
        fit = fits;
      };
      gate_closed = record {
        gate = closed_gate;
        behind = behind;
        is = rest;
        closed = λ e. absurd (omega arith);
      };
      durable = λ image may. subst (λ (i : List ℕ). IsJournalOf i all) (sym (only image may)) journal;
    }

-- What a disk that gives the same gives.
pub told_same : (old new : Option (List ℕ)) (content : List ℕ) → WhereTold old new (λ before after. after ≡ before)
    → old ≡ Some content → new ≡ Some content
told_same old new content same told =
    let at = WhereTold-at (λ before after. after ≡ before) old new content same told in at.1 ∙ ap Some at.2

-- What holds of what a disk gives.
pub told_before : (P : List ℕ → Type 0) (old new : Option (List ℕ)) (content : List ℕ)
    → WhereTold old new (λ before after. P before) → old ≡ Some content → P content
told_before P old new content is told = (WhereTold-at (λ before after. P before) old new content is told).2

pub IfSome-at : (P : List ℕ → Type 0) (seen : Option (List ℕ)) (content : List ℕ) → IfSome seen P
    → seen ≡ Some content → P content
IfSome-at P seen content is told = subst (λ (s : Option (List ℕ)). IfSome s P) told is

-- What holds of all that a disk gave holds of what it gives after.
pub IfSome-same : (P : List ℕ → Type 0) (old new : Option (List ℕ))
    → WhereTold old new (λ before after. after ≡ before) → ((content : List ℕ) → old ≡ Some content → P content)
    → IfSome new P
IfSome-same P old None same each = tt
IfSome-same P None (Some after) same each = absurd same
IfSome-same P (Some before) (Some after) same each = each after (ap Some (sym same))

-- What is told of what a disk gives after.
pub IfSome-told : (P : List ℕ → Type 0) (old new : Option (List ℕ)) → WhereTold old new (λ before after. P after)
    → IfSome new P
IfSome-told P None None told = tt
IfSome-told P None (Some after) told = absurd told
IfSome-told P (Some before) None told = tt
IfSome-told P (Some before) (Some after) told = told

-- Behind a record that was written stands a closed gate.
closed_behind : (old new payload : List ℕ) (offset : ℕ) (piece : List ℕ) → offset + 1 ≤ length old
    → piece ≡ staged_bytes payload → new ≡ put_at offset (open_gate ∷ []) (put_at (offset + 1) piece old)
    → HasClosedGate new (offset + length piece)
closed_behind old new payload offset piece inside is_piece is =
    let before = take (offset + 1) old in
    let rest = drop (offset + 1 + length piece) old in
    let middle = put_at (offset + 1) piece old in
    let shown : middle ≡ before ++ (piece ++ rest) = append_assoc before piece rest in
    let before_long : length before ≡ offset + 1 = length-take-le (offset + 1) old inside in
    let middle_long : length middle ≡ length before + length (piece ++ rest) = ap length shown
    ∙ length-append before (piece ++ rest) in
    let front = take offset middle ++ open_gate ∷ [] in
    let front_long : length front ≡ offset + 1 = length_push (take offset middle) open_gate
    ∙ ap (λ n. n + 1) (length-take-le offset middle (omega arith)) in
    let behind : drop (offset + 1) middle ≡ body_of payload ++ closed_gate ∷ rest = ap (drop (offset + 1)) shown
    ∙ drop_at before (piece ++ rest) (offset + 1) before_long ∙ ap (λ bytes. bytes ++ rest) is_piece
    ∙ append_assoc (body_of payload) (closed_gate ∷ []) rest in
    let whole : new ≡ (front ++ body_of payload) ++ closed_gate ∷ rest = is ∙ ap (λ back. front ++ back) behind
    ∙ sym (append_assoc front (body_of payload) (closed_gate ∷ rest)) in
    let place : length (front ++ body_of payload) ≡ offset + length piece = length-append front (body_of payload)
    ∙ omega (arith, ap length is_piece, length-append (body_of payload) (closed_gate ∷ [])) in
    record {
      gate = closed_gate;
      behind = rest;
      is = ap (drop (offset + length piece)) whole
          ∙ drop_at (front ++ body_of payload) (closed_gate ∷ rest) (offset + length piece) place;
      closed = λ e. absurd (omega arith);
    }

-- The piece was written behind the gate, and then the gate.
abbrev IsWritten : ℕ → List ℕ → List ℕ → List ℕ → Type 0
IsWritten offset piece before after = after ≡ put_at offset (open_gate ∷ []) (put_at (offset + 1) piece before)

pub closed_after : (a b c : Option (List ℕ)) (payload : List ℕ) (offset : ℕ) (piece : List ℕ)
    → IfSome a (λ content. offset + 1 ≤ length content) → piece ≡ staged_bytes payload
    → WhereTold a b (λ before after. after ≡ put_at (offset + 1) piece before)
    → WhereTold b c (λ before after. after ≡ put_at offset (open_gate ∷ []) before)
    → IfSome c (λ content. HasClosedGate content (offset + length piece))
closed_after a b c payload offset piece inside is_piece first second = shut a c inside all
  where
    all : WhereTold a c (IsWritten offset piece)
    all =
        WhereTold-then (λ before after. after ≡ put_at (offset + 1) piece before)
        (λ before after. after ≡ put_at offset (open_gate ∷ []) before) (IsWritten offset piece) a b c first
        second (λ x y z is gate. gate ∙ ap (put_at offset (open_gate ∷ [])) is)

    shut : (seen now : Option (List ℕ)) → IfSome seen (λ content. offset + 1 ≤ length content)
        → WhereTold seen now (IsWritten offset piece)
        → IfSome now (λ content. HasClosedGate content (offset + length piece))
    shut None None inside told = tt
    shut None (Some y) inside told = absurd told
    shut (Some x) None inside told = tt
    shut (Some x) (Some y) inside told = closed_behind x y payload offset piece inside is_piece told
