-- What each of a commit's writes makes of a journal, whole or torn.
use Rattle.std.proofs.Common.{◌≡◌, ◌≢◌, inl, inr, ⊎_elim, ℕ, ◌+◌, ◌<◌, List, [], ◌∷◌, ◌++◌, Option, length, take}
use Rattle.std.proofs.Common.{drop, get_or, sym, ◌∙◌, ap, arith}
use Rattle.std.proofs.lemmas.List.{append_assoc, append-nil, length-append, length_push, take-append-drop, take_at}
use Rattle.std.proofs.lemmas.List.{drop_at, drop_more}
use Rattle.std.proofs.lemmas.Bool.{cases_eq}
use Rattle.mx_outside.specs.Disk.{Torn, put_at}
use Rattle.mx_journal.specs.Image.{open_gate, closed_gate, IsPayload, ArePayloads, body_of, records_of, front_of}
use Rattle.mx_journal.specs.Image.{header, IsJournalOf, StandsForEither}
use Rattle.mx_journal.specs.Journal.{ReadTo, HasClosedGate}
use Rattle.mx_journal.specs.Held.{staged_bytes}

-- These payloads, a closed gate, and a whole record behind it.
pub record IsStagedIn (content : List ℕ) (payloads : List (List ℕ)) (payload : List ℕ) : Type 0 where
  pub gate : ℕ
  pub behind : List ℕ
  pub is : content ≡ front_of payloads ++ gate ∷ (body_of payload ++ closed_gate ∷ behind)
  pub closed : gate ≢ open_gate

pub IsJournalOf-read : {seen : Option (List ℕ)} {offset : ℕ} {content : List ℕ} {payloads : List (List ℕ)}
    → ReadTo seen offset content payloads → HasClosedGate content offset → IsJournalOf content payloads
IsJournalOf-read {payloads = payloads} read at = record {
  gate = at.gate;
  behind = at.behind;
  is = read.front ∙ ap (λ rest. front_of payloads ++ rest) at.is;
  closed = at.closed;
  fit = read.fit;
}

pub records_of-push : (payloads : List (List ℕ)) (payload : List ℕ)
    → records_of (payloads ++ payload ∷ []) ≡ records_of payloads ++ open_gate ∷ body_of payload
records_of-push [] payload = ap (λ rest. open_gate ∷ rest) (append-nil (body_of payload))
records_of-push (p ∷ payloads) payload =
    ap (λ rest. open_gate ∷ (body_of p ++ rest)) (records_of-push payloads payload)
    ∙ ap (λ rest. open_gate ∷ rest) (sym (append_assoc (body_of p) (records_of payloads)
    (open_gate ∷ body_of payload)))

pub front_of-push : (payloads : List (List ℕ)) (payload : List ℕ)
    → front_of (payloads ++ payload ∷ []) ≡ front_of payloads ++ open_gate ∷ body_of payload
front_of-push payloads payload =
    ap (λ rest. header ++ rest) (records_of-push payloads payload)
    ∙ sym (append_assoc header (records_of payloads) (open_gate ∷ body_of payload))

pub ArePayloads-push : (payloads : List (List ℕ)) (payload : List ℕ) → ArePayloads payloads → IsPayload payload
    → ArePayloads (payloads ++ payload ∷ [])
ArePayloads-push [] payload fit one = (one, tt)
ArePayloads-push (p ∷ payloads) payload fit one = (fit.0, ArePayloads-push payloads payload fit.1 one)

-- A list up to one element behind its front.
take_one_more : (front rest : List ℕ) (x n : ℕ) → length front ≡ n → take (n + 1) (front ++ x ∷ rest) ≡ front ++ x ∷ []
take_one_more front rest x n is =
    ap (take (n + 1)) (sym (append_assoc front (x ∷ []) rest))
    ∙ take_at (front ++ x ∷ []) rest (n + 1) (length_push front x ∙ ap (λ k. k + 1) is)

drop_one_more : (front rest : List ℕ) (x n : ℕ) → length front ≡ n → drop (n + 1) (front ++ x ∷ rest) ≡ rest
drop_one_more front rest x n is =
    ap (drop (n + 1)) (sym (append_assoc front (x ∷ []) rest))
    ∙ drop_at (front ++ x ∷ []) rest (n + 1) (length_push front x ∙ ap (λ k. k + 1) is)

-- Whatever stands behind a closed gate, the payloads are the same.
pub torn_behind : (content image : List ℕ) (payloads : List (List ℕ)) (offset n : ℕ) → IsJournalOf content payloads
    → length (front_of payloads) ≡ offset → Torn (offset + 1) n content image → IsJournalOf image payloads
torn_behind content image payloads offset n journal place torn =
    let f = front_of payloads in
    let before : take (offset + 1) image ≡ f ++ journal.gate ∷ [] = torn.before ∙ ap (take (offset + 1)) journal.is
    ∙ take_one_more f journal.behind journal.gate offset place in
    record {
      gate = journal.gate;
      behind = drop (offset + 1) image;
      is = sym (take-append-drop (offset + 1) image) ∙ ap (λ front. front ++ drop (offset + 1) image) before
          ∙ append_assoc f (journal.gate ∷ []) (drop (offset + 1) image);
      closed = journal.closed;
      fit = journal.fit;
    }

pub written_behind : (old new : List ℕ) (payloads : List (List ℕ)) (payload : List ℕ) (offset : ℕ)
    → IsJournalOf old payloads → length (front_of payloads) ≡ offset
    → new ≡ put_at (offset + 1) (staged_bytes payload) old → IsStagedIn new payloads payload
written_behind old new payloads payload offset journal place is =
    let f = front_of payloads in
    let rest = drop (offset + 1 + length (staged_bytes payload)) old in
    let before : take (offset + 1) old ≡ f ++ journal.gate ∷ [] = ap (take (offset + 1)) journal.is
    ∙ take_one_more f journal.behind journal.gate offset place in
    record {
      gate = journal.gate;
      behind = rest;
      is = is ∙ ap (λ front. front ++ staged_bytes payload ++ rest) before ∙ simp append_assoc;
      closed = journal.closed;
    }

-- A gate that is torn opens its record or it doesn't.
pub torn_gate : (content image : List ℕ) (payloads : List (List ℕ)) (payload : List ℕ) (offset : ℕ)
    → IsStagedIn content payloads payload → length (front_of payloads) ≡ offset → ArePayloads payloads
    → IsPayload payload
    → Torn offset 1 content image → StandsForEither payloads (payloads ++ payload ∷ []) image
torn_gate content image payloads payload offset staged place fit one torn =
    let f = front_of payloads in
    let rest = body_of payload ++ closed_gate ∷ staged.behind in
    let before : take offset image ≡ f = torn.before ∙ ap (take offset) staged.is
    ∙ take_at f (staged.gate ∷ rest) offset place in
    let after : drop (offset + 1) image ≡ rest = torn.after ∙ ap (drop (offset + 1)) staged.is
    ∙ drop_one_more f rest staged.gate offset place in
    let long : length content ≡ length f + (length rest + 1) = ap length staged.is
    ∙ length-append f (staged.gate ∷ rest) ∙ omega arith in
    let inside : offset < length image = omega (arith, torn.no_shorter) in
    let gate = get_or image offset 0 in
    let whole : image ≡ f ++ gate ∷ rest = sym (take-append-drop offset image)
    ∙ ap (λ front. front ++ drop offset image) before
    ∙ ap (λ back. f ++ back) (drop_more image offset 0 inside ∙ ap (λ back. gate ∷ back) after) in
    ⊎_elim (λ (opens : gate ≡ open_gate). inr (inr (record {
      gate = closed_gate;
      behind = staged.behind;
      is = whole ∙ ap (λ g. f ++ g ∷ rest) opens
          ∙ sym (append_assoc f (open_gate ∷ body_of payload) (closed_gate ∷ staged.behind))
          ∙ ap (λ front. front ++ closed_gate ∷ staged.behind) (sym (front_of-push payloads payload));
      closed = λ e. absurd (omega arith);
      fit = ArePayloads-push payloads payload fit one;
    }))) (λ closed. inl (inr (record {
      gate = gate;
      behind = rest;
      is = whole;
      closed = closed;
      fit = fit;
    }))) (cases_eq gate open_gate)

pub written_gate : (old new : List ℕ) (payloads : List (List ℕ)) (payload : List ℕ) (offset : ℕ)
    (staged : IsStagedIn old payloads payload) → length (front_of payloads) ≡ offset
    → new ≡ put_at offset (open_gate ∷ []) old
    → new ≡ front_of (payloads ++ payload ∷ []) ++ closed_gate ∷ staged.behind
written_gate old new payloads payload offset staged place is =
    let f = front_of payloads in
    let rest = body_of payload ++ closed_gate ∷ staged.behind in
    let before : take offset old ≡ f = ap (take offset) staged.is ∙ take_at f (staged.gate ∷ rest) offset place in
    let after : drop (offset + 1) old ≡ rest = ap (drop (offset + 1)) staged.is
    ∙ drop_one_more f rest staged.gate offset place in
    is ∙ ap (λ front. front ++ open_gate ∷ [] ++ drop (offset + 1) old) before
    ∙ ap (λ back. f ++ open_gate ∷ [] ++ back) after ∙ append_assoc f (open_gate ∷ []) rest
    ∙ sym (append_assoc f (open_gate ∷ body_of payload) (closed_gate ∷ staged.behind))
    ∙ ap (λ front. front ++ closed_gate ∷ staged.behind) (sym (front_of-push payloads payload))
