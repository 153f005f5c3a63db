-- Each payload is that of one entry, and its text spells the entry's input.
use Rattle.std.proofs.Common.{rules, codes, ◌≡◌, ◌<◌, ◌^◌, ℕ, List, [], ◌∷◌, ◌++◌, length, drop, take, cond, nat_eq}
use Rattle.std.proofs.Common.{◌≤◌, Option, Some, None, Result, Ok, Err, refl, ap, sym, subst, ◌∙◌, arith, inl, inr, ◌⊎◌}
use Rattle.std.specs.Result.{result_ok}
use Rattle.std.specs.Int.{w64, to_le_bytes, from_le_bytes}
use Rattle.std.proofs.lemmas.Nat.{from_le_bytes-to_le_bytes_8}
use Rattle.json.specs.Print.{escape_byte}
use Rattle.mx_json.specs.declared.value.Json.{Json, Text, the_lemmas}
use Rattle.mx_json.specs.Canonical.{canonical, object_text}
use Rattle.mx_json.proofs.CanonicalLemmas.{canonical-Object}
use Rattle.mx_json.specs.Gives.{Gives}
use Rattle.mx_json.specs.Reading.{read_json}
use Rattle.mx_json.proofs.JsonLemmas.{is_valid_parts}
use Rattle.mx_json.proofs.RoundTrip.{read_json-canonical}
use Rattle.mx_records.specs.declared.entry.Entry.{Entry}
use Rattle.mx_records.specs.declared.entry.Entry.TheVariants.{Input as InputEntry, Outcome as OutcomeEntry}
use Rattle.mx_records.specs.declared.entry.Outcome.{Outcome}
use Rattle.mx_records.specs.declared.entry.Outcome.TheVariants.{Pushed, GaveUp, Rejected}
use Rattle.mx_records.specs.declared.entry_error.EntryError.{EntryError}
use Rattle.mx_records.specs.declared.entry_error.EntryError.TheVariants.{BadEntry, OutOfMemory}
use Rattle.mx_records.specs.declared.input.Input.{Input}
use Rattle.mx_records.specs.declared.input.Input.TheVariants.{Event}
use Rattle.mx_records.specs.Entries.{eight_bytes, input_read, input_spelled, outcome_tag, payload_of, pusher_of}
use Rattle.mx_records.specs.Entries.{settled_by, IsEntry, IsPayloadOf}
use Rattle.mx_records.specs.Normal.{fields_given, given_pairs, normal_of, IsNormal}

-- the text of a normal input spells it
pub spelled-canonical : (input : Input) → IsNormal input → input_spelled (canonical (normal_of input)) ≡ Some input
unfolding input_spelled
spelled-canonical input normal =
    ap input_read
    (read_json-canonical (normal_of input) 127 normal.valid (is_valid_parts (normal_of input) normal.valid).2)
    ∙ ap result_ok normal.reads

-- ---- bytes that begin with the tag of an input

tail-same : (a b : ℕ) (xs ys : List ℕ) → a ∷ xs ≡ b ∷ ys → xs ≡ ys
tail-same a b xs ys is = cc

head-same : (a b : ℕ) (xs ys : List ℕ) → a ∷ xs ≡ b ∷ ys → a ≡ b
head-same a b xs ys is = cc

no_input_tag : (outcome : Outcome) → 1 ≡ outcome_tag outcome → ⊥
no_input_tag (Pushed pusher position) is = omega (arith, is)
no_input_tag (GaveUp pusher position) is = omega (arith, is)
no_input_tag (Rejected pusher position) is = omega (arith, is)

-- an entry whose payload has the tag of an input is the input that the text spells
pub input-entry : (payload text : List ℕ) (entry : Entry) → payload ≡ 1 ∷ text → IsPayloadOf payload entry
    → (input : Input) × (entry ≡ InputEntry input) × (input_spelled text ≡ Some input)
    × (payload ≡ payload_of (InputEntry input))
unfolding payload_of
input-entry payload text (OutcomeEntry outcome) is of =
    absurd (no_input_tag outcome (head-same _ _ _ _ (sym is ∙ of.payload)))
input-entry payload text (InputEntry input) is of = (
  input,
  refl,
  ap input_spelled (tail-same _ _ _ _ (sym is ∙ of.payload)) ∙ spelled-canonical input of.entry_is,
  of.payload,
)

-- ---- outcomes

pub payload-long : (outcome : Outcome) → length (payload_of (OutcomeEntry outcome)) ≡ 17
unfolding payload_of
payload-long outcome = refl

-- two numbers, by their bytes
numbers-same : (a b p q : ℕ) → a < 2 ^ 64 → b < 2 ^ 64 → p < 2 ^ 64 → q < 2 ^ 64
    → eight_bytes a ++ eight_bytes b ≡ eight_bytes p ++ eight_bytes q → (a ≡ p) × (b ≡ q)
numbers-same a b p q below_a below_b below_p below_q is = (
  sym (from_le_bytes-to_le_bytes_8 a below_a) ∙ ap (λ bytes. from_le_bytes w64 (take 8 bytes)) is
      ∙ from_le_bytes-to_le_bytes_8 p below_p,
  sym (from_le_bytes-to_le_bytes_8 b below_b) ∙ ap (λ bytes. from_le_bytes w64 (drop 8 bytes)) is
      ∙ from_le_bytes-to_le_bytes_8 q below_q,
)

-- an outcome, by its tag, its pusher and its position
abbrev by_tag : ℕ → ℕ → ℕ → Outcome
by_tag tag pusher position =
    cond (nat_eq tag 2) (Pushed pusher position)
    (cond (nat_eq tag 3) (GaveUp pusher position) (Rejected pusher position))

rebuilt : (outcome : Outcome) → by_tag (outcome_tag outcome) (pusher_of outcome) (settled_by outcome) ≡ outcome
rebuilt (Pushed pusher position) = refl
rebuilt (GaveUp pusher position) = refl
rebuilt (Rejected pusher position) = refl

-- no two outcomes share a payload
outcome-same : (one other : Outcome) → IsEntry (OutcomeEntry one) → IsEntry (OutcomeEntry other)
    → payload_of (OutcomeEntry one) ≡ payload_of (OutcomeEntry other) → one ≡ other
unfolding payload_of
outcome-same one other fits fits_other is =
    let tags : outcome_tag one ≡ outcome_tag other = head-same _ _ _ _ is in
    let rests = tail-same _ _ _ _ is in
    let numbers = numbers-same (pusher_of one) (settled_by one) (pusher_of other)
    (settled_by other) fits.0 fits.1 fits_other.0 fits_other.1 rests in
    sym (rebuilt one) ∙ (λ i. by_tag (tags i) (numbers.0 i) (numbers.1 i)) ∙ rebuilt other

tags-same : (input : Input) (outcome : Outcome) → payload_of (InputEntry input) ≡ payload_of (OutcomeEntry outcome)
    → 1 ≡ outcome_tag outcome
unfolding payload_of
tags-same input outcome is = head-same _ _ _ _ is

-- an entry with the payload of an outcome is that outcome
pub outcome-entry : (payload : List ℕ) (entry : Entry) (outcome : Outcome) → payload ≡ payload_of (OutcomeEntry outcome)
    → IsEntry (OutcomeEntry outcome) → IsPayloadOf payload entry → entry ≡ OutcomeEntry outcome
outcome-entry payload (OutcomeEntry other) outcome is fits of =
    ap (λ o. OutcomeEntry o) (outcome-same other outcome of.entry_is fits (sym of.payload ∙ is))
outcome-entry payload (InputEntry input) outcome is fits of =
    absurd (no_input_tag outcome (tags-same input outcome (sym of.payload ∙ is)))

-- bytes with another tag than those of entries, and bytes that are no outcome's, are no payload

pub no_entry : (tag : ℕ) (rest : List ℕ) (entry : Entry) → ((1 ≤ tag) × (tag ≤ 4) → ⊥)
    → IsPayloadOf (tag ∷ rest) entry → ⊥
unfolding payload_of
no_entry tag rest (InputEntry input) out of =
    let is : tag ≡ 1 = head-same _ _ _ _ of.payload in out (omega (arith, is), omega (arith, is))
no_entry tag rest (OutcomeEntry (Pushed pusher position)) out of =
    let is : tag ≡ 2 = head-same _ _ _ _ of.payload in out (omega (arith, is), omega (arith, is))
no_entry tag rest (OutcomeEntry (GaveUp pusher position)) out of =
    let is : tag ≡ 3 = head-same _ _ _ _ of.payload in out (omega (arith, is), omega (arith, is))
no_entry tag rest (OutcomeEntry (Rejected pusher position)) out of =
    let is : tag ≡ 4 = head-same _ _ _ _ of.payload in out (omega (arith, is), omega (arith, is))

pub no_outcome : (tag : ℕ) (rest : List ℕ) (entry : Entry) → 2 ≤ tag
    → ((outcome : Outcome) → tag ∷ rest ≡ payload_of (OutcomeEntry outcome) → ⊥) → IsPayloadOf (tag ∷ rest) entry → ⊥
unfolding payload_of
no_outcome tag rest (OutcomeEntry outcome) above none of = none outcome of.payload
no_outcome tag rest (InputEntry input) above none of =
    let is : tag ≡ 1 = head-same _ _ _ _ of.payload in omega (arith, is)

some_bytes : (entry : Entry) → length (payload_of entry) ≡ 0 → ⊥
unfolding payload_of
some_bytes (InputEntry input) is = omega (arith, is)
some_bytes (OutcomeEntry outcome) is = omega (arith, is)

pub nothing : (payload : List ℕ) (entry : Entry) → length payload ≡ 0 → IsPayloadOf payload entry → ⊥
nothing payload entry none of = some_bytes entry (ap length (sym of.payload) ∙ none)

-- ---- inputs, by their text

-- where the text spells no input, there is no entry
pub unspelled : (payload text : List ℕ) (entry : Entry) → payload ≡ 1 ∷ text → IsPayloadOf payload entry
    → None ≡ input_spelled text → ⊥
unspelled payload text entry is of none =
    let found = input-entry payload text entry is of in
    let no : None ≡ Some found.0 = none ∙ found.2 in
    cc

-- where it spells one, the entry is that input
pub spelled-entry : (payload text : List ℕ) (entry : Entry) (input : Input) → payload ≡ 1 ∷ text
    → IsPayloadOf payload entry
    → Some input ≡ input_spelled text → (entry ≡ InputEntry input) × (payload ≡ payload_of (InputEntry input))
spelled-entry payload text entry input is of has =
    let found = input-entry payload text entry is of in
    let both : Some input ≡ Some found.0 = has ∙ found.2 in
    let same : found.0 ≡ input = cc in
    (found.1 ∙ ap (λ i. InputEntry i) same, found.3 ∙ ap (λ i. payload_of (InputEntry i)) same)

-- ---- events

-- the word of an event, as it is written
event-word : canonical (Text (codes "event")) ≡ 34 ∷ codes "event" ++ 34 ∷ []
unfolding escape_byte
event-word = search (rules, the_lemmas)

-- the payload of an event, as it is written
pub event-payload : (event : Json) (front : List ℕ) → front ≡ 1 ∷ codes "{\"cmd\":\"event\",\"event\":"
    → payload_of (InputEntry (Event event)) ≡ (front ++ canonical event) ++ 125 ∷ []
unfolding payload_of escape_byte
event-payload event front is =
    ap (λ text. 1 ∷ text) (canonical-Object (record { pairs = given_pairs (fields_given (Event event)) })
    ∙ ap
    (λ cmd. object_text (record { pairs = (codes "cmd", cmd) ∷ (codes "event", canonical event) ∷ [] })) event-word)
    ∙ ap (λ f. (f ++ canonical event) ++ 125 ∷ []) (sym is)

-- the same, step by step
pub event-written : (event : Json) (front text whole : List ℕ) → front ≡ 1 ∷ codes "{\"cmd\":\"event\",\"event\":"
    → text ≡ front ++ canonical event → whole ≡ text ++ 125 ∷ [] → whole ≡ payload_of (InputEntry (Event event))
event-written event front text whole begun on ended =
    ended ∙ ap (λ bytes. bytes ++ 125 ∷ []) on ∙ sym (event-payload event front begun)
