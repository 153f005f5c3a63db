-- How the payloads of valid histories name their entries.
use Rattle.std.proofs.Common.{◌≡◌, ◌≢◌, ℕ, ◌<◌, ◌≤◌, Bool, true, false, ◌||◌, List, [], ◌∷◌, ◌++◌, length, map, Option}
use Rattle.std.proofs.Common.{None, Some, Result, Ok, cond, nat_lt, inl, inr, refl, sym, ap, subst, ◌∙◌, arith, rules}
use Rattle.std.specs.List.{All}
use Rattle.std.specs.Option.{option_or}
use Rattle.std.proofs.lemmas.Bool.Decides.{nat_tests}
use Rattle.std.proofs.lemmas.List.{append-nil, append_assoc}
use Rattle.std.proofs.lemmas.List.Elements.{All-head, All-tail}
use Rattle.mx_json.specs.Canonical.{canonical}
use Rattle.mx_json.specs.Reading.{read_json}
use Rattle.mx_json.proofs.JsonLemmas.{is_valid_parts}
use Rattle.mx_json.proofs.RoundTrip.{read_json-canonical}
use Rattle.mx_journal.specs.Image.{payload_limit, StandsForEither, StandsForPayloads}
use Rattle.mx_records.specs.declared.input.Input.{Input}
use Rattle.mx_records.specs.declared.entry.Entry.{Entry}
use Rattle.mx_records.specs.declared.entry.Entry.TheVariants.{Input as InputEntry, Outcome as OutcomeEntry}
use Rattle.mx_records.specs.declared.entry.Outcome.{Outcome}
use Rattle.mx_records.specs.declared.entry.Outcome.TheVariants.{Pushed, GaveUp, Rejected}
use Rattle.mx_records.specs.Entries.{payload_of}
use Rattle.mx_records.specs.Forms.{input_in}
use Rattle.mx_records.specs.History.{History, additions_after, with_entry, with_input}
use Rattle.mx_records.specs.Normal.{normal_of, IsNormal}
use Rattle.mx_records.specs.Refusing.{IsAcceptable, IsAcceptableInput, IsValid, deepest_input, is_full, is_too_long}
use Rattle.mx_records.specs.Refusing.{longest_payload, payloads_of, refusal_of, refusal_of_content}
use Rattle.mx_json.specs.Json.{depth_of}
use Rattle.mx_records.specs.Snapshot.{Snapshot, snapshot_of}
use Rattle.mx_records.specs.declared.refusal.Refusal.{Refusal}
use Rattle.mx_records.specs.declared.refusal.Refusal.TheVariants.{EntryTooLong, Full}
use Rattle.mx_store.specs.Standing.{IsNoNextPayload, StandsForEitherHistory}
use Rattle.mx_store.specs.Store.{Knows}
use Rattle.mx_records.proofs.ValidLemmas.{IsAcceptableThere, IsValid-none, IsValid-push, payloads_of-none}
use Rattle.mx_records.proofs.ValidLemmas.{payloads_of-push, valid-next}

-- An input has a payload of its own.
pub same_payload : (a b : Input) → IsNormal a → IsNormal b
    → payload_of (InputEntry a) ≡ payload_of (InputEntry b) → a ≡ b
unfolding payload_of
same_payload a b na nb same =
    let texts : canonical (normal_of a) ≡ canonical (normal_of b) = cc in
    let first = read_json-canonical (normal_of a) 127 na.valid (is_valid_parts (normal_of a) na.valid).2 in
    let second = read_json-canonical (normal_of b) 127 nb.valid (is_valid_parts (normal_of b) nb.valid).2 in
    let values : Ok (normal_of a) ≡ Ok (normal_of b) = sym first ∙ ap (λ text. read_json text 127) texts ∙ second in
    let objects : normal_of a ≡ normal_of b = cc in
    let inputs : Ok a ≡ Ok b = sym na.reads ∙ ap input_in objects ∙ nb.reads in
    cc

-- Entries that may come next are the same where their payloads are.
pub same_entry : (server : List ℕ) (h : History) (a b : Entry) → IsValid server h → IsAcceptable server h a
    → IsAcceptable server h b → payload_of a ≡ payload_of b → a ≡ b
same_entry server h a b valid first second same =
    let one = valid-next server h a valid first in
    let other = valid-next server h b valid second in
    let payloads : payload_of (InputEntry one.0) ≡ payload_of (InputEntry other.0) =
    ap payload_of (sym one.1) ∙ same ∙ ap payload_of other.1 in
    one.1 ∙ ap InputEntry (same_payload one.0 other.0 one.2.normal other.2.normal payloads) ∙ sym other.1

-- each of these entries is acceptable after those before it, behind a history
abbrev pub AreValidAfter : List ℕ → History → List Entry → Type 0
AreValidAfter server before entries = All (IsAcceptableThere server) (additions_after before entries)

pub first_valid : (server : List ℕ) (before : History) (entry : Entry) (entries : List Entry)
    → AreValidAfter server before (entry ∷ entries) → IsAcceptable server before entry
unfolding additions_after
first_valid server before entry entries valid =
    All-head (IsAcceptableThere server) (record { before = before; entry = entry })
    (additions_after (with_entry before entry) entries) valid

pub rest_valid : (server : List ℕ) (before : History) (entry : Entry) (entries : List Entry)
    → AreValidAfter server before (entry ∷ entries) → AreValidAfter server (with_entry before entry) entries
unfolding additions_after
rest_valid server before entry entries valid =
    All-tail (IsAcceptableThere server) (record { before = before; entry = entry })
    (additions_after (with_entry before entry) entries) valid

-- Valid histories with the same payloads are the same.
pub same_entries : (server : List ℕ) (before bs cs : List Entry) → IsValid server before
    → AreValidAfter server before bs → AreValidAfter server before cs → payloads_of bs ≡ payloads_of cs → bs ≡ cs
unfolding payloads_of
same_entries server before [] [] valid vb vc same = refl
same_entries server before [] (c ∷ cs) valid vb vc same = absurd cc
same_entries server before (b ∷ bs) [] valid vb vc same = absurd cc
same_entries server before (b ∷ bs) (c ∷ cs) valid vb vc same =
    let heads : payload_of b ≡ payload_of c = cc in
    let first = first_valid server before b bs vb in
    let one = same_entry server before b c valid first (first_valid server before c cs vc) heads in
    let tails : payloads_of bs ≡ payloads_of cs = cc in
    let rest = same_entries server (with_entry before b) bs cs (IsValid-push server before b valid first)
    (rest_valid server before b bs vb)
    (subst (λ (e : Entry). AreValidAfter server (with_entry before e) cs) (sym one) (rest_valid server before c cs vc))
    tails in
    cc (one, rest)

-- Where the payloads of one valid history begin with those of another, the next one is that of an entry
-- that may come next.
pub next_entry : (server : List ℕ) (before bs cs : List Entry) (payload : List ℕ) (more : List (List ℕ))
    → IsValid server before → AreValidAfter server before bs → AreValidAfter server before cs
    → payloads_of cs ≡ payloads_of bs ++ payload ∷ more
    → (entry : Entry) × IsAcceptable server (before ++ bs) entry × (payload ≡ payload_of entry)
unfolding payloads_of
next_entry server before [] [] payload more valid vb vc same = absurd cc
next_entry server before [] (c ∷ cs) payload more valid vb vc same =
    let heads : payload ≡ payload_of c = cc in (
      c,
      subst (λ (h : History). IsAcceptable server h c) (sym (append-nil before)) (first_valid server before c cs vc),
      heads,
    )
next_entry server before (b ∷ bs) [] payload more valid vb vc same = absurd cc
next_entry server before (b ∷ bs) (c ∷ cs) payload more valid vb vc same =
    let heads : payload_of b ≡ payload_of c = cc in
    let first = first_valid server before b bs vb in
    let one = same_entry server before b c valid first (first_valid server before c cs vc) heads in
    let tails : payloads_of cs ≡ payloads_of bs ++ payload ∷ more = cc in
    let next = next_entry server (with_entry before b) bs cs payload more (IsValid-push server before b valid first)
    (rest_valid server before b bs vb)
    (subst (λ (e : Entry). AreValidAfter server (with_entry before e) cs) (sym one) (rest_valid server before c cs vc))
    tails in
    (next.0, subst (λ (h : History). IsAcceptable server h next.0) (append_assoc before (b ∷ []) bs) next.1, next.2)

pub same_histories : (server : List ℕ) (g h : History) → IsValid server g → IsValid server h
    → payloads_of g ≡ payloads_of h → g ≡ h
unfolding IsValid
same_histories server g h vg vh same = same_entries server [] g h (IsValid-none server) vg vh same

pub next_of_history : (server : List ℕ) (h g : History) (payload : List ℕ) (more : List (List ℕ))
    → IsValid server h → IsValid server g → payloads_of g ≡ payloads_of h ++ payload ∷ more
    → (entry : Entry) × IsAcceptable server h entry × (payload ≡ payload_of entry)
unfolding IsValid
next_of_history server h g payload more vh vg same =
    next_entry server [] h g payload more (IsValid-none server) vh vg same

-- A payload that is that of no input which may come next is that of no entry which may.
pub no_next_payload : (server : List ℕ) (h : History) (payload : List ℕ) → IsValid server h
    → ((input : Input) → IsAcceptableInput server h input → payload ≡ payload_of (InputEntry input) → ⊥)
    → IsNoNextPayload server h payload
no_next_payload server h payload valid none = λ entry next same.
    let one = valid-next server h entry valid next in
    none one.0 one.2 (same ∙ ap payload_of one.1)

pub payload_some : (entry : Entry) → 0 < length (payload_of entry)
unfolding payload_of
payload_some (InputEntry input) = search rules
payload_some (OutcomeEntry outcome) = search rules

not_long : (content rest : Option Refusal) (long : Bool)
    → option_or content (cond long (Some EntryTooLong) rest) ≡ None → long ≡ false
not_long None rest false is = refl
not_long None rest true is = absurd cc
not_long (Some refusal) rest long is = absurd cc

left_false : (a b : Bool) → (a || b) ≡ false → a ≡ false
left_false false b is = refl
left_false true b is = is

pub payload_fits : (server : List ℕ) (h : History) (input : Input) → IsAcceptableInput server h input
    → length (payload_of (InputEntry input)) ≤ payload_limit
unfolding refusal_of is_too_long
payload_fits server h input next =
    let long = is_too_long input in
    let short : nat_lt longest_payload (length (payload_of (InputEntry input))) ≡ false =
    left_false (nat_lt longest_payload (length (payload_of (InputEntry input))))
    (nat_lt deepest_input (depth_of (normal_of input)))
    (not_long (refusal_of_content server h input) (cond (is_full h) (Some Full) None) long next.unrefused) in
    grind (arith, nat_tests, short)

pub entry_fits : (server : List ℕ) (h : History) (entry : Entry) → IsValid server h → IsAcceptable server h entry
    → length (payload_of entry) ≤ payload_limit
entry_fits server h entry valid next =
    let one = valid-next server h entry valid next in
    subst (λ (e : Entry). length (payload_of e) ≤ payload_limit) (sym one.1) (payload_fits server h one.0 one.2)

-- What holds after one input more.
pub knows_more : (server before : List ℕ) (shown earlier : Snapshot) (h : History) (input : Input) → server ≡ before
    → Knows before earlier h → IsAcceptableInput before h input → shown ≡ snapshot_of server (with_input h input)
    → Knows server shown (with_input h input)
knows_more server before shown earlier h input same knows next is = record {
  valid = subst (λ (s : List ℕ). IsValid s (with_input h input)) (sym same)
      (IsValid-push before h (InputEntry input) knows.valid next);
  is = is;
}

-- What stands for the payloads of a history, or for one more, stands for the history or for it with the input.
pub either_history : (server : List ℕ) (h : History) (input : Input) (staged image : List ℕ) → IsValid server h
    → IsAcceptableInput server h input → staged ≡ payload_of (InputEntry input)
    → StandsForEither (payloads_of h) (payloads_of h ++ staged ∷ []) image
    → StandsForEitherHistory server h (with_input h input) image
either_history server h input staged image valid next is (inl old) = inl (record { valid = valid; payloads = old })
either_history server h input staged image valid next is (inr new) = inr (record {
  valid = IsValid-push server h (InputEntry input) valid next;
  payloads = subst (λ (ps : List (List ℕ)). StandsForPayloads image ps)
      (ap (λ (p : List ℕ). payloads_of h ++ p ∷ []) is ∙ sym (payloads_of-push h (InputEntry input))) new;
})
