-- How the living pushers and the validity of a history go on by one entry; that a valid history has
-- inputs alone, since no pusher is built yet.
use Rattle.std.proofs.Common.{◌≡◌, ℕ, ◌+◌, List, [], ◌∷◌, ◌++◌, find, length, map, Option, Some, None, refl, ap, sym}
use Rattle.std.proofs.Common.{subst, ◌∙◌}
use Rattle.std.specs.List.{All, filter_map, fold}
use Rattle.std.proofs.lemmas.List.{length-map, map-append}
use Rattle.std.proofs.lemmas.List.Elements.{All-nil, All-pop, All-push}
use Rattle.std.proofs.lemmas.List.Sums.{fold-append}
use Rattle.mx_records.specs.declared.entry.Entry.{Entry}
use Rattle.mx_records.specs.declared.entry.Entry.TheVariants.{Input as InputEntry, Outcome as OutcomeEntry}
use Rattle.mx_records.specs.declared.entry.Outcome.{Outcome}
use Rattle.mx_records.specs.declared.entry.Outcome.TheVariants.{Pushed, GaveUp, Rejected}
use Rattle.mx_records.specs.declared.input.Input.{Input}
use Rattle.mx_records.specs.declared.input.Input.TheVariants.{Event, Edit, Receipt, Pusher}
use Rattle.mx_records.specs.Entries.{payload_of, pusher_of}
use Rattle.mx_records.specs.History.{Addition, History, additions, additions_after, inputs_in, inputs_of}
use Rattle.mx_records.specs.History.{position_after, with_entry, with_input, with_outcome}
use Rattle.mx_records.specs.Pushers.{Living, after_addition, after_entry, has_number, pushers_of}
use Rattle.mx_records.specs.Refusing.{IsAcceptable, IsAcceptableInput, IsAcceptableOutcome, IsBuilt, IsValid}
use Rattle.mx_records.specs.Refusing.{payloads_of}
use Rattle.mx_records.proofs.HistoryLemmas.{additions_after-push, by_end, inputs_in-push}

-- ---- one entry more

-- an entry changes the pushers before it
pub pushers_of-push : (h : History) (entry : Entry)
    → pushers_of (with_entry h entry) ≡ after_entry (position_after h) entry (pushers_of h)
unfolding pushers_of
pushers_of-push h entry =
    ap (fold after_addition []) (additions_after-push [] h entry)
    ∙ fold-append after_addition [] (additions h) (record { before = h; entry = entry } ∷ [])

-- the entry of an addition is acceptable after those before it
abbrev pub IsAcceptableThere : List ℕ → Addition → Type 0
IsAcceptableThere server addition = IsAcceptable server addition.before addition.entry

pub IsValid-none : (server : List ℕ) → IsValid server []
unfolding IsValid additions_after
IsValid-none server = All-nil (IsAcceptableThere server)

pub IsValid-push : (server : List ℕ) (h : History) (entry : Entry) → IsValid server h → IsAcceptable server h entry
    → IsValid server (with_entry h entry)
unfolding IsValid
IsValid-push server h entry valid next =
    subst (All (IsAcceptableThere server)) (sym (additions_after-push [] h entry))
    (All-push (IsAcceptableThere server) (additions h) (record { before = h; entry = entry }) valid next)

-- all but the last entry of a valid history are one, and the last is acceptable after them
pub IsValid-parts : (server : List ℕ) (h : History) (entry : Entry) → IsValid server (with_entry h entry)
    → IsValid server h × IsAcceptable server h entry
unfolding IsValid
IsValid-parts server h entry valid =
    All-pop (IsAcceptableThere server) (additions (with_entry h entry)) (additions h)
    (Some (record { before = h; entry = entry })) (additions_after-push [] h entry) valid

pub payloads_of-none : payloads_of [] ≡ []
unfolding payloads_of
payloads_of-none = refl

pub payloads_of-push : (h : History) (entry : Entry)
    → payloads_of (with_entry h entry) ≡ payloads_of h ++ payload_of entry ∷ []
unfolding payloads_of
payloads_of-push h entry = map-append payload_of h (entry ∷ [])

pub length-payloads_of : (h : History) → length (payloads_of h) ≡ length h
unfolding payloads_of
length-payloads_of h = length-map h payload_of

-- ---- until a pusher is built

-- an input that is built sets no pusher
after-built : (input : Input) → IsBuilt input → (position : ℕ) → after_entry position (InputEntry input) [] ≡ []
after-built (Event event) built position = refl
after-built (Edit user edit) built position = refl
after-built (Receipt user room id private named) built position = refl
after-built (Pusher spec) built position = absurd built

none_found : (number : ℕ) (pusher : Living) → find (has_number number) [] ≡ Some pusher → ⊥
none_found number pusher found = cc

no_outcome-by : (server : List ℕ) (h : History) (outcome : Outcome) → pushers_of h ≡ []
    → IsAcceptableOutcome server h outcome → ⊥
no_outcome-by server h outcome none next =
    none_found (pusher_of outcome) next.pusher
    (ap (find (has_number (pusher_of outcome))) (sym none) ∙ next.lives)

pushers_of-none : pushers_of [] ≡ []
unfolding pushers_of additions_after
pushers_of-none = refl

-- a valid history has no living pusher
pub valid-no_pusher : (server : List ℕ) (h : History) → IsValid server h → pushers_of h ≡ []
valid-no_pusher server h = by_end (λ h. IsValid server h → pushers_of h ≡ []) (λ _. pushers_of-none) input outcome h
  where
    input : (h : History) (input : Input) → (IsValid server h → pushers_of h ≡ [])
        → IsValid server (with_input h input) → pushers_of (with_input h input) ≡ []
    input h next before valid =
        let parts = IsValid-parts server h (InputEntry next) valid in
        pushers_of-push h (InputEntry next)
        ∙ ap (after_entry (position_after h) (InputEntry next)) (before parts.0)
        ∙ after-built next parts.1.built (position_after h)

    outcome : (h : History) (outcome : Outcome) → (IsValid server h → pushers_of h ≡ [])
        → IsValid server (with_outcome h outcome) → pushers_of (with_outcome h outcome) ≡ []
    outcome h next before valid =
        let parts = IsValid-parts server h (OutcomeEntry next) valid in
        absurd (no_outcome-by server h next (before parts.0) parts.1)

-- no outcome may come after a valid history
pub valid-no_outcome : (server : List ℕ) (h : History) (outcome : Outcome) → IsValid server h
    → IsAcceptableOutcome server h outcome → ⊥
valid-no_outcome server h outcome valid next = no_outcome-by server h outcome (valid-no_pusher server h valid) next

-- what may come after a valid history is an input
pub valid-next : (server : List ℕ) (h : History) (entry : Entry) → IsValid server h → IsAcceptable server h entry
    → (input : Input) × (entry ≡ InputEntry input) × IsAcceptableInput server h input
valid-next server h (InputEntry input) valid next = (input, refl, next)
valid-next server h (OutcomeEntry outcome) valid next = absurd (valid-no_outcome server h outcome valid next)

outcome-payload : (outcome : Outcome) (input : Input)
    → payload_of (OutcomeEntry outcome) ≡ payload_of (InputEntry input) → ⊥
unfolding payload_of
outcome-payload (Pushed pusher position) input same = cc
outcome-payload (GaveUp pusher position) input same = cc
outcome-payload (Rejected pusher position) input same = cc

-- no payload of an outcome is that of an entry which may come after a valid history
pub valid-no_outcome_payload : (server : List ℕ) (h : History) (entry : Entry) (outcome : Outcome) → IsValid server h
    → IsAcceptable server h entry → payload_of (OutcomeEntry outcome) ≡ payload_of entry → ⊥
valid-no_outcome_payload server h (InputEntry input) outcome valid next same = outcome-payload outcome input same
valid-no_outcome_payload server h (OutcomeEntry other) outcome valid next same =
    absurd (valid-no_outcome server h other valid next)

-- the entries of a valid history are its inputs
pub valid-inputs : (server : List ℕ) (h : History) → IsValid server h → h ≡ map InputEntry (inputs_in h)
valid-inputs server h = by_end (λ h. IsValid server h → h ≡ map InputEntry (inputs_in h)) (λ _. refl) input outcome h
  where
    input : (h : History) (input : Input) → (IsValid server h → h ≡ map InputEntry (inputs_in h))
        → IsValid server (with_input h input) → with_input h input ≡ map InputEntry (inputs_in (with_input h input))
    input h next before valid =
        ap (λ (g : History). g ++ InputEntry next ∷ []) (before (IsValid-parts server h (InputEntry next) valid).0)
        ∙ sym (map-append InputEntry (inputs_in h) (next ∷ []))
        ∙ ap (map InputEntry) (sym (inputs_in-push h next))

    outcome : (h : History) (outcome : Outcome) → (IsValid server h → h ≡ map InputEntry (inputs_in h))
        → IsValid server (with_outcome h outcome)
        → with_outcome h outcome ≡ map InputEntry (inputs_in (with_outcome h outcome))
    outcome h next before valid =
        let parts = IsValid-parts server h (OutcomeEntry next) valid in
        absurd (valid-no_outcome server h next parts.0 parts.1)

-- a valid history has as many inputs as entries
pub valid-inputs_of : (server : List ℕ) (h : History) → IsValid server h → inputs_of h ≡ length h
valid-inputs_of server h valid =
    sym (length-map (inputs_in h) InputEntry) ∙ sym (ap length (valid-inputs server h valid))
