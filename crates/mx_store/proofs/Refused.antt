-- Which payloads are those of no entry that may come next.
use Rattle.std.proofs.Common.{◌≡◌, ◌≢◌, inl, inr, ℕ, List, Option, None, Some, Ok, Err, ap, subst, ◌∙◌}
use Rattle.mx_json.specs.Gives.{Gives}
use Rattle.mx_records.specs.declared.entry.Entry.{Entry}
use Rattle.mx_records.specs.declared.entry.Entry.TheVariants.{Input as InputEntry}
use Rattle.mx_records.specs.declared.entry_error.EntryError.{EntryError}
use Rattle.mx_records.specs.declared.entry_error.EntryError.TheVariants.{BadEntry, OutOfMemory}
use Rattle.mx_records.specs.declared.input.Input.{Input}
use Rattle.mx_records.specs.declared.refusal.Refusal.{Refusal}
use Rattle.mx_records.specs.Entries.{payload_of, IsPayloadOf}
use Rattle.mx_records.specs.History.{History}
use Rattle.mx_records.specs.Refusing.{IsAcceptableInput, IsBuilt, IsValid, refusal_of}
use Rattle.mx_engine.specs.declared.error.PrepareError.{PrepareError}
use Rattle.mx_engine.specs.declared.error.PrepareError.TheVariants.{Refused}
use Rattle.mx_engine.specs.Preparing.{IsPrepared}
use Rattle.mx_store.specs.Standing.{IsNoNextPayload}
use Rattle.mx_store.proofs.Histories.{no_next_payload}

-- what decoding gives is the one entry of the payload
abbrev Decodes : List ℕ → EntryError → Type 0
Decodes payload error = (entry : Entry) → IsPayloadOf payload entry → Gives OutOfMemory (Err error) (Ok entry)

bad_error : (error : EntryError) (offset : ℕ) (entry : Entry) → error ≡ BadEntry offset
    → Gives OutOfMemory (Err error) (Ok entry) → ⊥
bad_error error offset entry bad (inl is) = cc
bad_error error offset entry bad (inr is) = cc

-- bytes that are no payload
pub no_payload : (server : List ℕ) (h : History) (payload : List ℕ) (error : EntryError) (offset : ℕ) → IsValid server h
    → error ≡ BadEntry offset → Decodes payload error → IsNoNextPayload server h payload
no_payload server h payload error offset valid is one =
    no_next_payload server h payload valid
    (λ (input : Input) (next : IsAcceptableInput server h input) (same : payload ≡ payload_of (InputEntry input)).
    bad_error error offset (InputEntry input) is
    (one (InputEntry input) (record { entry_is = next.normal; payload = same })))

-- what decoding gives is this entry
abbrev Gave : List ℕ → Entry → Type 0
Gave payload entry = (other : Entry) → IsPayloadOf payload other → Gives OutOfMemory (Ok entry) (Ok other)

-- an entry that is no input of a command that is built
pub no_built_payload : (server : List ℕ) (h : History) (payload : List ℕ) (entry : Entry) → IsValid server h
    → ((input : Input) → IsBuilt input → entry ≢ InputEntry input) → Gave payload entry
    → IsNoNextPayload server h payload
no_built_payload server h payload entry valid unbuilt one =
    no_next_payload server h payload valid
    (λ (input : Input) (next : IsAcceptableInput server h input) (same : payload ≡ payload_of (InputEntry input)).
    let is = one (InputEntry input) (record { entry_is = next.normal; payload = same }) in
    unbuilt input next.built (cc))

not_refused : (asked : Option Refusal) (refusal : Refusal) → asked ≡ Some refusal → asked ≡ None → ⊥
not_refused asked refusal is none = cc

-- an input that the history refuses
pub refused_payload : (server : List ℕ) (h : History) (payload : List ℕ) (entry : Entry) (input : Input)
    (error : PrepareError) (refusal : Refusal) → IsValid server h → entry ≡ InputEntry input
    → error ≡ Refused refusal → IsPrepared server h input (Err error) → Gave payload entry
    → IsNoNextPayload server h payload
refused_payload server h payload entry input error refusal valid entry_is error_is prepared one =
    no_next_payload server h payload valid
    (λ (other : Input) (next : IsAcceptableInput server h other) (same : payload ≡ payload_of (InputEntry other)).
    let is = one (InputEntry other) (record { entry_is = next.normal; payload = same }) in
    let inputs : other ≡ input = cc (is, entry_is) in
    let refused : refusal_of server h input ≡ Some refusal =
    subst (λ (e : PrepareError). IsPrepared server h input (Err e)) error_is prepared in
    not_refused (refusal_of server h other) refusal (ap (refusal_of server h) inputs ∙ refused) next.unrefused)
