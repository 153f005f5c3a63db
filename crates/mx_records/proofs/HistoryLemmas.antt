-- How a history, and what is read off it, goes on by one entry.
use Rattle.std.proofs.Common.{◌≡◌, ℕ, ◌+◌, Bool, List, [], ◌∷◌, ◌++◌, length, map, Option, None, refl, ap, sym, subst}
use Rattle.std.proofs.Common.{◌∙◌}
use Rattle.std.specs.List.{cons_option, filter_map, fold}
use Rattle.std.proofs.Common.{length-append}
use Rattle.std.proofs.lemmas.List.{append-nil, append_assoc, map-append}
use Rattle.std.proofs.lemmas.List.Elements.{filter_map-append}
use Rattle.std.proofs.lemmas.List.Sums.{fold-append}
use Rattle.mx_json.specs.declared.value.Json.{Json}
use Rattle.mx_event.specs.Event.{room_id_of}
use Rattle.mx_rows.specs.declared.thread_key.ThreadKey.{ThreadKey}
use Rattle.mx_rule.specs.declared.edit.Edit.{Edit}
use Rattle.mx_room.specs.Change.{sets_of, with_sets}
use Rattle.mx_room.specs.Rooms.{room_at, rooms_of}
use Rattle.mx_room.proofs.RoomsLemmas.{room_at-rooms_of}
use Rattle.mx_room.proofs.StateLemmas.{room_of-push}
use Rattle.mx_records.specs.declared.entry.Entry.{Entry}
use Rattle.mx_records.specs.declared.entry.Entry.TheVariants.{Input as InputEntry, Outcome as OutcomeEntry}
use Rattle.mx_records.specs.declared.entry.Outcome.{Outcome}
use Rattle.mx_records.specs.declared.input.Input.{Input}
use Rattle.mx_records.specs.declared.input.Input.TheVariants.{Event, Edit as EditInput, Receipt, Pusher}
use Rattle.mx_records.specs.declared.pusher_spec.PusherSpec.{PusherSpec}
use Rattle.mx_records.specs.History.{Arrival, History, Happening, additions, additions_after, arrival_of, arrivals}
use Rattle.mx_records.specs.History.{events, happening_by, happening_of, input_of, inputs_in, inputs_of, with_entry}
use Rattle.mx_records.specs.History.{with_input, with_outcome}
use Rattle.mx_records.specs.Places.{places_of, with_place}
use Rattle.mx_records.specs.Rooms.{events_of, room_after}

-- what holds of the empty history, and of a history with one more entry where it holds of that one, holds
-- of each
pub by_entries : (P : History → Type 0) → P [] → ((h : History) (entry : Entry) → P h → P (with_entry h entry))
    → (h : History) → P h
by_entries P none step h = from [] h none
  where
    from : (before later : History) → P before → P (before ++ later)
    from before [] holds = subst P (sym (append-nil before)) holds
    from before (entry ∷ later) holds =
        subst P (append_assoc before (entry ∷ []) later)
        (from (with_entry before entry) later (step before entry holds))

-- the same, by whether the entry is an input or an outcome
pub by_end : (P : History → Type 0) → P [] → ((h : History) (input : Input) → P h → P (with_input h input))
    → ((h : History) (outcome : Outcome) → P h → P (with_outcome h outcome)) → (h : History) → P h
by_end P none input_step outcome_step h = by_entries P none step h
  where
    step : (h : History) (entry : Entry) → P h → P (with_entry h entry)
    step h (InputEntry input) holds = input_step h input holds
    step h (OutcomeEntry outcome) holds = outcome_step h outcome holds

-- the event that comes after a history
abbrev pub next_event : History → Json → Happening
next_event h event = record { before = h; event = event }

pub additions_after-push : (before entries : History) (entry : Entry)
    → additions_after before (entries ++ entry ∷ [])
    ≡ additions_after before entries ++ record { before = before ++ entries; entry = entry } ∷ []
unfolding additions_after
additions_after-push before [] entry =
    ap (λ (b : History). record { before = b; entry = entry } ∷ []) (sym (append-nil before))
additions_after-push before (first ∷ entries) entry =
    ap (λ rest. record { before = before; entry = first } ∷ rest)
    (additions_after-push (with_entry before first) entries entry
    ∙ ap (λ (b : History).
    additions_after (with_entry before first) entries ++ record { before = b; entry = entry } ∷ [])
    (append_assoc before (first ∷ []) entries))

-- an input arrives
pub arrivals-push : (h : History) (input : Input)
    → arrivals (with_input h input) ≡ arrivals h ++ record { before = h; input = input } ∷ []
arrivals-push h input =
    ap (filter_map arrival_of) (additions_after-push [] h (InputEntry input))
    ∙ filter_map-append arrival_of (additions h) (record { before = h; entry = InputEntry input } ∷ [])

-- an outcome is no arrival
pub arrivals-outcome : (h : History) (outcome : Outcome) → arrivals (with_outcome h outcome) ≡ arrivals h
arrivals-outcome h outcome =
    ap (filter_map arrival_of) (additions_after-push [] h (OutcomeEntry outcome))
    ∙ filter_map-append arrival_of (additions h) (record { before = h; entry = OutcomeEntry outcome } ∷ [])
    ∙ append-nil (arrivals h)

pub events-push : (h : History) (event : Json)
    → events (with_input h (Event event)) ≡ events h ++ next_event h event ∷ []
unfolding events
events-push h event =
    ap (filter_map happening_of) (arrivals-push h (Event event))
    ∙ filter_map-append happening_of (arrivals h) (record { before = h; input = Event event } ∷ [])

-- an input that isn't an event
abbrev pub IsNoEvent : Input → Type 0
IsNoEvent input = (before : History) → happening_by before input ≡ None

-- an edit is no event
pub edit-no_event : (user : List ℕ) (edit : Edit) → IsNoEvent (EditInput user edit)
edit-no_event user edit before = refl

-- a receipt is no event
pub receipt-no_event : (user room id : List ℕ) (private : Bool) (named : Option ThreadKey)
    → IsNoEvent (Receipt user room id private named)
receipt-no_event user room id private named before = refl

-- a setting of a pusher is no event
pub pusher-no_event : (spec : PusherSpec) → IsNoEvent (Pusher spec)
pusher-no_event spec before = refl

-- an input that is no event leaves the events as they were
pub events-other : (h : History) (input : Input) → IsNoEvent input → events (with_input h input) ≡ events h
unfolding events
events-other h input none =
    ap (filter_map happening_of) (arrivals-push h input)
    ∙ filter_map-append happening_of (arrivals h) (record { before = h; input = input } ∷ [])
    ∙ ap (λ o. filter_map happening_of (arrivals h) ++ cons_option o []) (none h)
    ∙ append-nil (filter_map happening_of (arrivals h))

pub events_of-other : (h : History) (input : Input) → IsNoEvent input → events_of (with_input h input) ≡ events_of h
events_of-other h input none = ap (map (λ (x : Happening). x.event)) (events-other h input none)

pub places_of-other : (h : History) (input : Input) → IsNoEvent input → places_of (with_input h input) ≡ places_of h
unfolding places_of
places_of-other h input none = ap (fold with_place _) (events-other h input none)

pub events_of-push : (h : History) (event : Json)
    → events_of (with_input h (Event event)) ≡ events_of h ++ event ∷ []
events_of-push h event =
    ap (map (λ (x : Happening). x.event)) (events-push h event)
    ∙ map-append (λ (x : Happening). x.event) (events h) (next_event h event ∷ [])

pub inputs_in-push : (h : History) (input : Input) → inputs_in (with_input h input) ≡ inputs_in h ++ input ∷ []
inputs_in-push h input = filter_map-append input_of h (InputEntry input ∷ [])

pub inputs_of-push : (h : History) (input : Input) → inputs_of (with_input h input) ≡ inputs_of h + 1
inputs_of-push h input = ap length (inputs_in-push h input) ∙ length-append (inputs_in h) (input ∷ [])

pub places_of-push : (h : History) (event : Json)
    → places_of (with_input h (Event event)) ≡ with_place (places_of h) (next_event h event)
unfolding places_of
places_of-push h event =
    ap (fold with_place _) (events-push h event)
    ∙ fold-append with_place _ (events h) (next_event h event ∷ [])

-- the room after an event, from the rooms before it
pub room_after-next : (h : History) (event : Json)
    → room_after (next_event h event)
    ≡ with_sets (sets_of event) (room_at (rooms_of (events_of h)) (room_id_of event))
unfolding room_after
room_after-next h event =
    room_of-push _ event ∙ ap (with_sets (sets_of event)) (sym (room_at-rooms_of (events_of h) (room_id_of event)))

-- ---- an outcome

-- an outcome leaves the inputs as they were
pub inputs_in-outcome : (h : History) (outcome : Outcome) → inputs_in (with_outcome h outcome) ≡ inputs_in h
inputs_in-outcome h outcome = filter_map-append input_of h (OutcomeEntry outcome ∷ []) ∙ append-nil (inputs_in h)

-- an outcome takes no position
pub inputs_of-outcome : (h : History) (outcome : Outcome) → inputs_of (with_outcome h outcome) ≡ inputs_of h
inputs_of-outcome h outcome = ap length (inputs_in-outcome h outcome)

-- an outcome leaves the events as they were
pub events-outcome : (h : History) (outcome : Outcome) → events (with_outcome h outcome) ≡ events h
unfolding events
events-outcome h outcome = ap (filter_map happening_of) (arrivals-outcome h outcome)

pub events_of-outcome : (h : History) (outcome : Outcome) → events_of (with_outcome h outcome) ≡ events_of h
events_of-outcome h outcome = ap (map (λ (x : Happening). x.event)) (events-outcome h outcome)

pub places_of-outcome : (h : History) (outcome : Outcome) → places_of (with_outcome h outcome) ≡ places_of h
unfolding places_of
places_of-outcome h outcome = ap (fold with_place _) (events-outcome h outcome)
