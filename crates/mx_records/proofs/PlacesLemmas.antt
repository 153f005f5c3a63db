-- The place of an id is that of the first event with it; and by its place a receipt is refused.
use Rattle.std.proofs.Common.{◌≡◌, ℕ, Bool, true, false, cond, not, ◌||◌, List, [], ◌∷◌, ◌++◌, find, Option, Some, None}
use Rattle.std.proofs.Common.{is_some, option_map, refl, ap, sym, ◌∙◌}
use Rattle.std.specs.Cmp.Lexicographic.{slice_cmp}
use Rattle.std.specs.FinMap.{insert, get-empty}
use Rattle.std.specs.Option.{option_map_or, option_or}
use Rattle.std.specs.Ordering.{nat_cmp}
use Rattle.std.specs.Str.{bytes_eq}
use Rattle.mx_json.specs.declared.value.Json.{Json}
use Rattle.mx_event.specs.Event.{event_id_of}
use Rattle.mx_room.proofs.TextsLemmas.{bytes_eq-flip, bytes_eq-same, get-put}
use Rattle.mx_rows.specs.declared.thread_key.ThreadKey.{ThreadKey}
use Rattle.mx_rows.specs.declared.thread_key.ThreadKey.TheVariants.{Main, Root}
use Rattle.mx_rows.specs.Threads.{same_thread}
use Rattle.mx_thread.specs.declared.place.Place.{Place}
use Rattle.mx_thread.specs.Place.{Places, place_in}
use Rattle.mx_records.specs.declared.entry.Outcome.{Outcome}
use Rattle.mx_records.specs.declared.input.Input.{Input}
use Rattle.mx_records.specs.declared.input.Input.TheVariants.{Event, Edit, Receipt, Pusher}
use Rattle.mx_records.specs.declared.refusal.Refusal.{Refusal}
use Rattle.mx_records.specs.declared.refusal.Refusal.TheVariants.{NotInThread, UnknownEvent}
use Rattle.mx_records.specs.Counting.{is_in, thread_in}
use Rattle.mx_records.specs.History.{Happening, History, additions_after, events, position_after, with_input}
use Rattle.mx_records.specs.History.{with_outcome}
use Rattle.mx_records.specs.Places.{is_event_with, place_among, places_of, position_of, with_place}
use Rattle.mx_records.specs.Refusing.{is_read_in, refusal_of_read}
use Rattle.mx_records.proofs.HistoryLemmas.{IsNoEvent, by_end, edit-no_event, events-other, events-outcome, events-push}
use Rattle.mx_records.proofs.HistoryLemmas.{next_event, places_of-other, places_of-outcome, places_of-push}
use Rattle.mx_records.proofs.HistoryLemmas.{receipt-no_event, pusher-no_event}

-- an id that has no place gets that of the event
pub with_place-new : (places : Places) (happening : Happening)
    → place_in places (event_id_of happening.event) ≡ None
    → with_place places happening
    ≡ insert places (event_id_of happening.event) (place_among places happening)
with_place-new places happening none =
    ap (λ (place : Option Place). cond (is_some place) places
    (insert places (event_id_of happening.event) (place_among places happening))) none

-- an id that has a place keeps it
pub with_place-known : (places : Places) (happening : Happening) (place : Place)
    → place_in places (event_id_of happening.event) ≡ Some place → with_place places happening ≡ places
with_place-known places happening place has =
    ap (λ (place : Option Place). cond (is_some place) places
    (insert places (event_id_of happening.event) (place_among places happening))) has

-- the place of an event that happens
abbrev pub place_of : Happening → Place
place_of x = place_among (places_of x.before) x

or_none : {X : Type 0} (o : Option X) → option_or o None ≡ o
or_none None = refl
or_none (Some x) = refl

-- the place of an id after one more event
place-step : (places : Places) (x : Happening) (id : List ℕ)
    → place_in (with_place places x) id
    ≡ option_or (place_in places id) (cond (is_event_with id x) (Some (place_among places x)) None)
place-step places x id = by (place_in places (event_id_of x.event)) refl (is_event_with id x) refl
  where
    by : (known : Option Place) → place_in places (event_id_of x.event) ≡ known
        → (b : Bool) → is_event_with id x ≡ b
        → place_in (with_place places x) id
        ≡ option_or (place_in places id) (cond (is_event_with id x) (Some (place_among places x)) None)
    by (Some place) has true is =
        let there : place_in places id ≡ Some place =
        ap (place_in places) (sym (bytes_eq-same (event_id_of x.event) id is)) ∙ has in
        ap (λ (p : Places). place_in p id) (with_place-known places x place has)
        ∙ there
        ∙ ap (λ o. option_or o (cond (is_event_with id x) (Some (place_among places x)) None)) (sym there)
    by (Some place) has false is =
        ap (λ (p : Places). place_in p id) (with_place-known places x place has)
        ∙ sym (or_none (place_in places id))
        ∙ ap (λ b. option_or (place_in places id) (cond b (Some (place_among places x)) None)) (sym is)
    by None none b is =
        ap (λ (p : Places). place_in p id) (with_place-new places x none)
        ∙ get-put places (event_id_of x.event) (place_among places x) id
        ∙ ap (λ b. cond b (Some (place_among places x)) (place_in places id))
        (bytes_eq-flip id (event_id_of x.event) ∙ is)
        ∙ at_new b is
        ∙ ap (λ b. option_or (place_in places id) (cond b (Some (place_among places x)) None)) (sym is)
      where
        at_new : (b : Bool) → is_event_with id x ≡ b
            → cond b (Some (place_among places x)) (place_in places id)
            ≡ option_or (place_in places id) (cond b (Some (place_among places x)) None)
        at_new true is =
            let there : place_in places id ≡ None =
            ap (place_in places) (sym (bytes_eq-same (event_id_of x.event) id is)) ∙ none in
            ap (λ (p : Option Place). option_or p (Some (place_among places x))) (sym there)
        at_new false is = sym (or_none (place_in places id))

-- the first event with an id, where one more comes
find-push : (p : Happening → Bool) (xs : List Happening) (x : Happening)
    → find p (xs ++ x ∷ []) ≡ option_or (find p xs) (cond (p x) (Some x) None)
find-push p [] x = refl
find-push p (y ∷ xs) x =
    ap (cond (p y) (Some y)) (find-push p xs x) ∙ by (p y)
  where
    by : (b : Bool) → cond b (Some y) (option_or (find p xs) (cond (p x) (Some x) None))
        ≡ option_or (cond b (Some y) (find p xs)) (cond (p x) (Some x) None)
    by true = refl
    by false = refl

map_or : (a : Option Happening) (b : Bool) (x : Happening)
    → option_map place_of (option_or a (cond b (Some x) None))
    ≡ option_or (option_map place_of a) (cond b (Some (place_of x)) None)
map_or None true x = refl
map_or None false x = refl
map_or (Some y) b x = refl

-- the place of an id is that of the first event with it
abbrev IsPlaced : List ℕ → History → Type 0
IsPlaced id h = place_in (places_of h) id ≡ option_map place_of (find (is_event_with id) (events h))

placed-event : (id : List ℕ) (h : History) (event : Json) → IsPlaced id h → IsPlaced id (with_input h (Event event))
placed-event id h event before =
    ap (λ (p : Places). place_in p id) (places_of-push h event)
    ∙ place-step (places_of h) (next_event h event) id
    ∙ ap (λ o. option_or o (cond (is_event_with id (next_event h event)) (Some (place_of (next_event h event))) None))
    before
    ∙ sym (map_or (find (is_event_with id) (events h)) (is_event_with id (next_event h event)) (next_event h event))
    ∙ ap (option_map place_of) (sym (find-push (is_event_with id) (events h) (next_event h event)))
    ∙ ap (λ (xs : List Happening). option_map place_of (find (is_event_with id) xs)) (sym (events-push h event))

placed-other : (id : List ℕ) (h : History) (input : Input) → IsNoEvent input → IsPlaced id h
    → IsPlaced id (with_input h input)
placed-other id h input none before =
    ap (λ (p : Places). place_in p id) (places_of-other h input none)
    ∙ before
    ∙ ap (λ (xs : List Happening). option_map place_of (find (is_event_with id) xs)) (sym (events-other h input none))

placed-more : (id : List ℕ) (h : History) (input : Input) → IsPlaced id h → IsPlaced id (with_input h input)
placed-more id h (Event event) before = placed-event id h event before
placed-more id h (Edit editor edit) before = placed-other id h (Edit editor edit) (edit-no_event editor edit) before
placed-more id h (Receipt reader room named private of) before =
    placed-other id h (Receipt reader room named private of) (receipt-no_event reader room named private of) before
placed-more id h (Pusher spec) before = placed-other id h (Pusher spec) (pusher-no_event spec) before

placed-outcome : (id : List ℕ) (h : History) (outcome : Outcome) → IsPlaced id h → IsPlaced id (with_outcome h outcome)
placed-outcome id h outcome before =
    ap (λ (p : Places). place_in p id) (places_of-outcome h outcome)
    ∙ before
    ∙ ap (λ (xs : List Happening). option_map place_of (find (is_event_with id) xs)) (sym (events-outcome h outcome))

placed-none : (id : List ℕ) → IsPlaced id []
unfolding places_of events additions_after
placed-none id = get-empty (slice_cmp nat_cmp) id

pub place_in-events : (h : History) (id : List ℕ)
    → place_in (places_of h) id ≡ option_map place_of (find (is_event_with id) (events h))
place_in-events h id = by_end (IsPlaced id) (placed-none id) (placed-more id) (placed-outcome id) h

position_by : (found : Option Happening)
    → option_map (λ (x : Happening). position_after x.before) found
    ≡ option_map (λ (place : Place). place.position) (option_map place_of found)
position_by None = refl
position_by (Some x) = refl

-- the position of the first event with an id is that of its place
pub position_of-places : (h : History) (id : List ℕ)
    → position_of h id ≡ option_map (λ place. place.position) (place_in (places_of h) id)
position_of-places h id =
    position_by (find (is_event_with id) (events h))
    ∙ ap (option_map (λ (place : Place). place.position)) (sym (place_in-events h id))

-- ---- receipts, by places

-- the event with this id, whose thread this is, is in the thread that a receipt names, or is its root
abbrev pub is_read_at : List ℕ → ThreadKey → ThreadKey → Bool
is_read_at id of Main = same_thread Main of
is_read_at id of (Root root) = same_thread (Root root) of || bytes_eq root id

-- why a receipt that names an event of this place is refused
abbrev pub refusal_at : List ℕ → List ℕ → Option ThreadKey → Option Place → Option Refusal
refusal_at room id named None = Some UnknownEvent
refusal_at room id named (Some place) =
    cond (not (bytes_eq place.room room)) (Some UnknownEvent)
    (cond (not (option_map_or (is_read_at id place.thread) named true)) (Some NotInThread) None)

read_by : (id : List ℕ) (x : Happening) (named : Option ThreadKey)
    → option_map_or (is_read_in id x) named true ≡ option_map_or (is_read_at id (thread_in x)) named true
read_by id x None = refl
read_by id x (Some Main) = refl
read_by id x (Some (Root root)) = refl

refusal_by : (room id : List ℕ) (named : Option ThreadKey) (found : Option Happening)
    → refusal_of_read room id named found ≡ refusal_at room id named (option_map place_of found)
refusal_by room id named None = refl
refusal_by room id named (Some x) =
    ap (λ b. cond (not (is_in room x.event)) (Some UnknownEvent) (cond (not b) (Some NotInThread) None))
    (read_by id x named)

-- a receipt is refused by the place of the event that it names
pub refusal_of_read-places : (h : History) (room id : List ℕ) (named : Option ThreadKey)
    → refusal_of_read room id named (find (is_event_with id) (events h))
    ≡ refusal_at room id named (place_in (places_of h) id)
refusal_of_read-places h room id named =
    refusal_by room id named (find (is_event_with id) (events h))
    ∙ ap (refusal_at room id named) (sym (place_in-events h id))
