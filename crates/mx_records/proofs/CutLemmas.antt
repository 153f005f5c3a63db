-- Where events stand, and up to where a thread is read, after one more entry.
use Rattle.std.proofs.Common.{◌≡◌, ℕ, ◌+◌, ◌<◌, ◌≤◌, max, zero-le, nat_lt, nat_le, Bool, true, ◌&&◌, List, [], ◌∷◌}
use Rattle.std.proofs.Common.{◌++◌, map, filter, find, Some, option_map, unwrap_or, refl, ap, sym, subst, ◌∙◌, arith}
use Rattle.std.specs.List.{list_all}
use Rattle.std.specs.Str.{bytes_eq}
use Rattle.std.proofs.lemmas.Bool.{and_parts, and_from, cond_both, le-leb, leb-true, lt-ltb}
use Rattle.std.proofs.lemmas.List.{map-append}
use Rattle.mx_json.specs.declared.value.Json.{Json}
use Rattle.mx_event.specs.Event.{room_id_of}
use Rattle.mx_rows.specs.declared.thread_key.ThreadKey.{ThreadKey}
use Rattle.mx_rows.proofs.RowLemmas.{list_all-filter, list_all-push}
use Rattle.mx_records.specs.declared.entry.Outcome.{Outcome}
use Rattle.mx_records.specs.declared.input.Input.{Input}
use Rattle.mx_records.specs.declared.input.Input.TheVariants.{Event, Edit, Receipt, Pusher}
use Rattle.mx_records.specs.Cuts.{cut_at, cut_by, cut_of, greatest, moves, reaches}
use Rattle.mx_records.specs.History.{Arrival, Happening, History, additions_after, arrivals, events, inputs_of}
use Rattle.mx_records.specs.History.{position_after, with_input, with_outcome}
use Rattle.mx_records.specs.Places.{is_event_with, position_of}
use Rattle.mx_records.proofs.HistoryLemmas.{IsNoEvent, arrivals-outcome, arrivals-push, by_end, edit-no_event}
use Rattle.mx_records.proofs.HistoryLemmas.{events-other, events-outcome, events-push, inputs_of-outcome}
use Rattle.mx_records.proofs.HistoryLemmas.{inputs_of-push, next_event, receipt-no_event, pusher-no_event}

-- ---- events rise

-- the position of an event
abbrev pub position : Happening → ℕ
position x = position_after x.before

-- each event stands below all that come after it
abbrev pub Rise : List Happening → Type 0
Rise [] = Unit {0}
Rise (x ∷ xs) = (list_all (λ (y : Happening). nat_lt (position x) (position y)) xs ≡ true) × Rise xs

-- each event stands at or below a position
abbrev pub StandUpto : ℕ → List Happening → Type 0
StandUpto n xs = list_all (λ (x : Happening). nat_le (position x) n) xs ≡ true

pub upto_more : (n m : ℕ) (xs : List Happening) → n ≤ m → StandUpto n xs → StandUpto m xs
upto_more n m [] more stand = refl
upto_more n m (x ∷ xs) more stand =
    let parts = and_parts (nat_le (position x) n) (list_all (λ (x : Happening). nat_le (position x) n) xs) stand in
    let first = leb-true _ _ parts.0 in
    and_from _ _ (le-leb (position x) m (omega arith)) (upto_more n m xs more parts.1)

rise-push : (xs : List Happening) (y : Happening) (n : ℕ) → n < position y → StandUpto n xs → Rise xs
    → Rise (xs ++ y ∷ [])
rise-push [] y n below stand rise = (refl, tt)
rise-push (x ∷ xs) y n below stand rise =
    let parts = and_parts (nat_le (position x) n) (list_all (λ (x : Happening). nat_le (position x) n) xs) stand in
    let first = leb-true _ _ parts.0 in (
      list_all-push (λ (y : Happening). nat_lt (position x) (position y)) xs y rise.0
          (lt-ltb (position x) (position y) (omega arith)),
      rise-push xs y n below parts.1 rise.1,
    )

pub rise-filter : (p : Happening → Bool) (xs : List Happening) → Rise xs → Rise (filter p xs)
rise-filter p [] rise = tt
rise-filter p (x ∷ xs) rise =
    let rest = rise-filter p xs rise.1 in
    cond_both (p x) (x ∷ filter p xs) (filter p xs) Rise
    (λ _. (list_all-filter p (λ (y : Happening). nat_lt (position x) (position y)) xs rise.0, rest)) (λ _. rest)

-- the events of a history stand at or below its last input, and rise
abbrev Stands : History → Type 0
Stands h = StandUpto (inputs_of h) (events h) × Rise (events h)

stands-event : (h : History) (event : Json) → Stands h → Stands (with_input h (Event event))
stands-event h event stand =
    let longer = inputs_of-push h (Event event) in
    let more = upto_more (inputs_of h) (inputs_of (with_input h (Event event))) (events h) (omega arith) stand.0 in
    subst (λ xs. StandUpto (inputs_of (with_input h (Event event))) xs × Rise xs) (sym (events-push h event)) (
      list_all-push (λ (x : Happening). nat_le (position x) (inputs_of (with_input h (Event event)))) (events h)
          (next_event h event) more (le-leb _ _ (omega arith)),
      rise-push (events h) (next_event h event) (inputs_of h) (omega arith) stand.0 stand.1,
    )

stands-other : (h : History) (input : Input) → IsNoEvent input → Stands h → Stands (with_input h input)
stands-other h input none stand =
    let longer = inputs_of-push h input in
    let more = upto_more (inputs_of h) (inputs_of (with_input h input)) (events h) (omega arith) stand.0 in
    subst (λ xs. StandUpto (inputs_of (with_input h input)) xs × Rise xs) (sym (events-other h input none))
    (more, stand.1)

stands-more : (h : History) (input : Input) → Stands h → Stands (with_input h input)
stands-more h (Event event) stand = stands-event h event stand
stands-more h (Edit user edit) stand = stands-other h (Edit user edit) (edit-no_event user edit) stand
stands-more h (Receipt user room id private named) stand =
    stands-other h (Receipt user room id private named) (receipt-no_event user room id private named) stand
stands-more h (Pusher spec) stand = stands-other h (Pusher spec) (pusher-no_event spec) stand

stands-outcome : (h : History) (outcome : Outcome) → Stands h → Stands (with_outcome h outcome)
stands-outcome h outcome stand =
    subst (λ n. StandUpto n (events (with_outcome h outcome)) × Rise (events (with_outcome h outcome)))
    (sym (inputs_of-outcome h outcome))
    (subst (λ xs. StandUpto (inputs_of h) xs × Rise xs) (sym (events-outcome h outcome)) stand)

stands-none : Stands []
unfolding events additions_after
stands-none = (refl, tt)

stands : (h : History) → Stands h
stands h = by_end Stands stands-none stands-more stands-outcome h

pub events-upto : (h : History) → StandUpto (inputs_of h) (events h)
events-upto h = (stands h).0

pub events-rise : (h : History) → Rise (events h)
events-rise h = (stands h).1

-- ---- cuts

greatest-push : (ns : List ℕ) (n : ℕ) → greatest (ns ++ n ∷ []) ≡ max (greatest ns) n
greatest-push [] n = omega arith
greatest-push (m ∷ ns) n = let rest = greatest-push ns n in omega arith

-- a thread is read up to the greatest of where it was read before, and of what the input reads
pub cut_of-push : (h : History) (input : Input) (user room : List ℕ) (thread : ThreadKey)
    → cut_of (with_input h input) user room thread ≡ max (cut_of h user room thread) (cut_by user room thread h input)
unfolding cut_of
cut_of-push h input user room thread =
    ap (λ (all : List Arrival). greatest (map (cut_at user room thread) all)) (arrivals-push h input)
    ∙ ap greatest (map-append (cut_at user room thread) (arrivals h) (record { before = h; input = input } ∷ []))
    ∙ greatest-push (map (cut_at user room thread) (arrivals h)) (cut_by user room thread h input)

-- an outcome reads nothing
pub cut_of-outcome : (h : History) (outcome : Outcome) (user room : List ℕ) (thread : ThreadKey)
    → cut_of (with_outcome h outcome) user room thread ≡ cut_of h user room thread
unfolding cut_of
cut_of-outcome h outcome user room thread =
    ap (λ (all : List Arrival). greatest (map (cut_at user room thread) all)) (arrivals-outcome h outcome)

found-upto : (n : ℕ) (p : Happening → Bool) (xs : List Happening) → StandUpto n xs
    → unwrap_or (option_map position (find p xs)) 0 ≤ n
found-upto n p [] stand = zero-le
found-upto n p (x ∷ xs) stand =
    let parts = and_parts (nat_le (position x) n) (list_all (λ (x : Happening). nat_le (position x) n) xs) stand in
    cond_both (p x) (Some x) (find p xs) (λ o. unwrap_or (option_map position o) 0 ≤ n)
    (λ _. leb-true _ _ parts.0) (λ _. found-upto n p xs parts.1)

-- an event stands at or below the last input
pub position_of-le : (h : History) (id : List ℕ) → unwrap_or (position_of h id) 0 ≤ inputs_of h
position_of-le h id = found-upto (inputs_of h) (is_event_with id) (events h) (events-upto h)

-- an input reads no further than itself
cut_by-le : (h : History) (input : Input) (user room : List ℕ) (thread : ThreadKey)
    → cut_by user room thread h input ≤ inputs_of h + 1
cut_by-le h (Event event) user room thread =
    cond_both (bytes_eq (room_id_of event) room && moves h event user) (position_after h) 0
    (λ n. n ≤ inputs_of h + 1) (λ _. omega arith) (λ _. omega arith)
cut_by-le h (Edit editor edit) user room thread = omega arith
cut_by-le h (Pusher spec) user room thread = omega arith
cut_by-le h (Receipt reader named id private of) user room thread =
    let upto = position_of-le h id in
    cond_both (bytes_eq reader user && (bytes_eq named room && reaches of thread)) (unwrap_or (position_of h id) 0) 0
    (λ n. n ≤ inputs_of h + 1) (λ _. omega arith) (λ _. omega arith)

cut_of-none : (user room : List ℕ) (thread : ThreadKey) → cut_of [] user room thread ≤ 0
unfolding cut_of additions_after
cut_of-none user room thread = zero-le

-- a thread is read at most up to the last input
pub cut_of-le : (h : History) (user room : List ℕ) (thread : ThreadKey) → cut_of h user room thread ≤ inputs_of h
cut_of-le h user room thread =
    by_end (λ h. cut_of h user room thread ≤ inputs_of h) (cut_of-none user room thread) more same h
  where
    more : (h : History) (input : Input) → cut_of h user room thread ≤ inputs_of h
        → cut_of (with_input h input) user room thread ≤ inputs_of (with_input h input)
    more h input upto =
        let longer = inputs_of-push h input in
        let next = cut_of-push h input user room thread in
        let reads = cut_by-le h input user room thread in
        omega arith

    same : (h : History) (outcome : Outcome) → cut_of h user room thread ≤ inputs_of h
        → cut_of (with_outcome h outcome) user room thread ≤ inputs_of (with_outcome h outcome)
    same h outcome upto =
        let long = inputs_of-outcome h outcome in
        let next = cut_of-outcome h outcome user room thread in
        omega arith
