-- The rows of a thread, after one more input.
use Rattle.std.proofs.Common.{◌≡◌, ℕ, ◌+◌, ◌≤◌, max, nat_lt, nat_le, Bool, true, false, cond, ◌&&◌, List, [], ◌∷◌, ◌++◌}
use Rattle.std.proofs.Common.{map, filter, All, Option, unwrap_or, refl, ap, sym, ◌∙◌, arith}
use Rattle.std.specs.List.{list_all}
use Rattle.std.specs.Str.{bytes_eq}
use Rattle.std.proofs.lemmas.Bool.{and_parts, and_from, cond_both, false≢true, le-leb, le-ltb, leb-true, lt-ltb}
use Rattle.std.proofs.lemmas.Bool.{ltb-false, ltb-true}
use Rattle.std.proofs.lemmas.List.{map-append}
use Rattle.std.proofs.lemmas.List.Elements.{filter-append}
use Rattle.std.proofs.lemmas.List.Folds.{list_all-map}
use Rattle.std.proofs.lemmas.List.Sums.{AllPass-from_list_all}
use Rattle.mx_json.specs.declared.value.Json.{Json}
use Rattle.mx_event.specs.Event.{room_id_of}
use Rattle.mx_room.proofs.TextsLemmas.{bytes_eq-same}
use Rattle.mx_rule.specs.declared.edit.Edit.{Edit}
use Rattle.mx_rows.specs.declared.row.Row.{Row}
use Rattle.mx_rows.specs.declared.thread_key.ThreadKey.{ThreadKey}
use Rattle.mx_rows.specs.declared.thread_key.ThreadKey.TheVariants.{Main, Root}
use Rattle.mx_rows.specs.Rows.{above, is_rising}
use Rattle.mx_rows.specs.Threads.{same_thread}
use Rattle.mx_rows.proofs.CutLemmas.{above-all}
use Rattle.mx_rows.proofs.RowLemmas.{list_all-filter}
use Rattle.mx_records.specs.declared.entry.Outcome.{Outcome}
use Rattle.mx_records.specs.declared.input.Input.{Input}
use Rattle.mx_records.specs.declared.input.Input.TheVariants.{Event, Edit as EditInput, Receipt}
use Rattle.mx_records.specs.Counting.{is_in, row_of, rows_of, thread_in, unread, unread_in}
use Rattle.mx_records.specs.Cuts.{cut_by, cut_of, moves, reaches}
use Rattle.mx_records.specs.History.{Happening, History, events, inputs_of, position_after, with_input, with_outcome}
use Rattle.mx_records.specs.Judging.{notifies}
use Rattle.mx_records.specs.Places.{position_of}
use Rattle.mx_records.proofs.CutLemmas.{Rise, StandUpto, cut_of-le, cut_of-outcome, cut_of-push, events-rise}
use Rattle.mx_records.proofs.CutLemmas.{events-upto, position, rise-filter}
use Rattle.mx_records.proofs.HistoryLemmas.{IsNoEvent, edit-no_event, events-other, events-outcome, events-push}
use Rattle.mx_records.proofs.HistoryLemmas.{next_event, receipt-no_event}

-- keys of the same thread are equal
pub same_thread-same : (s t : ThreadKey) → same_thread s t ≡ true → s ≡ t
same_thread-same Main Main same = refl
same_thread-same Main (Root id) same = absurd (false≢true same)
same_thread-same (Root id) Main same = absurd (false≢true same)
same_thread-same (Root a) (Root b) same = ap Root (bytes_eq-same a b same)

-- ---- lists of rows

lt-max : (a n p : ℕ) → nat_lt (max a n) p ≡ (nat_lt n p && nat_lt a p)
lt-max a n p = by (nat_lt n p) refl (nat_lt a p) refl
  where
    by : (b : Bool) → nat_lt n p ≡ b → (c : Bool) → nat_lt a p ≡ c → nat_lt (max a n) p ≡ (b && c)
    by true is_b true is_c =
        let one = ltb-true n p is_b in
        let other = ltb-true a p is_c in
        lt-ltb (max a n) p (omega arith)
    by true is_b false is_c = let other = ltb-false a p is_c in le-ltb (max a n) p (omega arith)
    by false is_b c is_c = let one = ltb-false n p is_b in le-ltb (max a n) p (omega arith)

above-step : (b c : Bool) (n : ℕ) (row : Row) (rows : List Row) → nat_lt n row.position ≡ b
    → cond (b && c) (row ∷ above n rows) (above n rows) ≡ above n (cond c (row ∷ rows) rows)
above-step b true n row rows is = by b is
  where
    by : (b : Bool) → nat_lt n row.position ≡ b
        → cond (b && true) (row ∷ above n rows) (above n rows) ≡ above n (row ∷ rows)
    by true is = ap (λ b. cond b (row ∷ above n rows) (above n rows)) (sym is)
    by false is = ap (λ b. cond b (row ∷ above n rows) (above n rows)) (sym is)
above-step true false n row rows is = refl
above-step false false n row rows is = refl

-- a cut at one position, and then at another, is one at the greater
pub above-max : (a n : ℕ) (rows : List Row) → above (max a n) rows ≡ above n (above a rows)
above-max a n [] = refl
above-max a n (row ∷ rows) =
    ap (λ b. cond b (row ∷ above (max a n) rows) (above (max a n) rows)) (lt-max a n row.position)
    ∙ ap (λ l. cond (nat_lt n row.position && nat_lt a row.position) (row ∷ l) l) (above-max a n rows)
    ∙ above-step (nat_lt n row.position) (nat_lt a row.position) n row (above a rows) refl

-- a cut at or above all rows leaves none
pub above-none : (n : ℕ) (rows : List Row) → list_all (λ (row : Row). nat_le row.position n) rows ≡ true
    → above n rows ≡ []
above-none n [] all = refl
above-none n (row ∷ rows) all =
    let parts = and_parts (nat_le row.position n) (list_all (λ (row : Row). nat_le row.position n) rows) all in
    ap (λ b. cond b (row ∷ above n rows) (above n rows)) (le-ltb n row.position (leb-true _ _ parts.0))
    ∙ above-none n rows parts.1

above-append : (n : ℕ) (rows others : List Row) → above n (rows ++ others) ≡ above n rows ++ above n others
above-append n rows others = filter-append (λ (row : Row). nat_lt n row.position) rows others

-- ---- the rows of a thread, read or not

-- the event notifies the user, in this thread of the room
abbrev pub is_told : List ℕ → List ℕ → List ℕ → ThreadKey → Happening → Bool
is_told server user room thread x = same_thread thread (thread_in x) && (is_in room x.event && notifies server user x)

-- the rows of those of these events that notify the user in a thread of the room, read or not
abbrev pub told_rows : List ℕ → List Happening → List ℕ → List ℕ → ThreadKey → List Row
told_rows server xs user room thread = map (row_of server user) (filter (is_told server user room thread) xs)

module _ (server user : List ℕ) (thread : ThreadKey) (cut : ThreadKey → ℕ) (told : Happening → Bool) where
  abbrev here : Happening → Bool
  here x = same_thread thread (thread_in x)

  -- each event that is above the cut of its own thread, and told
  abbrev left : List Happening → List Happening
  left xs = filter (λ (x : Happening). nat_lt (cut (thread_in x)) (position x) && told x) xs

  abbrev all : List Happening → List Happening
  all xs = filter (λ (x : Happening). here x && told x) xs

  abbrev rows : List Happening → List Row
  rows xs = map (row_of server user) xs

  step : (x : Happening) (ys zs : List Happening) (b a m c : Bool) → here x ≡ b
      → nat_lt (cut thread) (position x) ≡ c → (b ≡ true → a ≡ c)
      → rows (filter here ys) ≡ above (cut thread) (rows zs)
      → rows (filter here (cond (a && m) (x ∷ ys) ys)) ≡ above (cut thread) (rows (cond (b && m) (x ∷ zs) zs))
  step x ys zs true true true c is_b is_c same rest =
      ap (λ b. rows (cond b (x ∷ filter here ys) (filter here ys))) is_b
      ∙ ap (λ l. row_of server user x ∷ l) rest
      ∙ ap (λ b. cond b (row_of server user x ∷ above (cut thread) (rows zs)) (above (cut thread) (rows zs)))
      (same refl ∙ sym is_c)
  step x ys zs true false true c is_b is_c same rest =
      rest
      ∙ ap (λ b. cond b (row_of server user x ∷ above (cut thread) (rows zs)) (above (cut thread) (rows zs)))
      (same refl ∙ sym is_c)
  step x ys zs true true false c is_b is_c same rest = rest
  step x ys zs true false false c is_b is_c same rest = rest
  step x ys zs false true true c is_b is_c same rest =
      ap (λ b. rows (cond b (x ∷ filter here ys) (filter here ys))) is_b ∙ rest
  step x ys zs false true false c is_b is_c same rest = rest
  step x ys zs false false m c is_b is_c same rest = rest

  left-above : (xs : List Happening) → rows (filter here (left xs)) ≡ above (cut thread) (rows (all xs))
  left-above [] = refl
  left-above (x ∷ xs) =
      step x (left xs) (all xs) (here x) (nat_lt (cut (thread_in x)) (position x)) (told x)
      (nat_lt (cut thread) (position x)) refl refl
      (λ is. ap (λ (t : ThreadKey). nat_lt (cut t) (position x)) (sym (same_thread-same thread (thread_in x) is)))
      (left-above xs)

-- the rows of a thread are those above its cut
pub rows_of-told : (server : List ℕ) (h : History) (user room : List ℕ) (thread : ThreadKey)
    → rows_of server h user room thread
    ≡ above (cut_of h user room thread) (told_rows server (events h) user room thread)
unfolding rows_of
rows_of-told server h user room thread =
    left-above server user thread (cut_of h user room) (λ x. is_in room x.event && notifies server user x) (events h)

rows-upto : (server user : List ℕ) (n : ℕ) (xs : List Happening) → StandUpto n xs
    → list_all (λ (row : Row). nat_le row.position n) (map (row_of server user) xs) ≡ true
rows-upto server user n xs stand = list_all-map (λ (row : Row). nat_le row.position n) (row_of server user) xs ∙ stand

told-upto : (server : List ℕ) (h : History) (user room : List ℕ) (thread : ThreadKey)
    → list_all (λ (row : Row). nat_le row.position (inputs_of h)) (told_rows server (events h) user room thread) ≡ true
told-upto server h user room thread =
    rows-upto server user (inputs_of h) (filter (is_told server user room thread) (events h))
    (list_all-filter (is_told server user room thread) (λ (x : Happening). nat_le (position x) (inputs_of h)) (events h)
    (events-upto h))

rows-rise : (server user : List ℕ) (xs : List Happening) → Rise xs
    → is_rising (map (row_of server user) xs) ≡ true
rows-rise server user [] rise = refl
rows-rise server user (x ∷ xs) rise =
    and_from _ _
    (list_all-map (λ (row : Row). nat_lt (position x) row.position) (row_of server user) xs ∙ rise.0)
    (rows-rise server user xs rise.1)

-- the unread events of a room rise
pub unread-rise : (server : List ℕ) (h : History) (user room : List ℕ) → Rise (unread server h user room)
unread-rise server h user room = rise-filter _ (events h) (events-rise h)

-- the rows of a thread rise
pub rows_of-rise : (server : List ℕ) (h : History) (user room : List ℕ) (thread : ThreadKey)
    → is_rising (rows_of server h user room thread) ≡ true
unfolding rows_of
rows_of-rise server h user room thread =
    rows-rise server user _ (rise-filter _ (unread server h user room) (unread-rise server h user room))

-- each row stands at or below the last input
pub rows_of-upto : (server : List ℕ) (h : History) (user room : List ℕ) (thread : ThreadKey)
    → list_all (λ (row : Row). nat_le row.position (inputs_of h)) (rows_of server h user room thread) ≡ true
rows_of-upto server h user room thread =
    ap (list_all (λ (row : Row). nat_le row.position (inputs_of h))) (rows_of-told server h user room thread)
    ∙ list_all-filter (λ (row : Row). nat_lt (cut_of h user room thread) row.position)
    (λ (row : Row). nat_le row.position (inputs_of h)) (told_rows server (events h) user room thread)
    (told-upto server h user room thread)

all_le : (n : ℕ) (rows : List Row) → list_all (λ (row : Row). nat_le row.position n) rows ≡ true
    → All (λ (row : Row). row.position ≤ n) rows
all_le n rows all k d within =
    leb-true _ _ (AllPass-from_list_all (λ (row : Row). nat_le row.position n) rows all k d within)

-- the same, row by row
pub rows_of-le : (server : List ℕ) (h : History) (user room : List ℕ) (thread : ThreadKey)
    → All (λ (row : Row). row.position ≤ inputs_of h) (rows_of server h user room thread)
rows_of-le server h user room thread =
    all_le (inputs_of h) (rows_of server h user room thread) (rows_of-upto server h user room thread)

-- ---- an input that is no event

-- it cuts the rows, whatever was read before
pub rows_of-cut : (server : List ℕ) (h : History) (input : Input) → IsNoEvent input
    → (user room : List ℕ) (thread : ThreadKey)
    → rows_of server (with_input h input) user room thread
    ≡ above (cut_by user room thread h input) (rows_of server h user room thread)
rows_of-cut server h input none user room thread =
    rows_of-told server (with_input h input) user room thread
    ∙ (λ i. above (cut_of-push h input user room thread i)
    (told_rows server (events-other h input none i) user room thread))
    ∙ above-max (cut_of h user room thread) (cut_by user room thread h input)
    (told_rows server (events h) user room thread)
    ∙ ap (above (cut_by user room thread h input)) (sym (rows_of-told server h user room thread))

-- rows stand above 0
told-above_none : (server user : List ℕ) (xs : List Happening)
    → list_all (λ (row : Row). nat_lt 0 row.position) (map (row_of server user) xs) ≡ true
told-above_none server user [] = refl
told-above_none server user (x ∷ xs) =
    and_from _ _ (lt-ltb 0 (position x) (omega arith)) (told-above_none server user xs)

-- a cut at 0 cuts nothing
pub rows_of-whole : (server : List ℕ) (h : History) (user room : List ℕ) (thread : ThreadKey)
    → above 0 (rows_of server h user room thread) ≡ rows_of server h user room thread
unfolding rows_of
rows_of-whole server h user room thread =
    above-all 0 (rows_of server h user room thread) (told-above_none server user (unread_in server h user room thread))

-- an edit leaves the rows as they were
pub rows_of-edit : (server : List ℕ) (h : History) (editor : List ℕ) (edit : Edit) (user room : List ℕ)
    → (thread : ThreadKey)
    → rows_of server (with_input h (EditInput editor edit)) user room thread ≡ rows_of server h user room thread
rows_of-edit server h editor edit user room thread =
    rows_of-cut server h (EditInput editor edit) (edit-no_event editor edit) user room thread
    ∙ rows_of-whole server h user room thread

-- the receipt is of the user, in this room, and of a thread or of all
abbrev pub reads : List ℕ → List ℕ → Option ThreadKey → List ℕ → List ℕ → ThreadKey → Bool
reads reader named of user room thread = bytes_eq reader user && (bytes_eq named room && reaches of thread)

-- a receipt leaves the rows above the event that it names, where it reads them
pub rows_of-receipt : (server : List ℕ) (h : History) (reader named id : List ℕ) (private : Bool)
    → (of : Option ThreadKey) (user room : List ℕ) (thread : ThreadKey)
    → rows_of server (with_input h (Receipt reader named id private of)) user room thread
    ≡ cond (reads reader named of user room thread)
    (above (unwrap_or (position_of h id) 0) (rows_of server h user room thread)) (rows_of server h user room thread)
rows_of-receipt server h reader named id private of user room thread =
    rows_of-cut server h (Receipt reader named id private of) (receipt-no_event reader named id private of) user room
    thread
    ∙ by (reads reader named of user room thread)
  where
    rows : List Row
    rows = rows_of server h user room thread

    by : (b : Bool) → above (cond b (unwrap_or (position_of h id) 0) 0) rows
        ≡ cond b (above (unwrap_or (position_of h id) 0) rows) rows
    by true = refl
    by false = rows_of-whole server h user room thread

-- ---- an outcome

-- an outcome leaves the rows as they were
pub rows_of-outcome : (server : List ℕ) (h : History) (outcome : Outcome) (user room : List ℕ) (thread : ThreadKey)
    → rows_of server (with_outcome h outcome) user room thread ≡ rows_of server h user room thread
rows_of-outcome server h outcome user room thread =
    rows_of-told server (with_outcome h outcome) user room thread
    ∙ (λ i. above (cut_of-outcome h outcome user room thread i)
    (told_rows server (events-outcome h outcome i) user room thread))
    ∙ sym (rows_of-told server h user room thread)

-- ---- an event

-- the row of an event that comes after a history, where it notifies the user in this thread of the room
abbrev pub next_row : List ℕ → History → Json → List ℕ → List ℕ → ThreadKey → List Row
next_row server h event user room thread =
    cond (is_told server user room thread (next_event h event)) (row_of server user (next_event h event) ∷ []) []

-- an event in the room makes the user a member, or one no longer, and isn't an invitation
abbrev pub moves_in : List ℕ → History → Json → List ℕ → Bool
moves_in room h event user = bytes_eq (room_id_of event) room && moves h event user

next_rows : (server user : List ℕ) (b : Bool) (x : Happening)
    → map (row_of server user) (cond b (x ∷ []) []) ≡ cond b (row_of server user x ∷ []) []
next_rows server user true x = refl
next_rows server user false x = refl

told_rows-push : (server : List ℕ) (h : History) (event : Json) (user room : List ℕ) (thread : ThreadKey)
    → told_rows server (events (with_input h (Event event))) user room thread
    ≡ told_rows server (events h) user room thread ++ next_row server h event user room thread
told_rows-push server h event user room thread =
    ap (λ xs. told_rows server xs user room thread) (events-push h event)
    ∙ ap (map (row_of server user))
    (filter-append (is_told server user room thread) (events h) (next_event h event ∷ []))
    ∙ map-append (row_of server user) (filter (is_told server user room thread) (events h))
    (filter (is_told server user room thread) (next_event h event ∷ []))
    ∙ ap (λ rows. told_rows server (events h) user room thread ++ rows)
    (next_rows server user (is_told server user room thread (next_event h event)) (next_event h event))

next_row-upto : (server : List ℕ) (h : History) (event : Json) (user room : List ℕ) (thread : ThreadKey)
    → list_all (λ (row : Row). nat_le row.position (inputs_of h + 1)) (next_row server h event user room thread) ≡ true
next_row-upto server h event user room thread =
    cond_both (is_told server user room thread (next_event h event)) (row_of server user (next_event h event) ∷ []) []
    (λ rows. list_all (λ (row : Row). nat_le row.position (inputs_of h + 1)) rows ≡ true)
    (λ _. and_from _ _ (le-leb (inputs_of h + 1) (inputs_of h + 1) (omega arith)) refl) (λ _. refl)

next_row-whole : (server : List ℕ) (h : History) (event : Json) (user room : List ℕ) (thread : ThreadKey)
    → above (cut_of h user room thread) (next_row server h event user room thread)
    ≡ next_row server h event user room thread
next_row-whole server h event user room thread =
    cond_both (is_told server user room thread (next_event h event)) (row_of server user (next_event h event) ∷ []) []
    (λ rows. above (cut_of h user room thread) rows ≡ rows)
    (λ _. above-all (cut_of h user room thread) (row_of server user (next_event h event) ∷ [])
    (let upto = cut_of-le h user room thread in
    and_from _ _ (lt-ltb (cut_of h user room thread) (inputs_of h + 1) (omega arith)) refl)) (λ _. refl)

upto_more : (n : ℕ) (rows : List Row) → list_all (λ (row : Row). nat_le row.position n) rows ≡ true
    → list_all (λ (row : Row). nat_le row.position (n + 1)) rows ≡ true
upto_more n [] all = refl
upto_more n (row ∷ rows) all =
    let parts = and_parts (nat_le row.position n) (list_all (λ (row : Row). nat_le row.position n) rows) all in
    let first = leb-true _ _ parts.0 in
    and_from _ _ (le-leb row.position (n + 1) (omega arith)) (upto_more n rows parts.1)

-- a cut at the next input leaves no row
pub rows_of-cut_all : (server : List ℕ) (h : History) (user room : List ℕ) (thread : ThreadKey)
    → above (inputs_of h + 1) (rows_of server h user room thread) ≡ []
rows_of-cut_all server h user room thread =
    above-none (inputs_of h + 1) (rows_of server h user room thread)
    (upto_more (inputs_of h) (rows_of server h user room thread) (rows_of-upto server h user room thread))

-- where an event moves the user, no row is left, and else its own is added
pub rows_of-event : (server : List ℕ) (h : History) (event : Json) (user room : List ℕ) (thread : ThreadKey)
    → rows_of server (with_input h (Event event)) user room thread
    ≡ cond (moves_in room h event user) []
    (rows_of server h user room thread ++ next_row server h event user room thread)
rows_of-event server h event user room thread =
    rows_of-told server (with_input h (Event event)) user room thread
    ∙ (λ i. above (cut_of-push h (Event event) user room thread i) (told_rows-push server h event user room thread i))
    ∙ above-max cut (cond (moves_in room h event user) (position_after h) 0) (old ++ next)
    ∙ ap (above (cond (moves_in room h event user) (position_after h) 0))
    (above-append cut old next
    ∙ (λ i. sym (rows_of-told server h user room thread) i ++ next_row-whole server h event user room thread i))
    ∙ by (moves_in room h event user)
  where
    cut : ℕ
    cut = cut_of h user room thread

    old : List Row
    old = told_rows server (events h) user room thread

    next : List Row
    next = next_row server h event user room thread

    rows : List Row
    rows = rows_of server h user room thread

    by : (b : Bool) → above (cond b (position_after h) 0) (rows ++ next) ≡ cond b [] (rows ++ next)
    by true =
        above-append (position_after h) rows next
        ∙ (λ i. rows_of-cut_all server h user room thread i
        ++ above-none (position_after h) next (next_row-upto server h event user room thread) i)
    by false =
        above-append 0 rows next
        ∙ (λ i. rows_of-whole server h user room thread i ++ above-next i)
      where
        above-next : above 0 next ≡ next
        above-next = cond_both (is_told server user room thread (next_event h event))
            (row_of server user (next_event h event) ∷ []) [] (λ rows. above 0 rows ≡ rows)
            (λ _. above-all 0 (row_of server user (next_event h event) ∷ [])
            (and_from _ _ (lt-ltb 0 (inputs_of h + 1) (omega arith)) refl)) (λ _. refl)
