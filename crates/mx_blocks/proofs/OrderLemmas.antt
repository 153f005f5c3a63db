-- What the threads of `Blocks` are to a caller of `Rows`: the lists by thread, the order, all rows together.
use Rattle.std.proofs.Common.{◌≡◌, ℕ, zero, suc, ◌+◌, ◌<◌, ◌≤◌, nat_le, nat_lt, Bool, true, false, cond, List, [], ◌∷◌}
use Rattle.std.proofs.Common.{◌++◌, length, map, filter, flat_map, count_by, get_or, slice_get, Option, Some, None}
use Rattle.std.proofs.Common.{option_map, refl, sym, ap, ◌∙◌, arith}
use Rattle.std.proofs.lemmas.Bool.{and_parts, and_from, cond-true, cond-false, cond_both, false≢true, le-leb, leb-true}
use Rattle.std.proofs.lemmas.Bool.{ltb-true}
use Rattle.std.proofs.lemmas.List.{length-append}
use Rattle.std.proofs.lemmas.List.Elements.{filter-append}
use Rattle.std.proofs.lemmas.List.Sums.{length-filter, sum_by-append, sum_by-cons}
use Rattle.std.proofs.lemmas.Map.Entries.{length-keys_of}
use Rattle.std.proofs.lemmas.Option.{slice_get-map}
use Rattle.std.specs.List.{IsDistinct, list_all}
use Rattle.std.specs.List.Sorted.{IsNonDecreasingBy}
use Rattle.std.specs.Map.{keys_of}
use Rattle.std.specs.Option.{option_map_or}
use Rattle.mx_rows.specs.declared.row.Row.{Row}
use Rattle.mx_rows.specs.declared.thread_key.ThreadKey.{ThreadKey}
use Rattle.mx_blocks.specs.declared.thread_rows.ThreadRows.{ThreadRows}
use Rattle.mx_blocks.specs.Entries.{threads_left_to_cut, Entries, highlights_left_to_cut, InOrder, rows_in}
use Rattle.mx_blocks.specs.Entries.{rows_left_to_cut, start_at, thread_rows}
use Rattle.mx_rows.specs.Rows.{are_in_order, are_in_range, counts_in, has_rows, never_falls, start_of, upto, with_rows}
use Rattle.mx_rows.specs.Threads.{same_thread}
use Rattle.mx_blocks.proofs.EntryLemmas.{found_at}

-- ---- the lists by thread are those of the entries

abbrev pub Agrees : (ThreadKey → List Row) → Entries → Type 0
Agrees list [] = Unit {0}
Agrees list (e ∷ es) = (list e.0 ≡ (thread_rows e.1)) × Agrees list es

agrees_from : (list : ThreadKey → List Row) (es : Entries)
    → ((i : ℕ) (e : ThreadKey × ThreadRows) → slice_get es i ≡ Some e → list e.0 ≡ (thread_rows e.1)) → Agrees list es
agrees_from list [] says = tt
agrees_from list (e ∷ es) says = (says zero e refl, agrees_from list es (λ i x is. says (suc i) x is))

pub agrees : (es : Entries) → IsDistinct same_thread (keys_of es) → Agrees (rows_in es) es
agrees es once = agrees_from (rows_in es) es
    (λ i e is. ap (λ o. option_map_or (λ (kept : ThreadRows). (thread_rows kept)) o []) (found_at es i e once is))

has_some : ThreadKey × ThreadRows → Bool
has_some e = has_rows (thread_rows e.1)

module _ (list : ThreadKey → List Row) where
  Agrees-filter : (p : ThreadKey × ThreadRows → Bool) (es : Entries) → Agrees list es → Agrees list (filter p es)
  Agrees-filter p [] agree = tt
  Agrees-filter p (e ∷ es) agree =
      let rest = Agrees-filter p es agree.1 in
      cond_both (p e) (e ∷ filter p es) (filter p es) (Agrees list) (λ _. (agree.0, rest)) (λ _. rest)

  pub with_rows-entries : (es : Entries) → Agrees list es
      → with_rows list (keys_of es) ≡ keys_of (filter (λ e. has_rows (thread_rows e.1)) es)
  with_rows-entries [] agree = refl
  with_rows-entries (e ∷ es) agree =
      ap (λ rows. cond (has_rows rows) (e.0 ∷ with_rows list (keys_of es)) (with_rows list (keys_of es))) agree.0
      ∙ ap (λ l. cond (has_rows (thread_rows e.1)) (e.0 ∷ l) l) (with_rows-entries es agree.1)
      ∙ by (has_rows (thread_rows e.1))
    where
      by : (b : Bool) → cond b (e.0 ∷ keys_of (filter (λ e. has_rows (thread_rows e.1)) es))
          (keys_of (filter (λ e. has_rows (thread_rows e.1)) es))
          ≡ keys_of (cond b (e ∷ filter (λ e. has_rows (thread_rows e.1)) es)
          (filter (λ e. has_rows (thread_rows e.1)) es))
      by true = refl
      by false = refl

  starts-entries : (es : Entries) → Agrees list es → map (λ t. start_of (list t)) (keys_of es) ≡ map start_at es
  starts-entries [] agree = refl
  starts-entries (e ∷ es) agree = λ i. start_of (agree.0 i) ∷ starts-entries es agree.1 i

  flat_map-entries : (es : Entries) → Agrees list es → flat_map list (keys_of es) ≡ flat_map (λ e. (thread_rows e.1)) es
  flat_map-entries [] agree = refl
  flat_map-entries (e ∷ es) agree = λ i. agree.0 i ++ flat_map-entries es agree.1 i

-- ---- numbers that never fall

list_all-map-filter : {X : Type 0} (f : X → ℕ) (q : ℕ → Bool) (p : X → Bool) (xs : List X)
    → list_all q (map f xs) ≡ true → list_all q (map f (filter p xs)) ≡ true
list_all-map-filter f q p [] all = refl
list_all-map-filter f q p (x ∷ xs) all =
    let parts = and_parts (q (f x)) (list_all q (map f xs)) all in
    let rest = list_all-map-filter f q p xs parts.1 in
    cond_both (p x) (x ∷ filter p xs) (filter p xs) (λ l. list_all q (map f l) ≡ true)
    (λ _. and_from _ _ parts.0 rest) (λ _. rest)

never_falls-filter : {X : Type 0} (f : X → ℕ) (p : X → Bool) (xs : List X) → never_falls (map f xs) ≡ true
    → never_falls (map f (filter p xs)) ≡ true
never_falls-filter f p [] up = refl
never_falls-filter f p (x ∷ xs) up =
    let parts = and_parts (list_all (λ later. nat_le (f x) later) (map f xs)) (never_falls (map f xs)) up in
    let rest = never_falls-filter f p xs parts.1 in
    cond_both (p x) (x ∷ filter p xs) (filter p xs) (λ l. never_falls (map f l) ≡ true)
    (λ _. and_from _ _ (list_all-map-filter f _ p xs parts.0) rest) (λ _. rest)

all_later : {X : Type 0} (f : X → ℕ) (n : ℕ) (xs : List X)
    → ((k : ℕ) (d : X) → k < length xs → n ≤ f (get_or xs k d))
    → list_all (λ later. nat_le n later) (map f xs) ≡ true
all_later f n [] says = refl
all_later f n (x ∷ xs) says =
    and_from _ _ (le-leb _ _ (says zero x (omega arith)))
    (all_later f n xs (λ k d within. says (suc k) d (omega arith)))

pub never_falls-from : {X : Type 0} (f : X → ℕ) (xs : List X) → IsNonDecreasingBy f xs → never_falls (map f xs) ≡ true
never_falls-from f [] up = refl
never_falls-from f (x ∷ xs) up =
    and_from _ _ (all_later f (f x) xs (λ k d within. up zero (suc k) d (omega arith) (omega arith)))
    (never_falls-from f xs (λ i j d le within. up (suc i) (suc j) d (omega arith) (omega arith)))

pub are_in_order-entries : (es : Entries) → IsDistinct same_thread (keys_of es) → InOrder es
    → are_in_order (rows_in es) (with_rows (rows_in es) (keys_of es)) ≡ true
are_in_order-entries es once order =
    let list = rows_in es in
    let agree = agrees es once in
    let p : ThreadKey × ThreadRows → Bool = λ e. has_rows (thread_rows e.1) in
    ap (λ ts. never_falls (map (λ t. start_of (list t)) ts)) (with_rows-entries list es agree)
    ∙ ap never_falls (starts-entries list (filter p es) (Agrees-filter list p es agree))
    ∙ never_falls-filter start_at p es (never_falls-from start_at es order)

-- ---- the threads with rows come first

-- where no thread starts before the end of positions, none has rows
none_has_rows : (es : Entries) → list_all (λ later. nat_le 18446744073709551616 later) (map start_at es) ≡ true
    → filter (λ e. has_rows (thread_rows e.1)) es ≡ []
none_has_rows [] all = refl
none_has_rows (e ∷ es) all =
    let parts = and_parts (nat_le 18446744073709551616 (start_at e))
    (list_all (λ later. nat_le 18446744073709551616 later) (map start_at es)) all in
    cond-false (has_rows (thread_rows e.1)) (e ∷ filter (λ e. has_rows (thread_rows e.1)) es)
    (filter (λ e. has_rows (thread_rows e.1)) es) (no_rows_at (thread_rows e.1) e.1.in_range (leb-true _ _ parts.0))
    ∙ none_has_rows es parts.1
  where
    no_rows_at : (rows : List Row) → are_in_range rows ≡ true → 18446744073709551616 ≤ start_of rows
        → has_rows rows ≡ false
    no_rows_at [] small past = refl
    no_rows_at (row ∷ rows) small past =
        let first = ltb-true _ _ (and_parts (nat_lt row.position 18446744073709551616) (are_in_range rows) small).0 in
        absurd (omega arith)

start_of-none : (rows : List Row) → has_rows rows ≡ false → start_of rows ≡ 18446744073709551616
start_of-none [] none = refl
start_of-none (row ∷ rows) none = absurd (false≢true (sym none))

-- the k-th thread with rows is the k-th of all, where that has rows
abbrev pub if_it_has_rows : Option (ThreadKey × ThreadRows) → Option (ThreadKey × ThreadRows)
if_it_has_rows None = None
if_it_has_rows (Some e) = cond (has_rows (thread_rows e.1)) (Some e) None

cond_nil : {X : Type 0} (b : Bool) (x : X) (l : List X) → cond b (x ∷ l) l ≡ [] → (b ≡ false) × (l ≡ [])
cond_nil true x l is = absurd (cc)
cond_nil false x l is = (refl, is)

none_kept : (es : Entries) (k : ℕ) → filter (λ e. has_rows (thread_rows e.1)) es ≡ []
    → if_it_has_rows (slice_get es k) ≡ None
none_kept [] k none = refl
none_kept (e ∷ es) zero none = cond-false _ _ _ (cond_nil (has_rows (thread_rows e.1)) e _ none).0
none_kept (e ∷ es) (suc k) none = none_kept es k (cond_nil (has_rows (thread_rows e.1)) e _ none).1

pub slice_get-has_rows : (es : Entries) (k : ℕ) → never_falls (map start_at es) ≡ true
    → slice_get (filter (λ e. has_rows (thread_rows e.1)) es) k ≡ if_it_has_rows (slice_get es k)
slice_get-has_rows [] k up = refl
slice_get-has_rows (e ∷ es) k up =
    by (has_rows (thread_rows e.1)) refl k
    (λ j. slice_get-has_rows es j
    (and_parts (list_all (λ later. nat_le (start_at e) later) (map start_at es))
    (never_falls (map start_at es)) up).1)
  where
    rest : List (ThreadKey × ThreadRows)
    rest = filter (λ e. has_rows (thread_rows e.1)) es

    by : (b : Bool) → has_rows (thread_rows e.1) ≡ b → (k : ℕ)
        → ((j : ℕ) → slice_get (filter (λ e. has_rows (thread_rows e.1)) es) j ≡ if_it_has_rows (slice_get es j))
        → slice_get (filter (λ e. has_rows (thread_rows e.1)) (e ∷ es)) k ≡ if_it_has_rows (slice_get (e ∷ es) k)
    by true is zero more = ap (λ l. slice_get l 0) (cond-true _ _ _ is) ∙ sym (cond-true _ _ _ is)
    by true is (suc j) more = ap (λ l. slice_get l (suc j)) (cond-true _ _ _ is) ∙ more j
    by false is k more =
        let all = (and_parts (list_all (λ later. nat_le (start_at e) later) (map start_at es))
        (never_falls (map start_at es)) up).0 in
        let past : list_all (λ later. nat_le 18446744073709551616 later) (map start_at es) ≡ true
        = ap (λ n. list_all (λ later. nat_le n later) (map start_at es)) (sym (start_of-none (thread_rows e.1) is))
        ∙ all in
        let none : filter (λ e. has_rows (thread_rows e.1)) (e ∷ es) ≡ [] = cond-false _ _ _ is
        ∙ none_has_rows es past in
        ap (λ l. slice_get l k) none ∙ sym (none_kept (e ∷ es) k none)

pub slice_get-with_rows : (es : Entries) (k : ℕ) → IsDistinct same_thread (keys_of es) → InOrder es
    → slice_get (with_rows (rows_in es) (keys_of es)) k ≡ option_map (λ e. e.0) (if_it_has_rows (slice_get es k))
slice_get-with_rows es k once order =
    ap (λ l. slice_get l k) (with_rows-entries (rows_in es) es (agrees es once))
    ∙ slice_get-map (λ (e : ThreadKey × ThreadRows). e.0) (filter (λ e. has_rows (thread_rows e.1)) es) k
    ∙ ap (option_map (λ (e : ThreadKey × ThreadRows). e.0))
    (slice_get-has_rows es k (never_falls-from start_at es order))

-- ---- all rows together

length-upto-all : (p : ℕ) (es : Entries)
    → length (upto p (flat_map (λ (e : ThreadKey × ThreadRows). (thread_rows e.1)) es)) ≡ rows_left_to_cut p es
length-upto-all p [] = refl
length-upto-all p (e ∷ es) =
    ap length (filter-append (λ (row : Row). nat_le row.position p) (thread_rows e.1)
    (flat_map (λ (e : ThreadKey × ThreadRows). (thread_rows e.1)) es))
    ∙ length-append (upto p (thread_rows e.1)) _
    ∙ ap (λ n. length (upto p (thread_rows e.1)) + n) (length-upto-all p es)
    ∙ sym (sum_by-cons (λ (e : ThreadKey × ThreadRows). length (upto p (thread_rows e.1))) e es)

highlights-upto-all : (p : ℕ) (es : Entries)
    → count_by (λ (row : Row). row.highlight)
    (upto p (flat_map (λ (e : ThreadKey × ThreadRows). (thread_rows e.1)) es)) ≡ highlights_left_to_cut p es
highlights-upto-all p [] = refl
highlights-upto-all p (e ∷ es) =
    ap (count_by (λ (row : Row). row.highlight))
    (filter-append (λ (row : Row). nat_le row.position p) (thread_rows e.1)
    (flat_map (λ (e : ThreadKey × ThreadRows). (thread_rows e.1)) es))
    ∙ sum_by-append _ (upto p (thread_rows e.1)) _
    ∙ ap (λ n. count_by (λ (row : Row). row.highlight) (upto p (thread_rows e.1)) + n) (highlights-upto-all p es)
    ∙ sym (sum_by-cons
    (λ (e : ThreadKey × ThreadRows). count_by (λ (row : Row). row.highlight) (upto p (thread_rows e.1))) e es)

pub counts_in-all : (p : ℕ) (es : Entries) → IsDistinct same_thread (keys_of es)
    → counts_in (upto p (flat_map (rows_in es) (keys_of es)))
    ≡ record { notify = rows_left_to_cut p es; highlight = highlights_left_to_cut p es }
counts_in-all p es once =
    ap (λ rows. counts_in (upto p rows)) (flat_map-entries (rows_in es) es (agrees es once))
    ∙ (λ i. record { notify = length-upto-all p es i; highlight = highlights-upto-all p es i })

-- ---- threads that a cut of every thread cuts

one_more : (p : ℕ) (rows : List Row) → p < 18446744073709551616
    → cond (nat_le (start_of rows) p) 1 0 ≤ cond (has_rows rows) 1 0
one_more p [] small =
    cond_both (nat_le 18446744073709551616 p) 1 0 (λ (n : ℕ). n ≤ 0)
    (λ past. absurd (let over = leb-true 18446744073709551616 p past in omega arith)) (λ _. omega arith)
one_more p (row ∷ rows) small =
    cond_both (nat_le row.position p) 1 0 (λ n. n ≤ 1) (λ _. omega arith) (λ _. omega arith)

left-le-some : (p : ℕ) (es : Entries) → p < 18446744073709551616
    → threads_left_to_cut p es ≤ count_by (λ (e : ThreadKey × ThreadRows). has_rows (thread_rows e.1)) es
left-le-some p [] small = omega arith
left-le-some p (e ∷ es) small =
    let rest = left-le-some p es small in
    let one = one_more p (thread_rows e.1) small in
    let left = sum_by-cons (λ (x : ThreadKey × ThreadRows). cond (nat_le (start_at x) p) 1 0) e es in
    let some = sum_by-cons (λ (x : ThreadKey × ThreadRows). cond (has_rows (thread_rows x.1)) 1 0) e es in
    omega arith

pub left-le-with_rows : (p : ℕ) (es : Entries) → p < 18446744073709551616 → IsDistinct same_thread (keys_of es)
    → threads_left_to_cut p es ≤ length (with_rows (rows_in es) (keys_of es))
left-le-with_rows p es small once =
    let keys = ap length (with_rows-entries (rows_in es) es (agrees es once)) in
    let long = length-keys_of (filter (λ (e : ThreadKey × ThreadRows). has_rows (thread_rows e.1)) es) in
    let count = length-filter (λ (e : ThreadKey × ThreadRows). has_rows (thread_rows e.1)) es in
    let few = left-le-some p es small in
    omega arith
