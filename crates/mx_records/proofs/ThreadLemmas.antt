-- The threads of a room that have rows: each once, in the order of the first row of each, and no other list is.
use Rattle.std.proofs.Common.{◌≡◌, ℕ, ◌+◌, ◌<◌, ◌≤◌, nat_lt, nat_le, Bool, true, false, cond, not, ◌||◌, List, [], ◌∷◌}
use Rattle.std.proofs.Common.{map, filter, length, refl, ap, sym, subst, ◌∙◌, arith}
use Rattle.std.specs.List.{AllByRecursion, IsDistinct, list_all, sum_by}
use Rattle.std.proofs.lemmas.Bool.{and_parts, and_from, cond_both, false≢true, le-leb, leb-true, ltb-true}
use Rattle.std.proofs.lemmas.List.Folds.{list_all-map}
use Rattle.std.proofs.lemmas.List.Sums.{sum_by-cons}
use Rattle.std.proofs.lemmas.Map.Keys.{IsDistinct-head, IsDistinct-tail}
use Rattle.std.proofs.lemmas.Map.Views.{any-filter_same}
use Rattle.mx_rows.specs.declared.row.Row.{Row}
use Rattle.mx_rows.specs.declared.thread_key.ThreadKey.{ThreadKey}
use Rattle.mx_rows.specs.Rows.{are_in_order, has_rows, never_falls, start_of}
use Rattle.mx_rows.specs.Threads.{has_thread, same_thread, same_thread-equiv}
use Rattle.mx_rows.proofs.RowLemmas.{list_all-filter}
use Rattle.mx_records.specs.Counting.{counts_of, each_once, room_counts_of, row_of, rows_of, thread_in, threads_of}
use Rattle.mx_records.specs.Counting.{unread}
use Rattle.mx_records.specs.History.{Happening, History}
use Rattle.mx_records.proofs.CutLemmas.{Rise, position}
use Rattle.mx_records.proofs.UnreadLemmas.{same_thread-same, unread-rise}

-- ---- lists of threads

same_flip : (s t : ThreadKey) → same_thread s t ≡ same_thread t s
same_flip s t = same_thread-equiv.symm s t

-- the thread isn't one of these
abbrev Apart : ThreadKey → List ThreadKey → Type 0
Apart t ts = AllByRecursion (λ (u : ThreadKey). same_thread t u ≡ false) ts

apart-has : (t : ThreadKey) (ts : List ThreadKey) → Apart t ts → has_thread t ts ≡ false
apart-has t [] apart = refl
apart-has t (u ∷ ts) apart = ap (λ b. b || has_thread t ts) apart.0 ∙ apart-has t ts apart.1

apart-filter : (t : ThreadKey) (p : ThreadKey → Bool) (ts : List ThreadKey) → Apart t ts → Apart t (filter p ts)
apart-filter t p [] apart = tt
apart-filter t p (u ∷ ts) apart =
    let rest = apart-filter t p ts apart.1 in
    cond_both (p u) (u ∷ filter p ts) (filter p ts) (Apart t) (λ _. (apart.0, rest)) (λ _. rest)

pub distinct-filter : (p : ThreadKey → Bool) (ts : List ThreadKey) → IsDistinct same_thread ts
    → IsDistinct same_thread (filter p ts)
unfolding IsDistinct
distinct-filter p [] once = tt
distinct-filter p (t ∷ ts) once =
    let rest = distinct-filter p ts once.1 in
    cond_both (p t) (t ∷ filter p ts) (filter p ts) (IsDistinct same_thread)
    (λ _. (apart-filter t p ts once.0, rest)) (λ _. rest)

not_true : (b : Bool) → not b ≡ true → b ≡ false
not_true true is = absurd (false≢true is)
not_true false is = refl

without-apart : (t : ThreadKey) (ts : List ThreadKey) → Apart t (filter (λ (u : ThreadKey). not (same_thread t u)) ts)
without-apart t [] = tt
without-apart t (u ∷ ts) =
    let rest = without-apart t ts in
    cond_both (not (same_thread t u)) (u ∷ filter (λ (u : ThreadKey). not (same_thread t u)) ts)
    (filter (λ (u : ThreadKey). not (same_thread t u)) ts) (Apart t)
    (λ is. (not_true (same_thread t u) is, rest)) (λ _. rest)

-- no thread comes twice
pub each_once-distinct : (ts : List ThreadKey) → IsDistinct same_thread (each_once ts)
unfolding IsDistinct
each_once-distinct [] = tt
each_once-distinct (t ∷ ts) = (
  without-apart t (each_once ts),
  distinct-filter (λ (u : ThreadKey). not (same_thread t u)) (each_once ts) (each_once-distinct ts),
)

-- the same threads are there
pub has-each_once : (t : ThreadKey) (ts : List ThreadKey) → has_thread t (each_once ts) ≡ has_thread t ts
has-each_once t [] = refl
has-each_once t (u ∷ ts) = by (has-each_once t ts) (same_thread t u) refl
  where
    others : ThreadKey → Bool
    others v = not (same_thread u v)

    by : has_thread t (each_once ts) ≡ has_thread t ts → (b : Bool) → same_thread t u ≡ b
        → (b || has_thread t (filter others (each_once ts))) ≡ (b || has_thread t ts)
    by rest true is = refl
    by rest false is =
        any-filter_same (same_thread t) others true
        (λ v same. ap (λ (w : ThreadKey). not (same_thread u w)) (sym (same_thread-same t v same))
        ∙ ap not (same_flip u t ∙ is))
        (each_once ts)
        ∙ rest

-- what holds of each thread that is there holds of all
pub all-members : (q : ThreadKey → Bool) (ts : List ThreadKey) → ((t : ThreadKey) → has_thread t ts ≡ true → q t ≡ true)
    → list_all q ts ≡ true
all-members q [] each = refl
all-members q (t ∷ ts) each =
    and_from _ _ (each t (ap (λ b. b || has_thread t ts) (same_thread-equiv.refl t)))
    (all-members q ts (λ u has. each u (ap (λ b. same_thread u t || b) has ∙ or_true (same_thread u t))))
  where
    or_true : (b : Bool) → (b || true) ≡ true
    or_true true = refl
    or_true false = refl

member-all : (q : ThreadKey → Bool) (ts : List ThreadKey) (t : ThreadKey) → list_all q ts ≡ true
    → has_thread t ts ≡ true → q t ≡ true
member-all q [] t all has = absurd (false≢true has)
member-all q (u ∷ ts) t all has =
    let parts = and_parts (q u) (list_all q ts) all in
    by parts.0 (member-all q ts t parts.1) (same_thread t u) refl has
  where
    by : q u ≡ true → (has_thread t ts ≡ true → q t ≡ true) → (b : Bool) → same_thread t u ≡ b
        → (b || has_thread t ts) ≡ true → q t ≡ true
    by first rest true is has = ap q (same_thread-same t u is) ∙ first
    by first rest false is has = rest has

-- ---- numbers that never fall

never_falls-filter : (f : ThreadKey → ℕ) (p : ThreadKey → Bool) (ts : List ThreadKey)
    → never_falls (map f ts) ≡ true → never_falls (map f (filter p ts)) ≡ true
never_falls-filter f p [] order = refl
never_falls-filter f p (t ∷ ts) order =
    let parts = and_parts (list_all (λ later. nat_le (f t) later) (map f ts)) (never_falls (map f ts)) order in
    let rest = never_falls-filter f p ts parts.1 in
    let first : list_all (λ later. nat_le (f t) later) (map f (filter p ts)) ≡ true =
    list_all-map (λ later. nat_le (f t) later) f (filter p ts)
    ∙ list_all-filter p (λ (u : ThreadKey). nat_le (f t) (f u)) ts
    (sym (list_all-map (λ later. nat_le (f t) later) f ts) ∙ parts.0) in
    cond_both (p t) (t ∷ filter p ts) (filter p ts) (λ l. never_falls (map f l) ≡ true)
    (λ _. and_from _ _ first rest) (λ _. rest)

map-alike : (f g : ThreadKey → ℕ) (p : ThreadKey → Bool) (ts : List ThreadKey)
    → ((t : ThreadKey) → p t ≡ true → f t ≡ g t) → map f (filter p ts) ≡ map g (filter p ts)
map-alike f g p [] alike = refl
map-alike f g p (t ∷ ts) alike =
    let rest = map-alike f g p ts alike in
    cond_both (p t) (t ∷ filter p ts) (filter p ts) (λ l. map f l ≡ map g l)
    (λ is. (λ i. alike t is i ∷ rest i)) (λ _. rest)

-- Threads that differ stand in the order of numbers that differ in one way alone.
module _ (f : ThreadKey → ℕ) where
  least : (t : ThreadKey) (ts : List ThreadKey) (s : ThreadKey) → never_falls (map f (t ∷ ts)) ≡ true
      → has_thread s (t ∷ ts) ≡ true → f t ≤ f s
  least t ts s order has =
      leb-true (f t) (f s)
      (member-all (λ (u : ThreadKey). nat_le (f t) (f u)) (t ∷ ts) s
      (and_from _ _ (le-leb (f t) (f t) (omega arith))
      (sym (list_all-map (λ later. nat_le (f t) later) f ts)
      ∙ (and_parts (list_all (λ later. nat_le (f t) later) (map f ts)) (never_falls (map f ts)) order).0)) has)

  has_first : (t : ThreadKey) (ts : List ThreadKey) → has_thread t (t ∷ ts) ≡ true
  has_first t ts = ap (λ b. b || has_thread t ts) (same_thread-equiv.refl t)

  tails : (t : ThreadKey) (ss ts : List ThreadKey) → IsDistinct same_thread (t ∷ ss) → IsDistinct same_thread (t ∷ ts)
      → ((s : ThreadKey) → has_thread s (t ∷ ss) ≡ has_thread s (t ∷ ts))
      → (s : ThreadKey) → has_thread s ss ≡ has_thread s ts
  tails t ss ts once_a once_b alike s = by (same_thread s t) refl (alike s)
    where
      by : (b : Bool) → same_thread s t ≡ b → (b || has_thread s ss) ≡ (b || has_thread s ts)
          → has_thread s ss ≡ has_thread s ts
      by true is both =
          let s_t = same_thread-same s t is in
          ap (λ (u : ThreadKey). has_thread u ss) s_t
          ∙ apart-has t ss (IsDistinct-head same_thread t ss once_a)
          ∙ sym (apart-has t ts (IsDistinct-head same_thread t ts once_b))
          ∙ ap (λ (u : ThreadKey). has_thread u ts) (sym s_t)
      by false is both = both

  has_later : (t : ThreadKey) (ts : List ThreadKey) (s : ThreadKey) → has_thread s ts ≡ true
      → has_thread s (t ∷ ts) ≡ true
  has_later t ts s has = by (same_thread s t)
    where
      by : (b : Bool) → (b || has_thread s ts) ≡ true
      by true = refl
      by false = has

  pub one_order : (ss ts : List ThreadKey) → IsDistinct same_thread ss → IsDistinct same_thread ts
      → ((s : ThreadKey) → has_thread s ss ≡ has_thread s ts)
      → never_falls (map f ss) ≡ true → never_falls (map f ts) ≡ true
      → ((s t : ThreadKey) → has_thread s ts ≡ true → has_thread t ts ≡ true → f s ≡ f t → same_thread s t ≡ true)
      → ss ≡ ts
  one_order [] [] once_a once_b alike order_a order_b apart = refl
  one_order [] (b ∷ ts) once_a once_b alike order_a order_b apart =
      absurd (false≢true (alike b ∙ has_first b ts))
  one_order (a ∷ ss) [] once_a once_b alike order_a order_b apart =
      absurd (false≢true (sym (alike a) ∙ has_first a ss))
  one_order (a ∷ ss) (b ∷ ts) once_a once_b alike order_a order_b apart =
      let a_there : has_thread a (b ∷ ts) ≡ true = sym (alike a) ∙ has_first a ss in
      let b_there : has_thread b (a ∷ ss) ≡ true = alike b ∙ has_first b ts in
      let below = least a ss b order_a b_there in
      let above = least b ts a order_b a_there in
      let a_b : a ≡ b = same_thread-same a b (apart a b a_there (has_first b ts) (omega arith)) in
      let once : IsDistinct same_thread (b ∷ ss) = subst (λ t. IsDistinct same_thread (t ∷ ss)) a_b once_a in
      let both : (s : ThreadKey) → has_thread s (b ∷ ss) ≡ has_thread s (b ∷ ts) =
      subst (λ t. (s : ThreadKey) → has_thread s (t ∷ ss) ≡ has_thread s (b ∷ ts)) a_b alike in
      let rest = one_order ss ts (IsDistinct-tail same_thread a ss once_a) (IsDistinct-tail same_thread b ts once_b)
      (tails b ss ts once once_b both)
      (and_parts (list_all (λ later. nat_le (f a) later) (map f ss)) (never_falls (map f ss)) order_a).1
      (and_parts (list_all (λ later. nat_le (f b) later) (map f ts)) (never_falls (map f ts)) order_b).1
      (λ s t has_s has_t same. apart s t (has_later b ts s has_s) (has_later b ts t has_t) same) in
      λ i. a_b i ∷ rest i

-- ---- the rows of these events, by thread

module _ (server user : List ℕ) where
  -- those of one thread
  abbrev pub rows_in : List Happening → ThreadKey → List Row
  rows_in xs t = map (row_of server user) (filter (λ (x : Happening). same_thread t (thread_in x)) xs)

  abbrev threads_in : List Happening → List ThreadKey
  threads_in xs = each_once (map thread_in xs)

  has_rows-here : (b : Bool) (x : Happening) (xs : List Happening) (rest : Bool)
      → rest ≡ has_rows (map (row_of server user) xs)
      → (b || rest) ≡ has_rows (map (row_of server user) (cond b (x ∷ xs) xs))
  has_rows-here true x xs rest is = refl
  has_rows-here false x xs rest is = is

  -- a thread is there where it has rows
  has-rows_in : (xs : List Happening) (t : ThreadKey) → has_thread t (map thread_in xs) ≡ has_rows (rows_in xs t)
  has-rows_in [] t = refl
  has-rows_in (x ∷ xs) t =
      has_rows-here (same_thread t (thread_in x)) x (filter (λ (x : Happening). same_thread t (thread_in x)) xs)
      (has_thread t (map thread_in xs)) (has-rows_in xs t)

  has-threads_in : (xs : List Happening) (t : ThreadKey) → has_thread t (threads_in xs) ≡ has_rows (rows_in xs t)
  has-threads_in xs t = has-each_once t (map thread_in xs) ∙ has-rows_in xs t

  rows_in-here : (x : Happening) (xs : List Happening) (t : ThreadKey) (b : Bool) → same_thread t (thread_in x) ≡ b
      → rows_in (x ∷ xs) t ≡ cond b (row_of server user x ∷ rows_in xs t) (rows_in xs t)
  rows_in-here x xs t true is =
      ap (λ b. map (row_of server user) (cond b (x ∷ filter (λ (x : Happening). same_thread t (thread_in x)) xs)
      (filter (λ (x : Happening). same_thread t (thread_in x)) xs))) is
  rows_in-here x xs t false is =
      ap (λ b. map (row_of server user) (cond b (x ∷ filter (λ (x : Happening). same_thread t (thread_in x)) xs)
      (filter (λ (x : Happening). same_thread t (thread_in x)) xs))) is

  -- rows of events above a position start above it
  starts-above : (n : ℕ) (xs : List Happening) (t : ThreadKey)
      → list_all (λ (x : Happening). nat_lt n (position x)) xs ≡ true → has_rows (rows_in xs t) ≡ true
      → n < start_of (rows_in xs t)
  starts-above n [] t above has = absurd (false≢true has)
  starts-above n (x ∷ xs) t above has =
      let parts = and_parts (nat_lt n (position x)) (list_all (λ (x : Happening). nat_lt n (position x)) xs) above in
      by (ltb-true n (position x) parts.0) (starts-above n xs t parts.1) (same_thread t (thread_in x)) refl
    where
      by : n < position x → (has_rows (rows_in xs t) ≡ true → n < start_of (rows_in xs t)) → (b : Bool)
          → same_thread t (thread_in x) ≡ b → n < start_of (rows_in (x ∷ xs) t)
      by first rest true is =
          subst (λ (rows : List Row). n < start_of rows) (sym (rows_in-here x xs t true is)) first
      by first rest false is =
          let same = rows_in-here x xs t false is in
          subst (λ (rows : List Row). n < start_of rows) (sym same)
          (rest (subst (λ (rows : List Row). has_rows rows ≡ true) same has))

  -- the threads stand in the order of their first rows
  in_order : (xs : List Happening) → Rise xs
      → never_falls (map (λ t. start_of (rows_in xs t)) (threads_in xs)) ≡ true
  in_order [] rise = refl
  in_order (x ∷ xs) rise =
      let first : start_of (rows_in (x ∷ xs) (thread_in x)) ≡ position x =
      ap start_of (rows_in-here x xs (thread_in x) true (same_thread-equiv.refl (thread_in x))) in
      let alike : map (λ t. start_of (rows_in (x ∷ xs) t)) (filter others (threads_in xs))
      ≡ map (λ t. start_of (rows_in xs t)) (filter others (threads_in xs)) =
      map-alike (λ t. start_of (rows_in (x ∷ xs) t)) (λ t. start_of (rows_in xs t)) others (threads_in xs)
      (λ t is. ap start_of (rows_in-here x xs t false
      (same_flip t (thread_in x) ∙ not_true (same_thread (thread_in x) t) is))) in
      let above : list_all (λ later. nat_le (position x) later)
      (map (λ t. start_of (rows_in xs t)) (filter others (threads_in xs))) ≡ true =
      list_all-map (λ later. nat_le (position x) later) (λ t. start_of (rows_in xs t)) (filter others (threads_in xs))
      ∙ list_all-filter others (λ t. nat_le (position x) (start_of (rows_in xs t))) (threads_in xs)
      (all-members (λ t. nat_le (position x) (start_of (rows_in xs t))) (threads_in xs)
      (λ t has. let over = starts-above (position x) xs t rise.0 (sym (has-threads_in xs t) ∙ has) in
      le-leb (position x) (start_of (rows_in xs t)) (omega arith))) in
      ap (λ (l : List ℕ). never_falls (start_of (rows_in (x ∷ xs) (thread_in x)) ∷ l)) alike
      ∙ and_from _ _
      (ap (λ n. list_all (λ later. nat_le n later) (map (λ t. start_of (rows_in xs t)) (filter others (threads_in xs))))
      first ∙ above)
      (never_falls-filter (λ t. start_of (rows_in xs t)) others (threads_in xs) (in_order xs rise.1))
    where
      others : ThreadKey → Bool
      others t = not (same_thread (thread_in x) t)

  -- two threads have no first row in common
  starts-differ : (xs : List Happening) → Rise xs → (s t : ThreadKey)
      → has_rows (rows_in xs s) ≡ true → has_rows (rows_in xs t) ≡ true
      → start_of (rows_in xs s) ≡ start_of (rows_in xs t) → same_thread s t ≡ true
  starts-differ [] rise s t has_s has_t same = absurd (false≢true has_s)
  starts-differ (x ∷ xs) rise s t has_s has_t same =
      by (starts-differ xs rise.1 s t) (same_thread s (thread_in x)) refl (same_thread t (thread_in x)) refl
    where
      over : (u : ThreadKey) → same_thread u (thread_in x) ≡ false → has_rows (rows_in (x ∷ xs) u) ≡ true
          → position x < start_of (rows_in (x ∷ xs) u)
      over u is has =
          let skips = rows_in-here x xs u false is in
          subst (λ (rows : List Row). position x < start_of rows) (sym skips)
          (starts-above (position x) xs u rise.0 (subst (λ (rows : List Row). has_rows rows ≡ true) skips has))

      here : (u : ThreadKey) → same_thread u (thread_in x) ≡ true → start_of (rows_in (x ∷ xs) u) ≡ position x
      here u is = ap start_of (rows_in-here x xs u true is)

      by : (has_rows (rows_in xs s) ≡ true → has_rows (rows_in xs t) ≡ true
          → start_of (rows_in xs s) ≡ start_of (rows_in xs t) → same_thread s t ≡ true)
          → (b : Bool) → same_thread s (thread_in x) ≡ b → (c : Bool) → same_thread t (thread_in x) ≡ c
          → same_thread s t ≡ true
      by rest true is_s true is_t =
          ap (λ (u : ThreadKey). same_thread s u) (same_thread-same t (thread_in x) is_t) ∙ is_s
      by rest true is_s false is_t =
          let one = here s is_s in
          let other = over t is_t has_t in
          absurd (omega arith)
      by rest false is_s true is_t =
          let one = here t is_t in
          let other = over s is_s has_s in
          absurd (omega arith)
      by rest false is_s false is_t =
          let s_skips = rows_in-here x xs s false is_s in
          let t_skips = rows_in-here x xs t false is_t in
          rest (subst (λ (rows : List Row). has_rows rows ≡ true) s_skips has_s)
          (subst (λ (rows : List Row). has_rows rows ≡ true) t_skips has_t)
          (ap start_of (sym s_skips) ∙ same ∙ ap start_of t_skips)

  -- ---- sums over threads

  sum-row : (f : Row → ℕ) (row : Row) (rows : List Row) (b : Bool)
      → sum_by f (cond b (row ∷ rows) rows) ≡ cond b (f row) 0 + sum_by f rows
  sum-row f row rows true = sum_by-cons f row rows
  sum-row f row rows false = omega arith

  -- an event counts once, in its own thread
  sum-event : (f : Row → ℕ) (x : Happening) (xs : List Happening) (ts : List ThreadKey) → IsDistinct same_thread ts
      → sum_by (λ t. sum_by f (rows_in (x ∷ xs) t)) ts
      ≡ cond (has_thread (thread_in x) ts) (f (row_of server user x)) 0 + sum_by (λ t. sum_by f (rows_in xs t)) ts
  sum-event f x xs [] once = refl
  sum-event f x xs (t ∷ ts) once =
      let rest = sum-event f x xs ts (IsDistinct-tail same_thread t ts once) in
      let whole = sum_by-cons (λ t. sum_by f (rows_in (x ∷ xs) t)) t ts in
      let less = sum_by-cons (λ t. sum_by f (rows_in xs t)) t ts in
      whole ∙ by (same_thread t (thread_in x)) refl rest
      ∙ ap (λ n. cond (has_thread (thread_in x) (t ∷ ts)) (f (row_of server user x)) 0 + n) (sym less)
    where
      weight : ℕ
      weight = f (row_of server user x)

      this : ℕ
      this = sum_by f (rows_in xs t)

      others : ℕ
      others = sum_by (λ t. sum_by f (rows_in xs t)) ts

      by : (b : Bool) → same_thread t (thread_in x) ≡ b
          → sum_by (λ t. sum_by f (rows_in (x ∷ xs) t)) ts
          ≡ cond (has_thread (thread_in x) ts) weight 0 + others
          → sum_by f (rows_in (x ∷ xs) t) + sum_by (λ t. sum_by f (rows_in (x ∷ xs) t)) ts
          ≡ cond (has_thread (thread_in x) (t ∷ ts)) weight 0 + (this + others)
      by true is rest =
          let t_x = same_thread-same t (thread_in x) is in
          let gone : has_thread (thread_in x) ts ≡ false =
          ap (λ (u : ThreadKey). has_thread u ts) (sym t_x)
          ∙ apart-has t ts (IsDistinct-head same_thread t ts once) in
          let here : sum_by f (rows_in (x ∷ xs) t) ≡ weight + this =
          ap (sum_by f) (rows_in-here x xs t true is) ∙ sum-row f (row_of server user x) (rows_in xs t) true in
          let there : cond (has_thread (thread_in x) (t ∷ ts)) weight 0 ≡ weight =
          ap (λ b. cond (b || has_thread (thread_in x) ts) weight 0) (same_flip (thread_in x) t ∙ is) in
          let none = ap (λ b. cond b weight 0) gone in
          omega arith
      by false is rest =
          let here : sum_by f (rows_in (x ∷ xs) t) ≡ this = ap (sum_by f) (rows_in-here x xs t false is) in
          let there : cond (has_thread (thread_in x) (t ∷ ts)) weight 0 ≡ cond (has_thread (thread_in x) ts) weight 0 =
          ap (λ b. cond (b || has_thread (thread_in x) ts) weight 0) (same_flip (thread_in x) t ∙ is) in
          omega arith

  sum-none : (f : Row → ℕ) (ts : List ThreadKey) → sum_by (λ t. sum_by f (rows_in [] t)) ts ≡ 0
  sum-none f [] = refl
  sum-none f (t ∷ ts) =
      let whole = sum_by-cons (λ t. sum_by f (rows_in [] t)) t ts in
      let rest = sum-none f ts in
      omega arith

  -- what is summed up over all threads is summed up over all events
  sum-threads : (f : Row → ℕ) (xs : List Happening) (ts : List ThreadKey) → IsDistinct same_thread ts
      → list_all (λ (x : Happening). has_thread (thread_in x) ts) xs ≡ true
      → sum_by f (map (row_of server user) xs) ≡ sum_by (λ t. sum_by f (rows_in xs t)) ts
  sum-threads f [] ts once covers = sym (sum-none f ts)
  sum-threads f (x ∷ xs) ts once covers =
      let parts = and_parts (has_thread (thread_in x) ts) (list_all (λ (x : Happening). has_thread (thread_in x) ts) xs)
      covers in
      let rest = sum-threads f xs ts once parts.1 in
      let more = sum_by-cons f (row_of server user x) (map (row_of server user) xs) in
      let here = ap (λ b. cond b (f (row_of server user x)) 0) parts.0 in
      let step = sum-event f x xs ts once in
      omega arith

  covered : (xs : List Happening) → list_all (λ (x : Happening). has_thread (thread_in x) (threads_in xs)) xs ≡ true
  covered xs =
      sym (list_all-map (λ t. has_thread t (threads_in xs)) thread_in xs)
      ∙ all-members (λ t. has_thread t (threads_in xs)) (map thread_in xs)
      (λ t has. has-each_once t (map thread_in xs) ∙ has)

ones : (rows : List Row) → length rows ≡ sum_by (λ (row : Row). 1) rows
ones [] = refl
ones (row ∷ rows) =
    let rest = ones rows in
    let more = sum_by-cons (λ (row : Row). 1) row rows in
    omega arith

-- ---- the threads of a room that have unread events

module _ (server : List ℕ) (h : History) (user room : List ℕ) where
  -- exactly those that have rows
  pub has-threads_of : (t : ThreadKey)
      → has_thread t (threads_of server h user room) ≡ has_rows (rows_of server h user room t)
  unfolding threads_of rows_of
  has-threads_of t = has-threads_in server user (unread server h user room) t

  -- each once
  pub threads_of-once : IsDistinct same_thread (threads_of server h user room)
  unfolding threads_of
  threads_of-once = each_once-distinct (map thread_in (unread server h user room))

  -- in the order of their first rows
  pub threads_of-in_order : are_in_order (rows_of server h user room) (threads_of server h user room) ≡ true
  unfolding threads_of rows_of
  threads_of-in_order = in_order server user (unread server h user room) (unread-rise server h user room)

  -- which no other threads have in common
  pub starts_of-differ : (s t : ThreadKey)
      → has_rows (rows_of server h user room s) ≡ true → has_rows (rows_of server h user room t) ≡ true
      → start_of (rows_of server h user room s) ≡ start_of (rows_of server h user room t) → same_thread s t ≡ true
  unfolding rows_of
  starts_of-differ s t = starts-differ server user (unread server h user room) (unread-rise server h user room) s t

  -- threads of which all this is true are those
  pub threads_of-only : (threads : List ThreadKey) → IsDistinct same_thread threads
      → ((t : ThreadKey) → has_thread t threads ≡ has_rows (rows_of server h user room t))
      → are_in_order (rows_of server h user room) threads ≡ true
      → threads ≡ threads_of server h user room
  threads_of-only threads once has order =
      one_order (λ t. start_of (rows_of server h user room t)) threads (threads_of server h user room)
      once threads_of-once (λ t. has t ∙ sym (has-threads_of t)) order threads_of-in_order
      (λ s t has_s has_t same. starts_of-differ s t (sym (has-threads_of s) ∙ has_s) (sym (has-threads_of t) ∙ has_t)
      same)

  sum_of : (f : Row → ℕ)
      → sum_by f (map (row_of server user) (unread server h user room))
      ≡ sum_by (λ t. sum_by f (rows_of server h user room t)) (threads_of server h user room)
  unfolding threads_of rows_of
  sum_of f =
      sum-threads server user f (unread server h user room) (threads_of server h user room) threads_of-once
      (covered server user (unread server h user room))

  -- the counts of a room are the sums of those of its threads
  pub room_counts_of-threads : room_counts_of server h user room ≡ record {
    notify = sum_by (λ t. (counts_of server h user room t).notify) (threads_of server h user room);
    highlight = sum_by (λ t. (counts_of server h user room t).highlight) (threads_of server h user room);
  }
  unfolding room_counts_of counts_of
  room_counts_of-threads =
      let notify = ones (map (row_of server user) (unread server h user room))
      ∙ sum_of (λ (row : Row). 1)
      ∙ (λ i. sum_by (λ t. sym (ones (rows_of server h user room t)) i) (threads_of server h user room)) in
      let highlight = sum_of (λ (row : Row). cond row.highlight 1 0) in
      λ i. record { notify = notify i; highlight = highlight i }
