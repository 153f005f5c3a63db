-- The rows of a room by thread are the lists of its threads, in their order; what a set of threads has.
use Rattle.std.proofs.Common.{◌≡◌, Bool, true, false, cond, ◌&&◌, ◌||◌, List, [], ◌∷◌, map, filter, unwrap_or, refl}
use Rattle.std.proofs.Common.{sym, ap, subst, ◌∙◌}
use Rattle.std.specs.Cmp.Lexicographic.{nat_list_cmp_total, slice_cmp}
use Rattle.std.specs.FinSet as set
use Rattle.std.specs.List.{AllByRecursion, IsDistinct, list_any}
use Rattle.std.specs.Option.{option_map_or}
use Rattle.std.specs.Ordering.{eq_by_cmp, nat_cmp}
use Rattle.std.specs.Str.{bytes_eq}
use Rattle.std.proofs.lemmas.Bool.{cond_both, false≢true}
use Rattle.std.proofs.lemmas.Map.Keys.{IsDistinct-cons, IsDistinct-head, IsDistinct-tail}
use Rattle.std.proofs.lemmas.Map.Views.{any-filter_same}
use Rattle.mx_room.proofs.TextsLemmas.{bytes_eq-same, ties}
use Rattle.mx_rows.specs.declared.row.Row.{Row}
use Rattle.mx_rows.specs.declared.thread_key.ThreadKey.{ThreadKey}
use Rattle.mx_rows.specs.declared.thread_key.ThreadKey.TheVariants.{Main, Root}
use Rattle.mx_rows.specs.Rows.{are_in_order, has_rows, is_rising, with_rows}
use Rattle.mx_rows.specs.Threads.{has_thread, same_thread}
use Rattle.mx_engine.specs.KeptRows.{AreApart, AreRoomRows, some_threads, thread_rows, thread_text, threads_in}
use Rattle.mx_records.specs.Snapshot.{RoomRows, rows_by_thread, some_rows}

pub same_thread-exact : (s t : ThreadKey) → same_thread s t ≡ true → s ≡ t
same_thread-exact Main Main same = refl
same_thread-exact Main (Root b) same = absurd (false≢true same)
same_thread-exact (Root a) Main same = absurd (false≢true same)
same_thread-exact (Root a) (Root b) same = ap Root (bytes_eq-same a b same)

-- ---- lists

AllByRecursion-filter : {X : Type 0} (P : X → Type 0) (p : X → Bool) (xs : List X) → AllByRecursion P xs
    → AllByRecursion P (filter p xs)
AllByRecursion-filter P p [] all = tt
AllByRecursion-filter P p (x ∷ xs) all =
    let rest = AllByRecursion-filter P p xs all.1 in
    cond_both (p x) (x ∷ filter p xs) (filter p xs) (AllByRecursion P) (λ _. (all.0, rest)) (λ _. rest)

pub IsDistinct-filter : {K : Type 0} (eq : K → K → Bool) (p : K → Bool) (ks : List K) → IsDistinct eq ks
    → IsDistinct eq (filter p ks)
IsDistinct-filter eq p [] distinct = distinct
IsDistinct-filter eq p (k ∷ ks) distinct =
    let rest = IsDistinct-filter eq p ks (IsDistinct-tail eq k ks distinct) in
    cond_both (p k) (k ∷ filter p ks) (filter p ks) (IsDistinct eq)
    (λ _. IsDistinct-cons eq k (filter p ks)
    (AllByRecursion-filter (λ y. eq k y ≡ false) p ks (IsDistinct-head eq k ks distinct)) rest)
    (λ _. rest)

filter-again : {X : Type 0} (p : X → Bool) (xs : List X) → filter p (filter p xs) ≡ filter p xs
filter-again p [] = refl
filter-again p (x ∷ xs) = by (p x) refl (filter-again p xs)
  where
    by : (b : Bool) → p x ≡ b → filter p (filter p xs) ≡ filter p xs
        → filter p (cond b (x ∷ filter p xs) (filter p xs)) ≡ cond b (x ∷ filter p xs) (filter p xs)
    by true is rest = ap (λ b. cond b (x ∷ filter p (filter p xs)) (filter p (filter p xs))) is ∙ ap (λ l. x ∷ l) rest
    by false is rest = rest

-- ---- the rows of a room

pub unwrap-some_rows : (rows : RoomRows) → unwrap_or (some_rows rows) [] ≡ rows
unwrap-some_rows [] = refl
unwrap-some_rows (first ∷ others) = refl

pub threads_in-by : (list : ThreadKey → List Row) (threads : List ThreadKey)
    → threads_in (rows_by_thread list threads) ≡ threads
threads_in-by list [] = refl
threads_in-by list (first ∷ others) = ap (λ rest. first ∷ rest) (threads_in-by list others)

thread_rows-by : (list : ThreadKey → List Row) (threads : List ThreadKey) (t : ThreadKey)
    → thread_rows (rows_by_thread list threads) t ≡ cond (has_thread t threads) (list t) []
thread_rows-by list [] t = refl
thread_rows-by list (first ∷ others) t = by (same_thread t first) refl (thread_rows-by list others t)
  where
    by : (b : Bool) → same_thread t first ≡ b
        → thread_rows (rows_by_thread list others) t ≡ cond (has_thread t others) (list t) []
        → cond b (list first) (thread_rows (rows_by_thread list others) t)
        ≡ cond (b || has_thread t others) (list t) []
    by true is rest = ap list (sym (same_thread-exact t first is))
    by false is rest = rest

module _ (list : ThreadKey → List Row) (capacity : ThreadKey → Bool) (threads : List ThreadKey)
    (kept : (t : ThreadKey) → has_thread t threads ≡ (has_rows (list t) || capacity t)) where
  abbrev shown : RoomRows
  shown = rows_by_thread list (with_rows list threads)

  has_thread-with_rows : (t : ThreadKey)
      → has_thread t (with_rows list threads) ≡ (has_rows (list t) && (has_rows (list t) || capacity t))
  has_thread-with_rows t =
      any-filter_same (same_thread t) (λ thread. has_rows (list thread)) (has_rows (list t))
      (λ k same. ap (λ thread. has_rows (list thread)) (sym (same_thread-exact t k same))) threads
      ∙ ap (λ b. has_rows (list t) && b) (kept t)

  -- the rows of each thread are its list
  pub thread_rows-shown : (t : ThreadKey) → thread_rows shown t ≡ list t
  thread_rows-shown t =
      thread_rows-by list (with_rows list threads) t
      ∙ ap (λ b. cond b (list t) []) (has_thread-with_rows t) ∙ by (list t) (capacity t)
    where
      by : (rows : List Row) (c : Bool) → cond (has_rows rows && (has_rows rows || c)) rows [] ≡ rows
      by [] c = refl
      by (row ∷ rows) c = refl

  lists-shown : thread_rows shown ≡ list
  lists-shown i t = thread_rows-shown t i

  pub are_room_rows : IsDistinct same_thread threads → are_in_order list (with_rows list threads) ≡ true
      → ((t : ThreadKey) → is_rising (list t) ≡ true) → AreApart list → AreRoomRows shown
  are_room_rows once in_order rising apart = record {
    once = subst (IsDistinct same_thread) (sym (threads_in-by list (with_rows list threads)))
        (IsDistinct-filter same_thread (λ thread. has_rows (list thread)) threads once);
    some =
        (λ i. with_rows (lists-shown i) (threads_in-by list (with_rows list threads) i))
        ∙ filter-again (λ thread. has_rows (list thread)) threads
        ∙ sym (threads_in-by list (with_rows list threads));
    in_order =
        (λ i. are_in_order (lists-shown i) (threads_in-by list (with_rows list threads) i)) ∙ in_order;
    rising = λ t. ap is_rising (thread_rows-shown t) ∙ rising t;
    apart = subst AreApart (sym lists-shown) apart;
  }

  -- ---- capacity

  same_text : (s t : ThreadKey) → bytes_eq (thread_text s) (thread_text t) ≡ same_thread s t
  same_text Main Main = refl
  same_text Main (Root b) = refl
  same_text (Root a) Main = refl
  same_text (Root a) (Root b) = refl

  any-texts : (t : ThreadKey) (ts : List ThreadKey)
      → list_any (eq_by_cmp (slice_cmp nat_cmp) (thread_text t)) (map thread_text ts) ≡ has_thread t ts
  any-texts t [] = refl
  any-texts t (first ∷ others) =
      (λ i. (ties (thread_text t) (thread_text first) ∙ same_text t first) i || any-texts t others i)

  contains-some_threads : (t : ThreadKey) (ts : List ThreadKey)
      → option_map_or (λ threads. set.contains threads (thread_text t)) (some_threads ts) false ≡ has_thread t ts
  contains-some_threads t [] = refl
  contains-some_threads t (first ∷ others) =
      set.contains-from_list nat_list_cmp_total (map thread_text (first ∷ others)) (thread_text t)
      ∙ any-texts t (first ∷ others)

  -- a thread is shown to have capacity exactly where it has
  pub capacity-shown : (t : ThreadKey)
      → option_map_or (λ threads. set.contains threads (thread_text t)) (some_threads (filter capacity threads)) false
      ≡ capacity t
  capacity-shown t =
      contains-some_threads t (filter capacity threads)
      ∙ any-filter_same (same_thread t) capacity (capacity t)
      (λ k same. ap capacity (sym (same_thread-exact t k same))) threads
      ∙ ap (λ b. capacity t && b) (kept t) ∙ by (capacity t) (has_rows (list t))
    where
      by : (c has : Bool) → (c && (has || c)) ≡ c
      by true true = refl
      by true false = refl
      by false has = refl
