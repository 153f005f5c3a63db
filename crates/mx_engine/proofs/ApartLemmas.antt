-- No two threads have a row at one position, whatever is pushed above all rows or cut; so the lists of the
-- threads alone say in which order these stand.
use Rattle.std.proofs.Common.{◌≡◌, ℕ, ◌<◌, ◌≤◌, nat_eq, nat_le, nat_lt, Bool, true, false, cond, ◌&&◌, ◌||◌, List, []}
use Rattle.std.proofs.Common.{◌∷◌, ◌++◌, map, filter, All, ◌⊎◌, inl, inr, ⊎_elim, refl, sym, ap, subst, ◌∙◌, arith}
use Rattle.std.specs.List.{AllByRecursion, IsDistinct, list_all, list_any}
use Rattle.std.proofs.lemmas.Bool.{and_parts, eq-eqb, eqb-true, false≢true, leb-true, ne_eqb, or_cases, or_from}
use Rattle.std.proofs.lemmas.Bool.{or_left, or_parts, or_right}
use Rattle.std.proofs.lemmas.List.Elements.{All-weaker}
use Rattle.std.proofs.lemmas.List.Folds.{list_any-append, list_any_none}
use Rattle.std.proofs.lemmas.Map.Keys.{IsDistinct-head, IsDistinct-tail}
use Rattle.std.proofs.lemmas.Map.Views.{any-filter_same}
use Rattle.mx_room.specs.Texts.{Texts}
use Rattle.mx_room.proofs.TextsLemmas.{same_texts}
use Rattle.mx_rows.specs.declared.row.Row.{Row}
use Rattle.mx_rows.specs.declared.thread_key.ThreadKey.{ThreadKey}
use Rattle.mx_rows.specs.Rows.{above, are_in_order, has_rows, never_falls, start_of, with_rows}
use Rattle.mx_rows.specs.Threads.{has_thread, same_thread, same_thread-equiv}
use Rattle.mx_engine.specs.KeptRows.{AreApart, AreRoomRows, AreUnreadRows, AreUserRows, has_row_at, list_at, list_in}
use Rattle.mx_engine.specs.KeptRows.{of_user, rows_in, some_entries, thread_rows, threads_in}
use Rattle.mx_records.specs.Snapshot.{RoomRows, rows_by_thread, some_rows}
use Rattle.mx_engine.proofs.RoomRowsLemmas.{same_thread-exact}

-- ---- apart

module _ (old new : ThreadKey → List Row) (apart : AreApart old) where
  apart-fewer : ((t : ThreadKey) (position : ℕ) → has_row_at position (new t) ≡ true
      → has_row_at position (old t) ≡ true) → AreApart new
  apart-fewer fewer s t position at_s at_t =
      apart s t position (fewer s position at_s) (fewer t position at_t)

  pub apart-same : ((t : ThreadKey) → new t ≡ old t) → AreApart new
  apart-same same =
      apart-fewer (λ t position has. sym (ap (has_row_at position) (same t)) ∙ has)

  any-filter : {X : Type 0} (test keep : X → Bool) (xs : List X) → list_any test (filter keep xs) ≡ true
      → list_any test xs ≡ true
  any-filter test keep [] has = has
  any-filter test keep (x ∷ xs) has = by (keep x) (any-filter test keep xs) has
    where
      by : (b : Bool) → (list_any test (filter keep xs) ≡ true → list_any test xs ≡ true)
          → list_any test (cond b (x ∷ filter keep xs) (filter keep xs)) ≡ true
          → (test x || list_any test xs) ≡ true
      by true rest has =
          ⊎_elim (λ here. or_left (test x) (list_any test xs) here)
          (λ later. or_right (test x) (list_any test xs) (rest later))
          (or_cases (test x) (list_any test (filter keep xs)) has)
      by false rest has = or_right (test x) (list_any test xs) (rest has)

  pub apart-cut : (n : ℕ) (here : ThreadKey → Bool)
      → ((t : ThreadKey) → new t ≡ cond (here t) (above n (old t)) (old t)) → AreApart new
  apart-cut n here says = apart-fewer (λ t position has.
      by t position (here t) (sym (ap (has_row_at position) (says t)) ∙ has))
    where
      by : (t : ThreadKey) (position : ℕ) (b : Bool)
          → has_row_at position (cond b (above n (old t)) (old t)) ≡ true → has_row_at position (old t) ≡ true
      by t position true has =
          any-filter (λ (row : Row). nat_eq row.position position) (λ row. nat_lt n row.position) (old t) has
      by t position false has = has

  -- at or above the position of all rows stands none
  none_there : (position : ℕ) (rows : List Row) → All (λ row. row.position < position) rows
      → has_row_at position rows ≡ false
  none_there position rows below =
      list_any_none (λ (row : Row). nat_eq row.position position) rows
      (All-weaker (λ (row : Row). row.position < position) (λ row. nat_eq row.position position ≡ false)
      (λ row lt. ne_eqb row.position position (λ is. omega arith)) rows below)

  pub apart-pushed : (thread : ThreadKey) (row : Row) (here : Bool)
      → (here ≡ true → (t : ThreadKey) → All (λ each. each.position < row.position) (old t))
      → ((t : ThreadKey) → new t ≡ cond (here && same_thread thread t) (old t ++ row ∷ []) (old t)) → AreApart new
  apart-pushed thread row false below says = apart-same says
  apart-pushed thread row true below says = λ s t position at_s at_t.
      both s t position (was s position at_s) (was t position at_t)
    where
      pushed : (t : ThreadKey) (position : ℕ) (b : Bool) → same_thread thread t ≡ b
          → has_row_at position (cond b (old t ++ row ∷ []) (old t)) ≡ true
          → (has_row_at position (old t) ≡ true) ⊎ ((same_thread thread t ≡ true) × (row.position ≡ position))
      pushed t position true same has =
          ⊎_elim (λ before. inl before)
          (λ last. inr (
            same,
            ⊎_elim (λ is. eqb-true row.position position is) (λ none. absurd (false≢true none))
                (or_cases (nat_eq row.position position) false last),
          ))
          (or_cases (has_row_at position (old t)) (has_row_at position (row ∷ []))
          (sym (list_any-append (λ (each : Row). nat_eq each.position position) (old t) (row ∷ [])) ∙ has))
      pushed t position false same has = inl has

      was : (t : ThreadKey) (position : ℕ) → has_row_at position (new t) ≡ true
          → (has_row_at position (old t) ≡ true) ⊎ ((same_thread thread t ≡ true) × (row.position ≡ position))
      was t position has =
          pushed t position (same_thread thread t) refl (sym (ap (has_row_at position) (says t)) ∙ has)

      not_there : (t : ThreadKey) (position : ℕ) → row.position ≡ position → has_row_at position (old t) ≡ true → ⊥
      not_there t position is has =
          false≢true
          (sym (none_there row.position (old t) (below refl t))
          ∙ ap (λ n. has_row_at n (old t)) is ∙ has)

      both : (s t : ThreadKey) (position : ℕ)
          → (has_row_at position (old s) ≡ true) ⊎ ((same_thread thread s ≡ true) × (row.position ≡ position))
          → (has_row_at position (old t) ≡ true) ⊎ ((same_thread thread t ≡ true) × (row.position ≡ position))
          → same_thread s t ≡ true
      both s t position (inl at_s) (inl at_t) = apart s t position at_s at_t
      both s t position (inl at_s) (inr last) = absurd (not_there s position last.1 at_s)
      both s t position (inr last) (inl at_t) = absurd (not_there t position last.1 at_t)
      both s t position (inr last) (inr other) =
          sym (same_thread-equiv.congr thread s t last.0) ∙ other.0

-- ---- the order of the threads

itself : (t : ThreadKey) → same_thread t t ≡ true
itself t = same_thread-equiv.refl t

absent : (t : ThreadKey) (ts : List ThreadKey) → AllByRecursion (λ other. same_thread t other ≡ false) ts
    → has_thread t ts ≡ false
absent t [] all = refl
absent t (first ∷ others) all =
    or_from (same_thread t first) (has_thread t others) all.0 (absent t others all.1)

module _ (list : ThreadKey → List Row) (apart : AreApart list) where
  abbrev start : ThreadKey → ℕ
  start t = start_of (list t)

  same_start : (s t : ThreadKey) → has_rows (list s) ≡ true → has_rows (list t) ≡ true → start s ≡ start t
      → same_thread s t ≡ true
  same_start s t some_s some_t same = by (list s) (list t) refl refl some_s some_t same
    where
      by : (of_s of_t : List Row) → list s ≡ of_s → list t ≡ of_t → has_rows of_s ≡ true → has_rows of_t ≡ true
          → start_of of_s ≡ start_of of_t → same_thread s t ≡ true
      by [] of_t is_s is_t some_s some_t same = absurd (false≢true some_s)
      by (x ∷ xs) [] is_s is_t some_s some_t same = absurd (false≢true some_t)
      by (x ∷ xs) (y ∷ ys) is_s is_t some_s some_t same =
          apart s t x.position
          (ap (has_row_at x.position) is_s
          ∙ or_left (nat_eq x.position x.position) (has_row_at x.position xs) (eq-eqb x.position x.position refl))
          (ap (has_row_at x.position) is_t
          ∙ or_left (nat_eq y.position x.position) (has_row_at x.position ys)
          (eq-eqb y.position x.position (sym same)))

  least : (t q : ThreadKey) (ts : List ThreadKey)
      → list_all (λ later. nat_le (start t) later) (map start ts) ≡ true → has_thread q ts ≡ true
      → start t ≤ start q
  least t q [] all has = absurd (false≢true has)
  least t q (first ∷ others) all has =
      let parts = and_parts (nat_le (start t) (start first))
      (list_all (λ later. nat_le (start t) later) (map start others)) all in
      ⊎_elim
      (λ same. subst (λ (k : ThreadKey). start t ≤ start k) (sym (same_thread-exact q first same))
      (leb-true (start t) (start first) parts.0))
      (λ later. least t q others parts.1 later)
      (or_cases (same_thread q first) (has_thread q others) has)

  first_least : (t q : ThreadKey) (ts : List ThreadKey) → are_in_order list (t ∷ ts) ≡ true
      → has_thread q (t ∷ ts) ≡ true → start t ≤ start q
  first_least t q ts in_order has =
      ⊎_elim
      (λ same. subst (λ (k : ThreadKey). start t ≤ start k) (sym (same_thread-exact q t same)) (omega arith))
      (λ later. least t q ts
      (and_parts (list_all (λ n. nat_le (start t) n) (map start ts)) (never_falls (map start ts)) in_order).0 later)
      (or_cases (same_thread q t) (has_thread q ts) has)

  later : (t : ThreadKey) (ts : List ThreadKey) → are_in_order list (t ∷ ts) ≡ true → are_in_order list ts ≡ true
  later t ts in_order =
      (and_parts (list_all (λ n. nat_le (start t) n) (map start ts)) (never_falls (map start ts)) in_order).1

  -- the threads after the same first one are the same
  same_later : (t q : ThreadKey) (ts us : List ThreadKey) → IsDistinct same_thread (t ∷ ts)
      → IsDistinct same_thread (t ∷ us) → has_thread q (t ∷ ts) ≡ has_thread q (t ∷ us)
      → has_thread q ts ≡ has_thread q us
  same_later t q ts us once_t once_u same = by (same_thread q t) refl same
    where
      none : (vs : List ThreadKey) → IsDistinct same_thread (t ∷ vs) → same_thread q t ≡ true
          → has_thread q vs ≡ false
      none vs once is =
          ap (λ (k : ThreadKey). has_thread k vs) (same_thread-exact q t is)
          ∙ absent t vs (IsDistinct-head same_thread t vs once)

      by : (b : Bool) → same_thread q t ≡ b → (b || has_thread q ts) ≡ (b || has_thread q us)
          → has_thread q ts ≡ has_thread q us
      by true is same = none ts once_t is ∙ sym (none us once_u is)
      by false is same = same

  -- threads that have rows stand in one order alone
  pub same_order : (ts us : List ThreadKey) → IsDistinct same_thread ts → IsDistinct same_thread us
      → are_in_order list ts ≡ true → are_in_order list us ≡ true
      → ((q : ThreadKey) → has_thread q ts ≡ has_thread q us)
      → ((q : ThreadKey) → has_thread q ts ≡ true → has_rows (list q) ≡ true) → ts ≡ us
  same_order [] [] once_t once_u in_t in_u same some = refl
  same_order [] (u ∷ us) once_t once_u in_t in_u same some =
      absurd (false≢true (same u ∙ or_left (same_thread u u) (has_thread u us) (itself u)))
  same_order (t ∷ ts) [] once_t once_u in_t in_u same some =
      absurd (false≢true (sym (same t) ∙ or_left (same_thread t t) (has_thread t ts) (itself t)))
  same_order (t ∷ ts) (u ∷ us) once_t once_u in_t in_u same some =
      let t_there : has_thread t (t ∷ ts) ≡ true = or_left (same_thread t t) (has_thread t ts) (itself t) in
      let u_there : has_thread u (t ∷ ts) ≡ true
      = same u ∙ or_left (same_thread u u) (has_thread u us) (itself u) in
      let up : start t ≤ start u = first_least t u ts in_t u_there in
      let down : start u ≤ start t = first_least u t us in_u (sym (same t) ∙ t_there) in
      let head : t ≡ u
      = same_thread-exact t u (same_start t u (some t t_there) (some u u_there) (omega arith)) in
      let once_u' : IsDistinct same_thread (t ∷ us)
      = subst (λ (k : ThreadKey). IsDistinct same_thread (k ∷ us)) (sym head) once_u in
      let rest : ts ≡ us
      = same_order ts us (IsDistinct-tail same_thread t ts once_t) (IsDistinct-tail same_thread u us once_u)
      (later t ts in_t) (later u us in_u)
      (λ q. same_later t q ts us once_t once_u'
      (same q ∙ ap (λ (k : ThreadKey). has_thread q (k ∷ us)) (sym head)))
      (λ q has. some q (or_right (same_thread q t) (has_thread q ts) has)) in
      λ i. head i ∷ rest i

-- ---- the lists of the threads say what the rows of a room are

thread_rows-absent : (rows : RoomRows) (q : ThreadKey) → has_thread q (threads_in rows) ≡ false
    → thread_rows rows q ≡ []
thread_rows-absent [] q none = refl
thread_rows-absent (first ∷ others) q none =
    let parts = or_parts (same_thread q first.thread) (has_thread q (threads_in others)) none in
    ap (λ b. cond b first.rows (thread_rows others q)) parts.0 ∙ thread_rows-absent others q parts.1

-- exactly the threads that have rows are there
pub has_thread-rows : (rows : RoomRows) → with_rows (thread_rows rows) (threads_in rows) ≡ threads_in rows
    → (q : ThreadKey) → has_thread q (threads_in rows) ≡ has_rows (thread_rows rows q)
has_thread-rows rows some q = by (has_thread q (threads_in rows)) refl
  where
    kept : has_thread q (threads_in rows) ≡ (has_rows (thread_rows rows q) && has_thread q (threads_in rows))
    kept =
        ap (has_thread q) (sym some)
        ∙ any-filter_same (same_thread q) (λ t. has_rows (thread_rows rows t)) (has_rows (thread_rows rows q))
        (λ k same. ap (λ t. has_rows (thread_rows rows t)) (sym (same_thread-exact q k same))) (threads_in rows)

    by : (b : Bool) → has_thread q (threads_in rows) ≡ b → b ≡ has_rows (thread_rows rows q)
    by true is =
        sym (and_parts (has_rows (thread_rows rows q)) (has_thread q (threads_in rows)) (sym kept ∙ is)).0
    by false is = sym (ap has_rows (thread_rows-absent rows q is))

-- past a thread that is none of these, its rows don't count
past : (first : ThreadKey) (own : List Row) (others : RoomRows) (ts : List ThreadKey)
    → AllByRecursion (λ other. same_thread first other ≡ false) ts
    → rows_by_thread (thread_rows (record { thread = first; rows = own } ∷ others)) ts
    ≡ rows_by_thread (thread_rows others) ts
past first own others [] all = refl
past first own others (t ∷ ts) all =
    (λ i. record {
      thread = t;
      rows = cond ((same_thread-equiv.symm t first ∙ all.0) i) own (thread_rows others t);
    } ∷ past first own others ts all.1 i)

pub by_thread-itself : (rows : RoomRows) → IsDistinct same_thread (threads_in rows)
    → rows_by_thread (thread_rows rows) (threads_in rows) ≡ rows
by_thread-itself [] once = refl
by_thread-itself (first ∷ others) once =
    (λ i. record {
      thread = first.thread;
      rows = cond (itself first.thread i) first.rows (thread_rows others first.thread);
    } ∷ (past first.thread first.rows others (threads_in others)
    (IsDistinct-head same_thread first.thread (threads_in others) once)
    ∙ by_thread-itself others (IsDistinct-tail same_thread first.thread (threads_in others) once)) i)

pub same_room_rows : (a b : RoomRows) → AreRoomRows a → AreRoomRows b
    → ((t : ThreadKey) → thread_rows a t ≡ thread_rows b t) → a ≡ b
same_room_rows a b of_a of_b alike =
    let lists : thread_rows a ≡ thread_rows b = λ i t. alike t i in
    let threads : threads_in a ≡ threads_in b
    = same_order (thread_rows a) of_a.apart (threads_in a) (threads_in b) of_a.once of_b.once of_a.in_order
    ((λ i. are_in_order (lists i) (threads_in b)) ∙ of_b.in_order)
    (λ q. has_thread-rows a of_a.some q ∙ ap has_rows (alike q) ∙ sym (has_thread-rows b of_b.some q))
    (λ q has. sym (has_thread-rows a of_a.some q) ∙ has) in
    sym (by_thread-itself a of_a.once) ∙ (λ i. rows_by_thread (lists i) (threads i))
    ∙ by_thread-itself b of_b.once

pub same_user_rows : (a b : Texts RoomRows) → AreUserRows a → AreUserRows b
    → ((r : List ℕ) (t : ThreadKey) → list_in a r t ≡ list_in b r t) → a ≡ b
same_user_rows a b of_a of_b alike =
    same_texts a b (λ r.
    of_a.some r
    ∙ ap some_rows (same_room_rows (rows_in a r) (rows_in b r) (of_a.each r) (of_b.each r) (λ t. alike r t))
    ∙ sym (of_b.some r))

-- the lists of all threads say what all rows are
pub same_unread : (a b : Texts (Texts RoomRows)) → AreUnreadRows a → AreUnreadRows b
    → ((u r : List ℕ) (t : ThreadKey) → list_at a u r t ≡ list_at b u r t) → a ≡ b
same_unread a b of_a of_b alike =
    same_texts a b (λ u.
    of_a.some u
    ∙ ap some_entries (same_user_rows (of_user a u) (of_user b u) (of_a.each u) (of_b.each u) (λ r t. alike u r t))
    ∙ sym (of_b.some u))
