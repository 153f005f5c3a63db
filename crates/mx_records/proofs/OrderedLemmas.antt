-- Rows of a room that are told thread by thread: in the order of their first rows they are the rows of the room.
use Rattle.std.proofs.Common.{◌≡◌, ℕ, Bool, true, false, cond, ◌||◌, List, [], ◌∷◌, map, refl, ap, subst, sym, ◌∙◌}
use Rattle.std.specs.List.{AllByRecursion, IsDistinct, list_all}
use Rattle.std.proofs.lemmas.Bool.{and_parts, and_from, cond_both}
use Rattle.std.proofs.lemmas.List.Folds.{list_all-map}
use Rattle.std.proofs.lemmas.Map.Keys.{IsDistinct-head, IsDistinct-tail}
use Rattle.mx_room.specs.Texts.{Texts}
use Rattle.mx_rows.specs.declared.row.Row.{Row}
use Rattle.mx_rows.specs.declared.thread_key.ThreadKey.{ThreadKey}
use Rattle.mx_rows.specs.Rows.{are_in_order, has_rows, never_falls, start_of, with_rows}
use Rattle.mx_rows.specs.Threads.{has_thread, same_thread, same_thread-equiv}
use Rattle.mx_records.specs.Counting.{rows_of, threads_of}
use Rattle.mx_records.specs.History.{History}
use Rattle.mx_records.specs.KeptRows.{AreOrdered, IsKept, starts_at, thread_rows, threads_at}
use Rattle.mx_records.specs.Snapshot.{RoomRows, ThreadRows, room_rows, rows_at, rows_by_thread, unread_rows}
use Rattle.mx_records.proofs.KeptLemmas.{room_rows-only, rows_at-unread, unread_rows-kept, unread_rows-only}
use Rattle.mx_records.proofs.ShownLemmas.{AreLists, map-threads}
use Rattle.mx_records.proofs.ThreadLemmas.{all-members, distinct-filter, has-threads_of, threads_of-in_order}
use Rattle.mx_records.proofs.ThreadLemmas.{threads_of-once}

-- ---- lists by thread are ordered

starts-by_thread : (list : ThreadKey → List Row) (threads : List ThreadKey)
    → starts_at (rows_by_thread list threads) ≡ map (λ t. start_of (list t)) threads
starts-by_thread list [] = refl
starts-by_thread list (t ∷ threads) = ap (λ l. start_of (list t) ∷ l) (starts-by_thread list threads)

some-by_thread : (list : ThreadKey → List Row) (threads : List ThreadKey)
    → list_all (λ (t : ThreadKey). has_rows (list t)) threads ≡ true
    → list_all (λ (rows : ThreadRows). has_rows rows.rows) (rows_by_thread list threads) ≡ true
some-by_thread list threads some =
    list_all-map (λ (rows : ThreadRows). has_rows rows.rows) (λ t. record { thread = t; rows = list t }) threads ∙ some

all-with_rows : (list : ThreadKey → List Row) (threads : List ThreadKey)
    → list_all (λ (t : ThreadKey). has_rows (list t)) (with_rows list threads) ≡ true
all-with_rows list [] = refl
all-with_rows list (t ∷ threads) =
    let rest = all-with_rows list threads in
    cond_both (has_rows (list t)) (t ∷ with_rows list threads) (with_rows list threads)
    (λ l. list_all (λ (t : ThreadKey). has_rows (list t)) l ≡ true) (λ has. and_from _ _ has rest) (λ _. rest)

-- so are those that a state keeps
pub ordered-lists : (list : ThreadKey → List Row) (threads : List ThreadKey) → AreLists list threads
    → AreOrdered (rows_by_thread list (with_rows list threads))
ordered-lists list threads are = record {
  once = subst (IsDistinct same_thread) (sym (map-threads list (with_rows list threads)))
      (distinct-filter (λ (t : ThreadKey). has_rows (list t)) threads are.once);
  some = some-by_thread list (with_rows list threads) (all-with_rows list threads);
  order = ap never_falls (starts-by_thread list (with_rows list threads)) ∙ are.order;
}

-- nothing is ordered
pub ordered-none : AreOrdered []
unfolding IsDistinct
ordered-none = record { once = tt; some = refl; order = refl }

-- ---- what is ordered is told by its threads

by_thread-alike : (f g : ThreadKey → List Row) (threads : List ThreadKey)
    → AllByRecursion (λ (t : ThreadKey). f t ≡ g t) threads → rows_by_thread f threads ≡ rows_by_thread g threads
by_thread-alike f g [] alike = refl
by_thread-alike f g (t ∷ threads) alike =
    λ i. record { thread = t; rows = alike.0 i } ∷ by_thread-alike f g threads alike.1 i

skips : (first : ThreadRows) (others : RoomRows) (threads : List ThreadKey)
    → AllByRecursion (λ (t : ThreadKey). same_thread first.thread t ≡ false) threads
    → AllByRecursion (λ (t : ThreadKey). thread_rows t (first ∷ others) ≡ thread_rows t others) threads
skips first others [] apart = tt
skips first others (t ∷ threads) apart = (
  ap (λ b. cond b first.rows (thread_rows t others)) (same_thread-equiv.symm t first.thread ∙ apart.0),
  skips first others threads apart.1,
)

told-itself : (rooms : RoomRows) → IsDistinct same_thread (threads_at rooms)
    → rows_by_thread (λ t. thread_rows t rooms) (threads_at rooms) ≡ rooms
told-itself [] once = refl
told-itself (first ∷ others) once =
    let here : thread_rows first.thread (first ∷ others) ≡ first.rows =
    ap (λ b. cond b first.rows (thread_rows first.thread others)) (same_thread-equiv.refl first.thread) in
    let rest : rows_by_thread (λ t. thread_rows t (first ∷ others)) (threads_at others) ≡ others =
    by_thread-alike (λ t. thread_rows t (first ∷ others)) (λ t. thread_rows t others) (threads_at others)
    (skips first others (threads_at others)
    (IsDistinct-head same_thread first.thread (threads_at others) once))
    ∙ told-itself others (IsDistinct-tail same_thread first.thread (threads_at others) once) in
    λ i. record { thread = first.thread; rows = here i } ∷ rest i

has-told : (rooms : RoomRows) → list_all (λ (rows : ThreadRows). has_rows rows.rows) rooms ≡ true → (t : ThreadKey)
    → has_thread t (threads_at rooms) ≡ has_rows (thread_rows t rooms)
has-told [] some t = refl
has-told (first ∷ others) some t =
    let parts = and_parts (has_rows first.rows) (list_all (λ (rows : ThreadRows). has_rows rows.rows) others) some in
    by parts.0 (has-told others parts.1 t) (same_thread t first.thread)
  where
    by : has_rows first.rows ≡ true → has_thread t (threads_at others) ≡ has_rows (thread_rows t others) → (b : Bool)
        → (b || has_thread t (threads_at others)) ≡ has_rows (cond b first.rows (thread_rows t others))
    by here rest true = sym here
    by here rest false = rest

-- rows of a room in order, of which those of each thread are the thread's, are the rows of the room
pub room_rows-told : (server : List ℕ) (h : History) (user room : List ℕ) (rooms : RoomRows) → AreOrdered rooms
    → ((t : ThreadKey) → thread_rows t rooms ≡ rows_of server h user room t)
    → rooms ≡ room_rows server h user room
room_rows-told server h user room rooms are alike =
    let itself = told-itself rooms are.once in
    let order : are_in_order (λ t. thread_rows t rooms) (threads_at rooms) ≡ true =
    ap never_falls (sym (starts-by_thread (λ t. thread_rows t rooms) (threads_at rooms)) ∙ ap starts_at itself)
    ∙ are.order in
    sym itself
    ∙ room_rows-only server h user room (λ t. thread_rows t rooms) (threads_at rooms) are.once
    (has-told rooms are.some) order alike

-- the rows of a room are ordered
pub room_rows-ordered : (server : List ℕ) (h : History) (user room : List ℕ)
    → AreOrdered (room_rows server h user room)
room_rows-ordered server h user room =
    let list = rows_of server h user room in
    let threads = threads_of server h user room in
    record {
      once = subst (IsDistinct same_thread) (sym (map-threads list threads)) (threads_of-once server h user room);
      some = some-by_thread list threads (all-listed list threads (has-threads_of server h user room));
      order = ap never_falls (starts-by_thread list threads) ∙ threads_of-in_order server h user room;
    }
  where
    all-listed : (list : ThreadKey → List Row) (threads : List ThreadKey)
        → ((t : ThreadKey) → has_thread t threads ≡ has_rows (list t))
        → list_all (λ (t : ThreadKey). has_rows (list t)) threads ≡ true
    all-listed list threads has = all-members (λ (t : ThreadKey). has_rows (list t)) threads (λ t is. sym (has t) ∙ is)

-- Rows that are kept so, of which those of each thread are the thread's, are what is kept.
pub unread_rows-told : (server : List ℕ) (h : History) (unread : Texts (Texts RoomRows)) → IsKept unread
    → ((user room : List ℕ) (t : ThreadKey)
    → thread_rows t (rows_at unread user room) ≡ rows_of server h user room t)
    → unread ≡ unread_rows server h
unread_rows-told server h unread kept alike =
    unread_rows-only server h unread kept.have (λ user room.
    room_rows-told server h user room (rows_at unread user room) (kept.ordered user room) (alike user room))

-- what is kept is kept so
pub unread_rows-is_kept : (server : List ℕ) (h : History) → IsKept (unread_rows server h)
unread_rows-is_kept server h = record {
  have = unread_rows-kept server h;
  ordered = λ user room.
      subst AreOrdered (sym (rows_at-unread server h user room)) (room_rows-ordered server h user room);
}
