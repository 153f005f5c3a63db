-- What is shown of all users' rows, at a user, a room and a thread, and once a user's were written.
use Rattle.std.proofs.Common.{◌≡◌, ℕ, Bool, true, false, cond, nat_eq, ◌&&◌, ◌||◌, List, [], ◌∷◌, ◌++◌, Option, Some}
use Rattle.std.proofs.Common.{None, IfSome, option_and_then, unwrap_or, refl, ap, subst, sym, ◌∙◌}
use Rattle.std.specs.Cmp.Lexicographic.{slice_cmp}
use Rattle.std.specs.FinMap.{empty, get, get-empty, len-empty}
use Rattle.std.specs.FinSet as set
use Rattle.std.specs.List.{IsDistinct}
use Rattle.std.specs.Map.{keys_of, lookup}
use Rattle.std.specs.Option.{option_map_or}
use Rattle.std.specs.Ordering.{nat_cmp}
use Rattle.std.specs.Str.{bytes_eq}
use Rattle.mx_room.specs.Texts.{Texts}
use Rattle.mx_room.proofs.TextsLemmas.{bytes_eq-same}
use Rattle.mx_rows.specs.declared.row.Row.{Row}
use Rattle.mx_rows.specs.declared.thread_key.ThreadKey.{ThreadKey}
use Rattle.mx_rows.specs.Rows.{above}
use Rattle.mx_engine.specs.KeptRows.{AreRoomRows, AreUnreadRows, AreUserRows, AreUsersRows, ThreadSet, UnreadView}
use Rattle.mx_engine.specs.KeptRows.{UserRowsView, has_capacity, has_capacity_in, is_thread, is_users_room}
use Rattle.mx_engine.specs.KeptRows.{is_users_thread, list_at, list_in, of_user, rows_in, shown_by, some_entries}
use Rattle.mx_engine.specs.KeptRows.{thread_rows, thread_text, unread_view}
use Rattle.mx_records.specs.Snapshot.{RoomRows, some_rows}
use Rattle.mx_engine.proofs.ApartLemmas.{same_unread}
use Rattle.mx_engine.proofs.EntriesLemmas.{get-shown_by, read-written, unwrap-some_entries}
use Rattle.mx_engine.proofs.UserRowsLemmas.{cond_both_tests, cond_same, made_here, no_rows}

abbrev Entries : Type 0
Entries = List (List ℕ × UserRowsView)

module _ {X : Type 0} (part : UserRowsView → Texts X) where
  -- what a user has is what is kept of the user
  of_user-shown : (entries : Entries) → IsDistinct bytes_eq (keys_of entries) → (user : List ℕ)
      → of_user (shown_by (λ rows. some_entries (part rows)) entries) user
      ≡ option_map_or part (lookup (bytes_eq user) entries) empty
  of_user-shown entries distinct user =
      ap (λ (o : Option (Texts X)). unwrap_or o empty)
      (get-shown_by (λ rows. some_entries (part rows)) entries distinct user)
      ∙ by (lookup (bytes_eq user) entries)
    where
      by : (o : Option UserRowsView) → unwrap_or (option_and_then (λ rows. some_entries (part rows)) o) empty
          ≡ option_map_or part o empty
      by None = refl
      by (Some rows) = unwrap-some_entries (part rows)

  none_of_empty : some_entries (empty {X = X} {R = slice_cmp nat_cmp}) ≡ None
  none_of_empty = ap (λ n. cond (nat_eq n 0) None (Some empty)) (len-empty (slice_cmp nat_cmp) X)

  some_of_user : (entries : Entries) → IsDistinct bytes_eq (keys_of entries) → (user : List ℕ)
      → get (shown_by (λ rows. some_entries (part rows)) entries) user
      ≡ some_entries (of_user (shown_by (λ rows. some_entries (part rows)) entries) user)
  some_of_user entries distinct user =
      get-shown_by (λ rows. some_entries (part rows)) entries distinct user
      ∙ by (lookup (bytes_eq user) entries)
      ∙ ap some_entries (sym (of_user-shown entries distinct user))
    where
      by : (o : Option UserRowsView) → option_and_then (λ rows. some_entries (part rows)) o
          ≡ some_entries (option_map_or part o empty)
      by None = sym none_of_empty
      by (Some rows) = refl

-- ---- nothing is kept of a user

get-none : {X : Type 0} (room : List ℕ) → get (empty {X = X} {R = slice_cmp nat_cmp}) room ≡ None
get-none room = get-empty (slice_cmp nat_cmp) room

pub rows_in-empty : (room : List ℕ) → rows_in empty room ≡ []
rows_in-empty room = ap (λ (o : Option RoomRows). unwrap_or o []) (get-none room)

pub list_in-empty : (room : List ℕ) (t : ThreadKey) → list_in empty room t ≡ []
list_in-empty room t = ap (λ (rows : RoomRows). thread_rows rows t) (rows_in-empty room)

pub capacity_in-empty : (room : List ℕ) (t : ThreadKey) → has_capacity_in empty room t ≡ false
capacity_in-empty room t =
    ap (λ (o : Option ThreadSet). option_map_or (λ threads. set.contains threads (thread_text t)) o false)
    (get-none room)

pub are_user_rows-empty : AreUserRows empty
are_user_rows-empty = record {
  some = λ room. get-none room ∙ ap some_rows (sym (rows_in-empty room));
  each = λ room. subst AreRoomRows (sym (rows_in-empty room)) no_rows;
}

-- ---- what is seen of a user

abbrev rooms_of : Option UserRowsView → Texts RoomRows
rooms_of kept = option_map_or (λ rows. rows.rooms) kept empty

abbrev capacity_of : Option UserRowsView → Texts ThreadSet
capacity_of kept = option_map_or (λ rows. rows.capacity) kept empty

are_of : (kept : Option UserRowsView) → IfSome kept (λ rows. AreUserRows rows.rooms) → AreUserRows (rooms_of kept)
are_of None are = are_user_rows-empty
are_of (Some rows) are = are

-- a user is looked up, in the entries of which this is seen
module _ (entries : Entries) (are : AreUsersRows entries) (user : List ℕ) (kept : Option UserRowsView)
    (is : lookup (bytes_eq user) entries ≡ kept) (seen : UnreadView) (view_is : unread_view entries ≡ seen) where
  pub rooms-found : of_user seen.unread user ≡ rooms_of kept
  rooms-found =
      ap (λ (v : UnreadView). of_user v.unread user) (sym view_is)
      ∙ of_user-shown (λ rows. rows.rooms) entries are.distinct user ∙ ap rooms_of is

  pub ready-found : of_user seen.capacity user ≡ capacity_of kept
  ready-found =
      ap (λ (v : UnreadView). of_user v.capacity user) (sym view_is)
      ∙ of_user-shown (λ rows. rows.capacity) entries are.distinct user ∙ ap capacity_of is

module _ (entries : Entries) (are : AreUsersRows entries) where
  unread_of : (user : List ℕ) → of_user (unread_view entries).unread user ≡ rooms_of (lookup (bytes_eq user) entries)
  unread_of user = of_user-shown (λ rows. rows.rooms) entries are.distinct user

  ready_of : (user : List ℕ)
      → of_user (unread_view entries).capacity user ≡ capacity_of (lookup (bytes_eq user) entries)
  ready_of user = of_user-shown (λ rows. rows.capacity) entries are.distinct user

  -- what is seen of all users' rows is such
  pub are_unread_rows : AreUnreadRows (unread_view entries).unread
  are_unread_rows = record {
    some = some_of_user (λ rows. rows.rooms) entries are.distinct;
    each = λ user. subst AreUserRows (sym (unread_of user)) (are_of (lookup (bytes_eq user) entries) (are.each user));
  }

pub users-none : (entries : Entries) → IsDistinct bytes_eq (keys_of entries) → entries ≡ [] → AreUsersRows entries
users-none entries distinct none = record {
  distinct = distinct;
  each = λ user. subst (λ (o : Option UserRowsView). IfSome o (λ rows. AreUserRows rows.rooms))
      (sym (λ i. lookup (bytes_eq user) (none i))) tt;
}

-- ---- the rows of a user of whom none are kept are cut: nothing changes

-- nothing is kept of this user, and the entries stay as they were
pub record IsAbsent (old new : Entries) (user : List ℕ) (seen : UnreadView) : Type 0 where
  pub are : AreUsersRows old
  pub view_is : unread_view old ≡ seen
  pub absent : lookup (bytes_eq user) old ≡ None
  pub same : new ≡ old

module _ {old new : Entries} {user : List ℕ} {seen : UnreadView} (is : IsAbsent old new user seen) where
  seen_still : unread_view new ≡ seen
  seen_still = ap unread_view is.same ∙ is.view_is

  lists-absent : (f : List Row → List Row) → f [] ≡ [] → (u r : List ℕ) (t : ThreadKey)
      → list_at (unread_view new).unread u r t
      ≡ cond (bytes_eq user u) (f (list_at seen.unread u r t)) (list_at seen.unread u r t)
  lists-absent f says u r t =
      ap (λ (v : UnreadView). list_at v.unread u r t) seen_still ∙ by (bytes_eq user u) refl
    where
      none : bytes_eq user u ≡ true → list_at seen.unread u r t ≡ []
      none here =
          ap (λ (at : List ℕ). list_at seen.unread at r t) (sym (bytes_eq-same user u here))
          ∙ ap (λ (rooms : Texts RoomRows). list_in rooms r t)
          (rooms-found old is.are user None is.absent seen is.view_is)
          ∙ list_in-empty r t

      by : (b : Bool) → bytes_eq user u ≡ b
          → list_at seen.unread u r t ≡ cond b (f (list_at seen.unread u r t)) (list_at seen.unread u r t)
      by true here = none here ∙ sym says ∙ ap f (sym (none here))
      by false apart = refl

  pub lists-cut-absent : (room : List ℕ) (thread : ThreadKey) (position : ℕ) (u r : List ℕ) (t : ThreadKey)
      → list_at (unread_view new).unread u r t
      ≡ cond (is_users_thread user room thread u r t) (above position (list_at seen.unread u r t))
      (list_at seen.unread u r t)
  lists-cut-absent room thread position u r t =
      lists-absent (λ rows. cond (is_thread room thread r t) (above position rows) rows)
      (cond_same (is_thread room thread r t) []) u r t
      ∙ cond_both_tests (bytes_eq user u) (is_thread room thread r t) _ _

  pub lists-cut_room-absent : (room : List ℕ) (position : ℕ) (u r : List ℕ) (t : ThreadKey)
      → list_at (unread_view new).unread u r t
      ≡ cond (is_users_room user room u r) (above position (list_at seen.unread u r t)) (list_at seen.unread u r t)
  lists-cut_room-absent room position u r t =
      lists-absent (λ rows. cond (bytes_eq room r) (above position rows) rows) (cond_same (bytes_eq room r) []) u r t
      ∙ cond_both_tests (bytes_eq user u) (bytes_eq room r) _ _

  pub unread_rows-absent : AreUnreadRows (unread_view new).unread
  unread_rows-absent =
      subst (λ (entries : Entries). AreUnreadRows (unread_view entries).unread) (sym is.same)
      (are_unread_rows old is.are)

-- ---- a user's rows are written

-- what is kept of this user was written, in entries of which this was seen
pub record IsWritten (old new : Entries) (user : List ℕ) (before : Option UserRowsView) (now : UserRowsView)
    (seen : UnreadView) : Type 0 where
  pub are : AreUsersRows old
  pub view_is : unread_view old ≡ seen
  pub distinct : IsDistinct bytes_eq (keys_of new)
  pub found : lookup (bytes_eq user) old ≡ before
  pub updated : (q : List ℕ)
      → lookup (bytes_eq q) new ≡ cond (bytes_eq user q) (Some now) (lookup (bytes_eq q) old)
  pub rows : AreUserRows now.rooms

module _ {old new : Entries} {user : List ℕ} {before : Option UserRowsView} {now : UserRowsView} {seen : UnreadView}
    (is : IsWritten old new user before now seen) where
  pub users-written : AreUsersRows new
  users-written = record {
    distinct = is.distinct;
    each = λ q. subst (λ (o : Option UserRowsView). IfSome o (λ rows. AreUserRows rows.rooms)) (sym (is.updated q))
        (by q (bytes_eq user q));
  }
    where
      by : (q : List ℕ) (b : Bool)
          → IfSome (cond b (Some now) (lookup (bytes_eq q) old)) (λ rows. AreUserRows rows.rooms)
      by q true = is.rows
      by q false = is.are.each q

  pub unread_rows-written : AreUnreadRows (unread_view new).unread
  unread_rows-written = are_unread_rows new users-written

  lists-written : (f : List ℕ → ThreadKey → List Row → List Row)
      → ((r : List ℕ) (t : ThreadKey) → list_in now.rooms r t ≡ f r t (list_in (rooms_of before) r t))
      → (u r : List ℕ) (t : ThreadKey) → list_at (unread_view new).unread u r t
      ≡ cond (bytes_eq user u) (f r t (list_at seen.unread u r t)) (list_at seen.unread u r t)
  lists-written f says u r t =
      ap (λ (rooms : Texts RoomRows). list_in rooms r t) (unread_of new users-written u)
      ∙ read-written old new user now before is.found is.updated (λ o. list_in (rooms_of o) r t) (f r t) (says r t) u
      ∙ ap (λ (rooms : Texts RoomRows). cond (bytes_eq user u) (f r t (list_in rooms r t)) (list_in rooms r t))
      (sym (rooms-found old is.are u (lookup (bytes_eq u) old) refl seen is.view_is))

  capacity-written : (f : List ℕ → ThreadKey → Bool → Bool)
      → ((r : List ℕ) (t : ThreadKey)
      → has_capacity_in now.capacity r t ≡ f r t (has_capacity_in (capacity_of before) r t))
      → (u r : List ℕ) (t : ThreadKey) → has_capacity (unread_view new).capacity u r t
      ≡ cond (bytes_eq user u) (f r t (has_capacity seen.capacity u r t)) (has_capacity seen.capacity u r t)
  capacity-written f says u r t =
      ap (λ (rooms : Texts ThreadSet). has_capacity_in rooms r t) (ready_of new users-written u)
      ∙ read-written old new user now before is.found is.updated (λ o. has_capacity_in (capacity_of o) r t) (f r t)
      (says r t) u
      ∙ ap (λ (rooms : Texts ThreadSet). cond (bytes_eq user u) (f r t (has_capacity_in rooms r t))
      (has_capacity_in rooms r t))
      (sym (ready-found old is.are u (lookup (bytes_eq u) old) refl seen is.view_is))

  -- the same rows are seen
  pub seen-same : now.rooms ≡ rooms_of before → (unread_view new).unread ≡ seen.unread
  seen-same says =
      same_unread (unread_view new).unread seen.unread unread_rows-written
      (subst (λ (v : UnreadView). AreUnreadRows v.unread) is.view_is (are_unread_rows old is.are))
      (λ u r t. lists-written (λ r t rows. rows) (λ r t. ap (λ (rooms : Texts RoomRows). list_in rooms r t) says) u r t
      ∙ cond_same (bytes_eq user u) _)

  pub capacity-same : ((r : List ℕ) (t : ThreadKey)
      → has_capacity_in now.capacity r t ≡ has_capacity_in (capacity_of before) r t)
      → (u r : List ℕ) (t : ThreadKey)
      → has_capacity (unread_view new).capacity u r t ≡ has_capacity seen.capacity u r t
  capacity-same says u r t = capacity-written (λ r t has. has) says u r t ∙ cond_same (bytes_eq user u) _

  pub capacity-made : (room : List ℕ) (thread : ThreadKey) (made : Bool)
      → ((r : List ℕ) (t : ThreadKey) → has_capacity_in now.capacity r t
      ≡ (has_capacity_in (capacity_of before) r t || (made && is_thread room thread r t)))
      → (u r : List ℕ) (t : ThreadKey) → has_capacity (unread_view new).capacity u r t
      ≡ (has_capacity seen.capacity u r t || (made && is_users_thread user room thread u r t))
  capacity-made room thread made says u r t =
      capacity-written (λ r t has. has || (made && is_thread room thread r t)) says u r t
      ∙ made_here (bytes_eq user u) made (is_thread room thread r t) _

  pub capacity-used : (room : List ℕ) (thread : ThreadKey)
      → ((r : List ℕ) (t : ThreadKey) → has_capacity_in now.capacity r t
      ≡ cond (is_thread room thread r t) false (has_capacity_in (capacity_of before) r t))
      → (u r : List ℕ) (t : ThreadKey) → has_capacity (unread_view new).capacity u r t
      ≡ cond (is_users_thread user room thread u r t) false (has_capacity seen.capacity u r t)
  capacity-used room thread says u r t =
      capacity-written (λ r t has. cond (is_thread room thread r t) false has) says u r t
      ∙ cond_both_tests (bytes_eq user u) (is_thread room thread r t) _ _

  pub lists-pushed : (room : List ℕ) (thread : ThreadKey) (row : Row)
      → ((r : List ℕ) (t : ThreadKey) → list_in now.rooms r t
      ≡ cond (is_thread room thread r t) (list_in (rooms_of before) r t ++ row ∷ []) (list_in (rooms_of before) r t))
      → (u r : List ℕ) (t : ThreadKey) → list_at (unread_view new).unread u r t
      ≡ cond (is_users_thread user room thread u r t) (list_at seen.unread u r t ++ row ∷ [])
      (list_at seen.unread u r t)
  lists-pushed room thread row says u r t =
      lists-written (λ r t rows. cond (is_thread room thread r t) (rows ++ row ∷ []) rows) says u r t
      ∙ cond_both_tests (bytes_eq user u) (is_thread room thread r t) _ _

  pub lists-cut : (room : List ℕ) (thread : ThreadKey) (position : ℕ)
      → ((r : List ℕ) (t : ThreadKey) → list_in now.rooms r t
      ≡ cond (is_thread room thread r t) (above position (list_in (rooms_of before) r t))
      (list_in (rooms_of before) r t))
      → (u r : List ℕ) (t : ThreadKey) → list_at (unread_view new).unread u r t
      ≡ cond (is_users_thread user room thread u r t) (above position (list_at seen.unread u r t))
      (list_at seen.unread u r t)
  lists-cut room thread position says u r t =
      lists-written (λ r t rows. cond (is_thread room thread r t) (above position rows) rows) says u r t
      ∙ cond_both_tests (bytes_eq user u) (is_thread room thread r t) _ _

  pub lists-cut_room : (room : List ℕ) (position : ℕ)
      → ((r : List ℕ) (t : ThreadKey) → list_in now.rooms r t
      ≡ cond (bytes_eq room r) (above position (list_in (rooms_of before) r t)) (list_in (rooms_of before) r t))
      → (u r : List ℕ) (t : ThreadKey) → list_at (unread_view new).unread u r t
      ≡ cond (is_users_room user room u r) (above position (list_at seen.unread u r t)) (list_at seen.unread u r t)
  lists-cut_room room position says u r t =
      lists-written (λ r t rows. cond (bytes_eq room r) (above position rows) rows) says u r t
      ∙ cond_both_tests (bytes_eq user u) (bytes_eq room r) _ _
