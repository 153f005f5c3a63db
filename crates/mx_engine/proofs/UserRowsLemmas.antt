-- What is seen of a user's rooms, at a room and a thread; and what it is once a room was written or entered.
use Rattle.std.proofs.Common.{◌≡◌, ◌<◌, ℕ, Bool, true, false, cond, ◌&&◌, ◌||◌, List, [], ◌∷◌, ◌++◌, All, Option, Some}
use Rattle.std.proofs.Common.{None, option_and_then, unwrap_or, refl, ap, subst, sym, ◌∙◌}
use Rattle.std.specs.FinSet as set
use Rattle.std.specs.List.{IsDistinct}
use Rattle.std.specs.Map.{keys_of, lookup}
use Rattle.std.specs.Option.{option_map_or}
use Rattle.std.specs.Str.{bytes_eq}
use Rattle.std.proofs.lemmas.Bool.{false≢true}
use Rattle.mx_room.proofs.TextsLemmas.{bytes_eq-same}
use Rattle.mx_rows.specs.declared.row.Row.{Row}
use Rattle.mx_rows.specs.declared.rows.Rows.{Ghosts}
use Rattle.mx_rows.specs.declared.thread_key.ThreadKey.{ThreadKey}
use Rattle.mx_rows.specs.Rows.{above, are_in_order, has_rows, is_rising, with_rows}
use Rattle.mx_rows.specs.Threads.{has_thread, same_thread}
use Rattle.mx_engine.specs.KeptRows.{AreApart, AreRoomRows, AreRooms, AreUserRows, UserRowsView, has_capacity_in}
use Rattle.mx_engine.specs.KeptRows.{is_thread, list_in, rows_in, shown_capacity, shown_rows, thread_rows, thread_text}
use Rattle.mx_engine.specs.KeptRows.{user_view}
use Rattle.mx_records.specs.Snapshot.{RoomRows, rows_by_thread, some_rows}
use Rattle.mx_engine.proofs.ApartLemmas.{apart-cut, apart-pushed, apart-same, same_user_rows}
use Rattle.mx_engine.proofs.EntriesLemmas.{get-shown_by, read-written}
use Rattle.mx_engine.proofs.RoomRowsLemmas.{are_room_rows, capacity-shown, thread_rows-shown, unwrap-some_rows}

-- ---- tests

pub cond_same : {A : Type 0} (b : Bool) (x : A) → cond b x x ≡ x
cond_same true x = refl
cond_same false x = refl

pub cond_both_tests : {A : Type 0} (a b : Bool) (x y : A) → cond a (cond b x y) y ≡ cond (a && b) x y
cond_both_tests true b x y = refl
cond_both_tests false b x y = refl

pub made_here : (here made same has : Bool)
    → cond here (has || (made && same)) has ≡ (has || (made && (here && same)))
made_here true made same has = refl
made_here false made same true = refl
made_here false true same false = refl
made_here false false same false = refl

pub no_rows : AreRoomRows []
unfolding IsDistinct
no_rows = record {
  once = tt;
  some = refl;
  in_order = refl;
  rising = λ t. refl;
  apart = λ s t position has _. absurd (false≢true has);
}

-- ---- what is seen

-- the rooms that are kept, by their ids
abbrev pub Rooms : Type 0 → Type 0
Rooms X = List (List ℕ × X)

abbrev pub view : {X : Type 0} → Ghosts X → Rooms X → UserRowsView
view R rooms = user_view R.list R.has_capacity R.threads rooms

-- the laws of `Rows` that are used here
pub record MeetsLaws {X : Type 0} (R : Ghosts X) : Type 0 where
  pub kept : (x : X) (t : ThreadKey) → has_thread t (R.threads x) ≡ (has_rows (R.list x t) || R.has_capacity x t)
  pub once : (x : X) → IsDistinct same_thread (R.threads x)
  pub in_order : (x : X) → are_in_order (R.list x) (with_rows (R.list x) (R.threads x)) ≡ true
  pub rising : (x : X) (t : ThreadKey) → is_rising (R.list x t) ≡ true

module _ {X : Type 0} {R : Ghosts X} (laws : MeetsLaws R) where
  abbrev room_rows : X → RoomRows
  room_rows x = rows_by_thread (R.list x) (with_rows (R.list x) (R.threads x))

  abbrev rows_of : Option X → RoomRows
  rows_of found = option_map_or room_rows found []

  abbrev list_of : Option X → ThreadKey → List Row
  list_of found t = option_map_or (λ x. R.list x t) found []

  abbrev capacity_of : Option X → ThreadKey → Bool
  capacity_of found t = option_map_or (λ x. R.has_capacity x t) found false

  -- the rows of a room are those of its entry
  rows_in-shown : (rooms : Rooms X) → IsDistinct bytes_eq (keys_of rooms) → (room : List ℕ)
      → rows_in (view R rooms).rooms room ≡ rows_of (lookup (bytes_eq room) rooms)
  rows_in-shown rooms distinct room =
      ap (λ (o : Option RoomRows). unwrap_or o []) (get-shown_by (shown_rows R.list R.threads) rooms distinct room)
      ∙ by (lookup (bytes_eq room) rooms)
    where
      by : (o : Option X) → unwrap_or (option_and_then (shown_rows R.list R.threads) o) [] ≡ rows_of o
      by None = refl
      by (Some x) = unwrap-some_rows (room_rows x)

  -- the rows of a thread are those of its room's entry
  pub list_in-shown : (rooms : Rooms X) → IsDistinct bytes_eq (keys_of rooms) → (room : List ℕ) (t : ThreadKey)
      → list_in (view R rooms).rooms room t ≡ list_of (lookup (bytes_eq room) rooms) t
  list_in-shown rooms distinct room t =
      ap (λ (rows : RoomRows). thread_rows rows t) (rows_in-shown rooms distinct room)
      ∙ by (lookup (bytes_eq room) rooms)
    where
      by : (o : Option X) → thread_rows (rows_of o) t ≡ list_of o t
      by None = refl
      by (Some x) = thread_rows-shown (R.list x) (R.has_capacity x) (R.threads x) (laws.kept x) t

  pub capacity_in-shown : (rooms : Rooms X) → IsDistinct bytes_eq (keys_of rooms) → (room : List ℕ) (t : ThreadKey)
      → has_capacity_in (view R rooms).capacity room t ≡ capacity_of (lookup (bytes_eq room) rooms) t
  capacity_in-shown rooms distinct room t =
      ap (λ o. option_map_or (λ ts. set.contains ts (thread_text t)) o false)
      (get-shown_by (shown_capacity R.has_capacity R.threads) rooms distinct room)
      ∙ by (lookup (bytes_eq room) rooms)
    where
      by : (o : Option X)
          → option_map_or (λ ts. set.contains ts (thread_text t))
          (option_and_then (shown_capacity R.has_capacity R.threads) o) false
          ≡ capacity_of o t
      by None = refl
      by (Some x) = capacity-shown (R.list x) (R.has_capacity x) (R.threads x) (laws.kept x) t

  -- what is seen of a user's rooms is such
  pub are_user_rows : (rooms : Rooms X) → AreRooms R.list R.threads rooms → AreUserRows (view R rooms).rooms
  are_user_rows rooms are = record {
    some = λ room.
        get-shown_by (shown_rows R.list R.threads) rooms are.distinct room ∙ shows (lookup (bytes_eq room) rooms)
        ∙ ap some_rows (sym (rows_in-shown rooms are.distinct room));
    each = λ room. subst AreRoomRows (sym (rows_in-shown rooms are.distinct room))
        (by room (lookup (bytes_eq room) rooms) refl);
  }
    where
      shows : (o : Option X) → option_and_then (shown_rows R.list R.threads) o ≡ some_rows (rows_of o)
      shows None = refl
      shows (Some x) = refl

      by : (room : List ℕ) (o : Option X) → lookup (bytes_eq room) rooms ≡ o → AreRoomRows (rows_of o)
      by room None is = no_rows
      by room (Some x) is =
          are_room_rows (R.list x) (R.has_capacity x) (R.threads x) (laws.kept x) (laws.once x) (laws.in_order x)
          (laws.rising x)
          (subst AreApart
          (λ i t. (list_in-shown rooms are.distinct room t ∙ ap (λ o. list_of o t) is) i) (are.apart room))

  -- a room is looked up, in the rooms of which this is seen
  module _ (rooms : Rooms X) (are : AreRooms R.list R.threads rooms) (room : List ℕ) (found : Option X)
      (is : lookup (bytes_eq room) rooms ≡ found) (seen : UserRowsView) (view_is : view R rooms ≡ seen) where
    pub rows_in-found : rows_in seen.rooms room ≡ rows_of found
    rows_in-found =
        ap (λ (v : UserRowsView). rows_in v.rooms room) (sym view_is) ∙ rows_in-shown rooms are.distinct room
        ∙ ap rows_of is

    pub list_in-found : (t : ThreadKey) → list_in seen.rooms room t ≡ list_of found t
    list_in-found t =
        ap (λ (v : UserRowsView). list_in v.rooms room t) (sym view_is) ∙ list_in-shown rooms are.distinct room t
        ∙ ap (λ o. list_of o t) is

    pub capacity_in-found : (t : ThreadKey) → has_capacity_in seen.capacity room t ≡ capacity_of found t
    capacity_in-found t =
        ap (λ (v : UserRowsView). has_capacity_in v.capacity room t) (sym view_is)
        ∙ capacity_in-shown rooms are.distinct room t
        ∙ ap (λ o. capacity_of o t) is

-- ---- a room that isn't kept is cut: nothing changes

-- no room of this id is kept, and the rooms stay as they were
pub record IsAbsent {X : Type 0} (R : Ghosts X) (old new : Rooms X) (room : List ℕ) (seen : UserRowsView) : Type 0 where
  pub are : AreRooms R.list R.threads old
  pub view_is : view R old ≡ seen
  pub absent : lookup (bytes_eq room) old ≡ None
  pub same : new ≡ old

module _ {X : Type 0} {R : Ghosts X} (laws : MeetsLaws R) {old new : Rooms X} {room : List ℕ} {seen : UserRowsView}
    (is : IsAbsent R old new room seen) where
  seen_still : view R new ≡ seen
  seen_still = ap (view R) is.same ∙ is.view_is

  lists-absent : (f : List Row → List Row) → f [] ≡ [] → (r : List ℕ) (t : ThreadKey)
      → list_in (view R new).rooms r t ≡ cond (bytes_eq room r) (f (list_in seen.rooms r t)) (list_in seen.rooms r t)
  lists-absent f says r t =
      ap (λ (v : UserRowsView). list_in v.rooms r t) seen_still ∙ by (bytes_eq room r) refl
    where
      none : bytes_eq room r ≡ true → list_in seen.rooms r t ≡ []
      none here =
          ap (λ (at : List ℕ). list_in seen.rooms at t) (sym (bytes_eq-same room r here))
          ∙ list_in-found laws old is.are room None is.absent seen is.view_is t

      by : (b : Bool) → bytes_eq room r ≡ b
          → list_in seen.rooms r t ≡ cond b (f (list_in seen.rooms r t)) (list_in seen.rooms r t)
      by true here = none here ∙ sym says ∙ ap f (sym (none here))
      by false apart = refl

  pub lists-cut-absent : (thread : ThreadKey) (position : ℕ) (r : List ℕ) (t : ThreadKey)
      → list_in (view R new).rooms r t
      ≡ cond (is_thread room thread r t) (above position (list_in seen.rooms r t)) (list_in seen.rooms r t)
  lists-cut-absent thread position r t =
      lists-absent (λ rows. cond (same_thread thread t) (above position rows) rows)
      (cond_same (same_thread thread t) []) r t
      ∙ cond_both_tests (bytes_eq room r) (same_thread thread t) _ _

  pub lists-cut_all-absent : (position : ℕ) (r : List ℕ) (t : ThreadKey) → list_in (view R new).rooms r t
      ≡ cond (bytes_eq room r) (above position (list_in seen.rooms r t)) (list_in seen.rooms r t)
  lists-cut_all-absent position r t = lists-absent (above position) refl r t

  pub user_rows-absent : AreUserRows (view R new).rooms
  user_rows-absent =
      subst (λ (rooms : Rooms X). AreUserRows (view R rooms).rooms) (sym is.same) (are_user_rows laws old is.are)

-- ---- a room is written

-- the room of this id was found and written, in rooms of which this was seen
pub record IsWritten {X : Type 0} (R : Ghosts X) (old new : Rooms X) (room : List ℕ) (was now : X)
    (seen : UserRowsView) : Type 0 where
  pub are : AreRooms R.list R.threads old
  pub view_is : view R old ≡ seen
  pub distinct : IsDistinct bytes_eq (keys_of new)
  pub found : lookup (bytes_eq room) old ≡ Some was
  pub updated : (q : List ℕ)
      → lookup (bytes_eq q) new ≡ cond (bytes_eq room q) (Some now) (lookup (bytes_eq q) old)

module _ {X : Type 0} {R : Ghosts X} (laws : MeetsLaws R) {old new : Rooms X} {room : List ℕ} {was now : X}
    {seen : UserRowsView} (is : IsWritten R old new room was now seen) where
  lists-written : (f : ThreadKey → List Row → List Row) → ((t : ThreadKey) → R.list now t ≡ f t (R.list was t))
      → (r : List ℕ) (t : ThreadKey) → list_in (view R new).rooms r t
      ≡ cond (bytes_eq room r) (f t (list_in seen.rooms r t)) (list_in seen.rooms r t)
  lists-written f says r t =
      list_in-shown laws new is.distinct r t
      ∙ read-written old new room now (Some was) is.found is.updated (λ o. list_of laws o t) (f t) (says t) r
      ∙ ap (λ rows. cond (bytes_eq room r) (f t rows) rows)
      (sym (list_in-found laws old is.are r (lookup (bytes_eq r) old) refl seen is.view_is t))

  capacity-written : (f : ThreadKey → Bool → Bool)
      → ((t : ThreadKey) → R.has_capacity now t ≡ f t (R.has_capacity was t))
      → (r : List ℕ) (t : ThreadKey) → has_capacity_in (view R new).capacity r t
      ≡ cond (bytes_eq room r) (f t (has_capacity_in seen.capacity r t)) (has_capacity_in seen.capacity r t)
  capacity-written f says r t =
      capacity_in-shown laws new is.distinct r t
      ∙ read-written old new room now (Some was) is.found is.updated (λ o. capacity_of laws o t) (f t) (says t) r
      ∙ ap (λ has. cond (bytes_eq room r) (f t has) has)
      (sym (capacity_in-found laws old is.are r (lookup (bytes_eq r) old) refl seen is.view_is t))

  -- each list of rows before is apart
  apart_before : (r : List ℕ) → AreApart (list_in seen.rooms r)
  apart_before r = subst (λ (v : UserRowsView). AreApart (list_in v.rooms r)) is.view_is (is.are.apart r)

  lists-same : ((t : ThreadKey) → R.list now t ≡ R.list was t) → (r : List ℕ) (t : ThreadKey)
      → list_in (view R new).rooms r t ≡ list_in seen.rooms r t
  lists-same says r t = lists-written (λ t rows. rows) says r t ∙ cond_same (bytes_eq room r) _

  pub capacity-same : ((t : ThreadKey) → R.has_capacity now t ≡ R.has_capacity was t)
      → (r : List ℕ) (t : ThreadKey)
      → has_capacity_in (view R new).capacity r t ≡ has_capacity_in seen.capacity r t
  capacity-same says r t = capacity-written (λ t has. has) says r t ∙ cond_same (bytes_eq room r) _

  pub rooms-same : ((t : ThreadKey) → R.list now t ≡ R.list was t) → AreRooms R.list R.threads new
  rooms-same says = record {
    distinct = is.distinct;
    apart = λ r.
        apart-same (list_in seen.rooms r) (list_in (view R new).rooms r) (apart_before r) (lists-same says r);
  }

  pub seen-same : ((t : ThreadKey) → R.list now t ≡ R.list was t) → (view R new).rooms ≡ seen.rooms
  seen-same says =
      same_user_rows (view R new).rooms seen.rooms (are_user_rows laws new (rooms-same says))
      (subst (λ (v : UserRowsView). AreUserRows v.rooms) is.view_is (are_user_rows laws old is.are))
      (lists-same says)

  pub capacity-made : (thread : ThreadKey) (made : Bool)
      → ((t : ThreadKey) → R.has_capacity now t ≡ (R.has_capacity was t || (made && same_thread thread t)))
      → (r : List ℕ) (t : ThreadKey) → has_capacity_in (view R new).capacity r t
      ≡ (has_capacity_in seen.capacity r t || (made && is_thread room thread r t))
  capacity-made thread made says r t =
      capacity-written (λ t has. has || (made && same_thread thread t)) says r t
      ∙ made_here (bytes_eq room r) made (same_thread thread t) _

  pub capacity-used : (thread : ThreadKey)
      → ((t : ThreadKey) → R.has_capacity now t ≡ cond (same_thread thread t) false (R.has_capacity was t))
      → (r : List ℕ) (t : ThreadKey) → has_capacity_in (view R new).capacity r t
      ≡ cond (is_thread room thread r t) false (has_capacity_in seen.capacity r t)
  capacity-used thread says r t =
      capacity-written (λ t has. cond (same_thread thread t) false has) says r t
      ∙ cond_both_tests (bytes_eq room r) (same_thread thread t) _ _

  -- a row was pushed
  module _ (thread : ThreadKey) (row : Row)
      (says : (t : ThreadKey)
      → R.list now t ≡ cond (same_thread thread t) (R.list was t ++ row ∷ []) (R.list was t)) where
    pub lists-pushed : (r : List ℕ) (t : ThreadKey) → list_in (view R new).rooms r t
        ≡ cond (is_thread room thread r t) (list_in seen.rooms r t ++ row ∷ []) (list_in seen.rooms r t)
    lists-pushed r t =
        lists-written (λ t rows. cond (same_thread thread t) (rows ++ row ∷ []) rows) says r t
        ∙ cond_both_tests (bytes_eq room r) (same_thread thread t) _ _

    pub rooms-pushed : ((t : ThreadKey)
        → All (λ each. each.position < row.position) (list_in seen.rooms room t)) → AreRooms R.list R.threads new
    rooms-pushed below = record {
      distinct = is.distinct;
      apart = λ r.
          apart-pushed (list_in seen.rooms r) (list_in (view R new).rooms r) (apart_before r) thread row
          (bytes_eq room r)
          (λ here t. subst (λ (at : List ℕ). All (λ (each : Row). each.position < row.position)
          (list_in seen.rooms at t)) (bytes_eq-same room r here) (below t))
          (lists-pushed r);
    }

  -- a thread was cut
  module _ (thread : ThreadKey) (position : ℕ)
      (says : (t : ThreadKey)
      → R.list now t ≡ cond (same_thread thread t) (above position (R.list was t)) (R.list was t)) where
    pub lists-cut : (r : List ℕ) (t : ThreadKey) → list_in (view R new).rooms r t
        ≡ cond (is_thread room thread r t) (above position (list_in seen.rooms r t)) (list_in seen.rooms r t)
    lists-cut r t =
        lists-written (λ t rows. cond (same_thread thread t) (above position rows) rows) says r t
        ∙ cond_both_tests (bytes_eq room r) (same_thread thread t) _ _

    pub rooms-cut : AreRooms R.list R.threads new
    rooms-cut = record {
      distinct = is.distinct;
      apart = λ r.
          apart-cut (list_in seen.rooms r) (list_in (view R new).rooms r) (apart_before r) position
          (λ t. is_thread room thread r t) (lists-cut r);
    }

  -- all threads were cut
  module _ (position : ℕ) (says : (t : ThreadKey) → R.list now t ≡ above position (R.list was t)) where
    pub lists-cut_all : (r : List ℕ) (t : ThreadKey) → list_in (view R new).rooms r t
        ≡ cond (bytes_eq room r) (above position (list_in seen.rooms r t)) (list_in seen.rooms r t)
    lists-cut_all r t = lists-written (λ t rows. above position rows) says r t

    pub rooms-cut_all : AreRooms R.list R.threads new
    rooms-cut_all = record {
      distinct = is.distinct;
      apart = λ r.
          apart-cut (list_in seen.rooms r) (list_in (view R new).rooms r) (apart_before r) position
          (λ t. bytes_eq room r) (lists-cut_all r);
    }

-- ---- a room without rows is entered

-- rooms were entered, none of which has rows, beside those of which this was seen
pub record IsEntered {X : Type 0} (R : Ghosts X) (old new : Rooms X) (seen : UserRowsView) : Type 0 where
  pub are : AreRooms R.list R.threads old
  pub view_is : view R old ≡ seen
  pub distinct : IsDistinct bytes_eq (keys_of new)
  pub lists : (r : List ℕ) (t : ThreadKey) → option_map_or (λ x. R.list x t) (lookup (bytes_eq r) new) []
      ≡ option_map_or (λ x. R.list x t) (lookup (bytes_eq r) old) []

module _ {X : Type 0} {R : Ghosts X} (laws : MeetsLaws R) {old new : Rooms X} {seen : UserRowsView}
    (is : IsEntered R old new seen) where
  lists-entered : (r : List ℕ) (t : ThreadKey) → list_in (view R new).rooms r t ≡ list_in (view R old).rooms r t
  lists-entered r t =
      list_in-shown laws new is.distinct r t ∙ is.lists r t ∙ sym (list_in-shown laws old is.are.distinct r t)

  pub rooms-entered : AreRooms R.list R.threads new
  rooms-entered = record {
    distinct = is.distinct;
    apart = λ r.
        apart-same (list_in (view R old).rooms r) (list_in (view R new).rooms r) (is.are.apart r) (lists-entered r);
  }

  pub seen-entered : (view R new).rooms ≡ seen.rooms
  seen-entered =
      same_user_rows (view R new).rooms (view R old).rooms (are_user_rows laws new rooms-entered)
      (are_user_rows laws old is.are) lists-entered
      ∙ ap (λ (v : UserRowsView). v.rooms) is.view_is

  pub capacity-entered : (thread : ThreadKey) (made : Bool) (room : List ℕ)
      → ((r : List ℕ) (t : ThreadKey) → option_map_or (λ x. R.has_capacity x t) (lookup (bytes_eq r) new) false
      ≡ (option_map_or (λ x. R.has_capacity x t) (lookup (bytes_eq r) old) false
      || (made && is_thread room thread r t)))
      → (r : List ℕ) (t : ThreadKey) → has_capacity_in (view R new).capacity r t
      ≡ (has_capacity_in seen.capacity r t || (made && is_thread room thread r t))
  capacity-entered thread made room says r t =
      capacity_in-shown laws new is.distinct r t ∙ says r t
      ∙ ap (λ has. has || (made && is_thread room thread r t))
      (sym (capacity_in-found laws old is.are r (lookup (bytes_eq r) old) refl seen is.view_is t))

pub rooms-none : {X : Type 0} {R : Ghosts X} (laws : MeetsLaws R) (rooms : Rooms X)
    → IsDistinct bytes_eq (keys_of rooms) → rooms ≡ [] → AreRooms R.list R.threads rooms
rooms-none {R = R} laws rooms distinct none = record {
  distinct = distinct;
  apart = λ room. apart-same (λ t. []) (list_in (view R rooms).rooms room) no_rows.apart
      (λ t. list_in-shown laws rooms distinct room t ∙ (λ i. list_of laws (lookup (bytes_eq room) (none i)) t));
}
