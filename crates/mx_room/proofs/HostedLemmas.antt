-- What is shown of the rooms that are kept, and what a new room or a changed one changes there.
use Rattle.std.proofs.Common.{◌≡◌, ℕ, Bool, true, false, cond, List, [], ◌∷◌, Option, Some, None, IfSome, is_some}
use Rattle.std.proofs.Common.{option_and_then, option_map, unwrap_or, refl, sym, subst, ap, ◌∙◌}
use Rattle.std.specs.Cmp.Lexicographic.{nat_list_cmp_total, nat_list_eq_equiv, slice_cmp}
use Rattle.std.specs.FinMap.{find, get, get-from_entries, insert}
use Rattle.std.specs.FinSet as set
use Rattle.std.specs.List.{IsDistinct, cons_option, filter, filter_map, list_any}
use Rattle.std.specs.Map.{keys_of, lookup}
use Rattle.std.specs.Ordering.{eq_by_cmp, nat_cmp}
use Rattle.std.specs.Str.{bytes_eq}
use Rattle.std.proofs.lemmas.Bool.{false≢true}
use Rattle.std.proofs.lemmas.Map.{lookup-none}
use Rattle.std.proofs.lemmas.Map.Entries.{lookup-filter-values, none_past_head, option_filter}
use Rattle.std.proofs.lemmas.Map.Keys.{IsDistinct-tail}
use Rattle.std.proofs.lemmas.Map.Made.{is_some-lookup}
use Rattle.mx_room.specs.Change.{Sets, with_sets}
use Rattle.mx_room.specs.Hosted.{AreHosted, HostedRooms, IsHosted, IsListing, KeepsRooms, is_ready, known_state}
use Rattle.mx_room.specs.Hosted.{ready_in, states_in}
use Rattle.mx_room.specs.Rooms.{is_local_member, room_at, with_room}
use Rattle.mx_room.specs.State.{RoomState, room_of}
use Rattle.mx_room.specs.declared.hosted.HostedRoom.{HostedRoom}
use Rattle.mx_room.proofs.ListingLemmas.{listing-none}
use Rattle.mx_room.proofs.TextsLemmas.{bytes_eq-flip, bytes_eq-itself, bytes_eq-same, get-put, same_texts, ties}

-- ---- entries of which some show something

module _ {X Y : Type 0} (shown : X → Option Y) where
  abbrev shown_in : List (List ℕ × X) → List (List ℕ × Y)
  shown_in entries = filter_map (λ entry. option_map (λ y. (entry.0, y)) (shown entry.1)) entries

  find-here : (id q : List ℕ) (x : X) (entries : List (List ℕ × X)) (is_here : Bool) (what : Option Y)
      → IsDistinct bytes_eq (keys_of ((id, x) ∷ entries)) → bytes_eq q id ≡ is_here → shown x ≡ what
      → find (slice_cmp nat_cmp) q (shown_in entries) ≡ option_and_then shown (lookup (bytes_eq q) entries)
      → find (slice_cmp nat_cmp) q (cons_option (option_map (λ y. (id, y)) what) (shown_in entries))
      ≡ option_and_then shown (cond is_here (Some x) (lookup (bytes_eq q) entries))
  find-here id q x entries is_here (Some y) distinct here_is what_is rest =
      ap (λ b. cond b (Some y) (find (slice_cmp nat_cmp) q (shown_in entries))) (ties q id ∙ here_is)
      ∙ by is_here
    where
      by : (b : Bool) → cond b (Some y) (find (slice_cmp nat_cmp) q (shown_in entries))
          ≡ option_and_then shown (cond b (Some x) (lookup (bytes_eq q) entries))
      by true = sym what_is
      by false = rest
  find-here id q x entries true None distinct here_is what_is rest =
      rest
      ∙ ap (option_and_then shown)
      (lookup-none (bytes_eq q) entries (none_past_head nat_list_eq_equiv q (id, x) entries distinct here_is))
      ∙ sym what_is
  find-here id q x entries false None distinct here_is what_is rest = rest

  find-shown : (entries : List (List ℕ × X)) → IsDistinct bytes_eq (keys_of entries) → (q : List ℕ)
      → find (slice_cmp nat_cmp) q (shown_in entries) ≡ option_and_then shown (lookup (bytes_eq q) entries)
  find-shown [] distinct q = refl
  find-shown ((id, x) ∷ entries) distinct q =
      find-here id q x entries (bytes_eq q id) (shown x) distinct refl refl
      (find-shown entries (IsDistinct-tail bytes_eq id (keys_of entries) distinct) q)

get-states_in : (rooms : HostedRooms) → IsDistinct bytes_eq (keys_of rooms) → (q : List ℕ)
    → get (states_in rooms) q ≡ option_and_then known_state (lookup (bytes_eq q) rooms)
get-states_in rooms distinct q =
    get-from_entries nat_list_cmp_total (shown_in known_state rooms) q ∙ find-shown known_state rooms distinct q

any-ties : (q : List ℕ) (ids : List (List ℕ))
    → list_any (eq_by_cmp (slice_cmp nat_cmp) q) ids ≡ list_any (bytes_eq q) ids
any-ties q [] = refl
any-ties q (id ∷ ids) = rw (ties q id, any-ties q ids)

contains-ready_in : (rooms : HostedRooms) → IsDistinct bytes_eq (keys_of rooms) → (q : List ℕ)
    → set.contains (ready_in rooms) q ≡ is_some (option_filter is_ready (lookup (bytes_eq q) rooms))
contains-ready_in rooms distinct q =
    set.contains-from_list nat_list_cmp_total (keys_of (filter (λ entry. is_ready entry.1) rooms)) q
    ∙ any-ties q (keys_of (filter (λ entry. is_ready entry.1) rooms))
    ∙ sym (is_some-lookup (bytes_eq q) (filter (λ entry. is_ready entry.1) rooms))
    ∙ ap is_some (lookup-filter-values nat_list_eq_equiv is_ready q rooms distinct)

-- ---- the room of an id

known_by : (server : List ℕ) (hosted : HostedRoom) (known : Bool) → IsHosted server hosted → hosted.known ≡ known
    → unwrap_or (known_state hosted) (room_of []) ≡ hosted.room.state
known_by server hosted true is known_is = rw known_is
known_by server hosted false is known_is = rw known_is (sym (is.before known_is))

pub hosted-found : (server : List ℕ) (rooms : HostedRooms) (id : List ℕ) (hosted : HostedRoom)
    → AreHosted server rooms → lookup (bytes_eq id) rooms ≡ Some hosted → IsHosted server hosted
hosted-found server rooms id hosted are found =
    subst (λ (o : Option HostedRoom). IfSome o (IsHosted server)) found (are.each id)

-- the state of a room that is kept
pub room_at-found : (server : List ℕ) (rooms : HostedRooms) (id : List ℕ) (hosted : HostedRoom)
    → AreHosted server rooms → lookup (bytes_eq id) rooms ≡ Some hosted
    → room_at (states_in rooms) id ≡ hosted.room.state
room_at-found server rooms id hosted are found =
    ap (λ (state : Option RoomState). unwrap_or state (room_of []))
    (get-states_in rooms are.distinct id ∙ ap (option_and_then known_state) found)
    ∙ known_by server hosted hosted.known (hosted-found server rooms id hosted are found) refl

-- of a room that isn't kept nothing is known
pub room_at-none : (server : List ℕ) (rooms : HostedRooms) (id : List ℕ) → AreHosted server rooms
    → lookup (bytes_eq id) rooms ≡ None → room_at (states_in rooms) id ≡ room_of []
room_at-none server rooms id are none =
    ap (λ (state : Option RoomState). unwrap_or state (room_of []))
    (get-states_in rooms are.distinct id ∙ ap (option_and_then known_state) none)

-- whose next event has capacity is kept
ready_by : (o : Option HostedRoom) → is_some (option_filter is_ready o) ≡ true → is_some o ≡ true
ready_by None none = absurd (false≢true none)
ready_by (Some hosted) some = refl

pub ready-there : (server : List ℕ) (rooms : HostedRooms) (id : List ℕ) → AreHosted server rooms
    → set.contains (ready_in rooms) id ≡ true → is_some (lookup (bytes_eq id) rooms) ≡ true
ready-there server rooms id are ready =
    ready_by (lookup (bytes_eq id) rooms) (sym (contains-ready_in rooms are.distinct id) ∙ ready)

ready_if : (hosted : HostedRoom) (b : Bool) → is_ready hosted ≡ b
    → is_some (option_filter is_ready (Some hosted)) ≡ true → b ≡ true
ready_if hosted true is some = refl
ready_if hosted false is some = absurd (false≢true (ap (λ b. is_some (cond b (Some hosted) None)) (sym is) ∙ some))

pub ready-found : (server : List ℕ) (rooms : HostedRooms) (id : List ℕ) (hosted : HostedRoom)
    → AreHosted server rooms → lookup (bytes_eq id) rooms ≡ Some hosted → set.contains (ready_in rooms) id ≡ true
    → is_ready hosted ≡ true
ready-found server rooms id hosted are found ready =
    ready_if hosted (is_ready hosted) refl
    (ap (λ (o : Option HostedRoom). is_some (option_filter is_ready o)) (sym found)
    ∙ sym (contains-ready_in rooms are.distinct id) ∙ ready)

-- ---- one room as kept now

module _ (old new : HostedRooms) (id : List ℕ) (now : HostedRoom)
    (updated : (q : List ℕ)
    → lookup (bytes_eq q) new ≡ cond (bytes_eq id q) (Some now) (lookup (bytes_eq q) old)) where
  hosted-put : (server : List ℕ) → AreHosted server old → IsDistinct bytes_eq (keys_of new) → IsHosted server now
      → AreHosted server new
  hosted-put server are distinct is = record {
    distinct = distinct;
    each = λ q. subst (λ (o : Option HostedRoom). IfSome o (IsHosted server)) (sym (updated q))
        (by q (bytes_eq id q));
  }
    where
      by : (q : List ℕ) (b : Bool) → IfSome (cond b (Some now) (lookup (bytes_eq q) old)) (IsHosted server)
      by q true = is
      by q false = are.each q

  states-same : IsDistinct bytes_eq (keys_of old) → IsDistinct bytes_eq (keys_of new)
      → known_state now ≡ option_and_then known_state (lookup (bytes_eq id) old) → states_in new ≡ states_in old
  states-same once still same =
      same_texts (states_in new) (states_in old) (λ q.
      get-states_in new still q ∙ ap (option_and_then known_state) (updated q) ∙ by q (bytes_eq id q) refl
      ∙ sym (get-states_in old once q))
    where
      by : (q : List ℕ) (b : Bool) → bytes_eq id q ≡ b
          → option_and_then known_state (cond b (Some now) (lookup (bytes_eq q) old))
          ≡ option_and_then known_state (lookup (bytes_eq q) old)
      by q true is =
          same
          ∙ ap (λ (at : List ℕ). option_and_then known_state (lookup (bytes_eq at) old)) (bytes_eq-same id q is)
      by q false apart = refl

  states-put : IsDistinct bytes_eq (keys_of old) → IsDistinct bytes_eq (keys_of new) → (state : RoomState)
      → known_state now ≡ Some state → states_in new ≡ insert (states_in old) id state
  states-put once still state is =
      same_texts (states_in new) (insert (states_in old) id state) (λ q.
      get-states_in new still q ∙ ap (option_and_then known_state) (updated q) ∙ by q (bytes_eq id q)
      ∙ ap (λ b. cond b (Some state) (option_and_then known_state (lookup (bytes_eq q) old))) (bytes_eq-flip id q)
      ∙ ap (cond (bytes_eq q id) (Some state)) (sym (get-states_in old once q))
      ∙ sym (get-put (states_in old) id state q))
    where
      by : (q : List ℕ) (b : Bool) → option_and_then known_state (cond b (Some now) (lookup (bytes_eq q) old))
          ≡ cond b (Some state) (option_and_then known_state (lookup (bytes_eq q) old))
      by q true = is
      by q false = refl

  found_now : lookup (bytes_eq id) new ≡ Some now
  found_now = updated id ∙ ap (λ b. cond b (Some now) (lookup (bytes_eq id) old)) (bytes_eq-itself id)

  pub there-now : is_some (lookup (bytes_eq id) new) ≡ true
  there-now = ap is_some found_now

  pub ready-now : IsDistinct bytes_eq (keys_of new) → is_ready now ≡ true → set.contains (ready_in new) id ≡ true
  ready-now distinct ready =
      contains-ready_in new distinct id
      ∙ ap (λ (o : Option HostedRoom). is_some (option_filter is_ready o)) found_now
      ∙ ap (λ b. is_some (cond b (Some now) None)) ready

  -- a room without an event was entered
  pub keeps-entered : (server : List ℕ) → AreHosted server old → IsDistinct bytes_eq (keys_of new)
      → lookup (bytes_eq id) old ≡ None → now.room.state ≡ room_of [] → now.local.users ≡ [] → now.known ≡ false
      → KeepsRooms server old new
  keeps-entered server are distinct none state users unknown = record {
    hosted = hosted-put server are distinct (record {
      listing = λ q.
          ap (list_any (bytes_eq q)) users ∙ listing-none server q
          ∙ ap (λ (room : RoomState). is_local_member server room q) (sym state);
      before = λ _. state;
    });
    states = states-same are.distinct distinct
        (ap (λ b. cond b (Some now.room.state) None) unknown ∙ ap (option_and_then known_state) (sym none));
  }

  -- a room made capacity
  pub keeps-prepared : (server : List ℕ) (was : HostedRoom) → AreHosted server old
      → IsDistinct bytes_eq (keys_of new) → lookup (bytes_eq id) old ≡ Some was
      → now.room.state ≡ was.room.state → now.local.users ≡ was.local.users → now.known ≡ was.known
      → KeepsRooms server old new
  keeps-prepared server was are distinct found state users known =
      let is : IsHosted server was = hosted-found server old id was are found in
      record {
        hosted = hosted-put server are distinct (record {
          listing = λ q.
              ap (list_any (bytes_eq q)) users ∙ is.listing q
              ∙ ap (λ (room : RoomState). is_local_member server room q) (sym state);
          before = λ unknown. state ∙ is.before (sym known ∙ unknown);
        });
        states = states-same are.distinct distinct
            ((λ i. cond (known i) (Some (state i)) None) ∙ ap (option_and_then known_state) (sym found));
      }

  -- an event was applied
  pub hosted-applied : (server : List ℕ) → AreHosted server old → IsDistinct bytes_eq (keys_of new)
      → IsListing server now.room.state now.local.users → now.known ≡ true → AreHosted server new
  hosted-applied server are distinct listing known =
      hosted-put server are distinct (record {
        listing = listing;
        before = λ unknown. absurd (false≢true (sym unknown ∙ known));
      })

  pub states-applied : (server : List ℕ) (was : HostedRoom) (sets : Sets) → AreHosted server old
      → IsDistinct bytes_eq (keys_of new) → lookup (bytes_eq id) old ≡ Some was
      → now.room.state ≡ with_sets sets was.room.state → now.known ≡ true
      → states_in new ≡ with_room id sets (states_in old)
  states-applied server was sets are distinct found state known =
      states-put are.distinct distinct (with_sets sets (room_at (states_in old) id))
      (ap (λ b. cond b (Some now.room.state) None) known
      ∙ ap Some (state ∙ ap (with_sets sets) (sym (room_at-found server old id was are found))))

pub none_from : {X : Type 0} (o : Option X) → is_some o ≡ false → o ≡ None
none_from None none = refl
none_from (Some x) some = absurd (false≢true (sym some))
