-- How the list of a room's joined local users steps where something is said of one user.
use Rattle.std.proofs.Common.{◌≡◌, ℕ, Bool, true, false, cond, ◌&&◌, ◌||◌, not, codes, List, [], ◌∷◌, ◌++◌, Option}
use Rattle.std.proofs.Common.{Some, None, is_some, refl, sym, subst, ap, ◌∙◌}
use Rattle.std.specs.Cmp.Lexicographic.{nat_list_eq_equiv, slice_cmp}
use Rattle.std.specs.FinMap.{empty, get, get-empty, insert}
use Rattle.std.specs.List.{AllByRecursion, IsDistinct, filter, list_any}
use Rattle.std.specs.Option.{option_map_or}
use Rattle.std.specs.Ordering.{nat_cmp}
use Rattle.std.specs.Str.{bytes_eq}
use Rattle.std.proofs.lemmas.List.Folds.{list_any-append}
use Rattle.std.proofs.lemmas.Map.Keys.{IsDistinct-cons, IsDistinct-head, IsDistinct-push, IsDistinct-tail}
use Rattle.std.proofs.lemmas.Map.Made.{is_member-filter}
use Rattle.mx_json.specs.Ids.{is_user_id, localpart_of}
use Rattle.mx_room.specs.Change.{Sets, with_member, with_sets}
use Rattle.mx_room.specs.Hosted.{IsListing, user_of}
use Rattle.mx_room.specs.Members.{has_joined, joins, membership_at}
use Rattle.mx_room.specs.Rooms.{is_local_id, is_local_member}
use Rattle.mx_room.specs.State.{RoomState, room_of}
use Rattle.mx_room.specs.Texts.{Texts, table}
use Rattle.mx_room.specs.declared.member.Member.{Member}
use Rattle.mx_room.proofs.TextsLemmas.{bytes_eq-itself, bytes_eq-same, get-put}

-- ---- one user taken out, and maybe put back

-- this listed user is another
abbrev pub is_other : List ℕ → List ℕ → Bool
is_other user listed = not (bytes_eq listed user)

any-others : (q user : List ℕ) (users : List (List ℕ))
    → list_any (bytes_eq q) (filter (is_other user) users) ≡ (list_any (bytes_eq q) users && is_other user q)
any-others q user users =
    is_member-filter nat_list_eq_equiv (is_other user) q
    (λ listed same. ap (is_other user) (bytes_eq-same q listed same)) users

without : (any is_user : Bool) → (any && not is_user) ≡ cond is_user false any
without true true = refl
without true false = refl
without false true = refl
without false false = refl

or_last : (any is_user : Bool) → ((any && not is_user) || (is_user || false)) ≡ cond is_user true any
or_last true true = refl
or_last true false = refl
or_last false true = refl
or_last false false = refl

pub any-taken_out : (user : List ℕ) (users : List (List ℕ)) (q : List ℕ)
    → list_any (bytes_eq q) (filter (is_other user) users) ≡ cond (bytes_eq q user) false (list_any (bytes_eq q) users)
any-taken_out user users q = any-others q user users ∙ without (list_any (bytes_eq q) users) (bytes_eq q user)

pub any-put_back : (user : List ℕ) (users : List (List ℕ)) (q : List ℕ)
    → list_any (bytes_eq q) (filter (is_other user) users ++ user ∷ [])
    ≡ cond (bytes_eq q user) true (list_any (bytes_eq q) users)
any-put_back user users q =
    list_any-append (bytes_eq q) (filter (is_other user) users) (user ∷ [])
    ∙ ap (λ b. b || (bytes_eq q user || false)) (any-others q user users)
    ∙ or_last (list_any (bytes_eq q) users) (bytes_eq q user)

module _ {K : Type 0} where
  all-filter : (P : K → Type 0) (test : K → Bool) (ks : List K) → AllByRecursion P ks
      → AllByRecursion P (filter test ks)
  all-filter P test [] all = all
  all-filter P test (k ∷ ks) all = by (test k) (all-filter P test ks all.1)
    where
      by : (b : Bool) → AllByRecursion P (filter test ks)
          → AllByRecursion P (cond b (k ∷ filter test ks) (filter test ks))
      by true rest = (all.0, rest)
      by false rest = rest

  distinct-filter : (eq : K → K → Bool) (test : K → Bool) (ks : List K) → IsDistinct eq ks
      → IsDistinct eq (filter test ks)
  distinct-filter eq test [] distinct = distinct
  distinct-filter eq test (k ∷ ks) distinct =
      by (test k) (distinct-filter eq test ks (IsDistinct-tail eq k ks distinct))
    where
      by : (b : Bool) → IsDistinct eq (filter test ks)
          → IsDistinct eq (cond b (k ∷ filter test ks) (filter test ks))
      by true rest = IsDistinct-cons eq k (filter test ks)
          (all-filter (λ y. eq k y ≡ false) test ks (IsDistinct-head eq k ks distinct)) rest
      by false rest = rest

pub distinct-taken_out : (user : List ℕ) (users : List (List ℕ)) → IsDistinct bytes_eq users
    → IsDistinct bytes_eq (filter (is_other user) users)
distinct-taken_out user users distinct = distinct-filter bytes_eq (is_other user) users distinct

pub distinct-put_back : (user : List ℕ) (users : List (List ℕ)) → IsDistinct bytes_eq users
    → IsDistinct bytes_eq (filter (is_other user) users ++ user ∷ [])
distinct-put_back user users distinct =
    IsDistinct-push nat_list_eq_equiv (filter (is_other user) users) user (distinct-taken_out user users distinct)
    (any-taken_out user users user
    ∙ ap (λ b. cond b false (list_any (bytes_eq user) users)) (bytes_eq-itself user))

-- ---- the joined local users after an event

-- whether a text is listed after something was said of this user
abbrev pub listed_after : List ℕ → Option (List ℕ) → Bool → List ℕ → Bool → Bool
listed_after server user joined q was_listed =
    cond (option_map_or (λ (at : List ℕ). is_some (localpart_of server at) && bytes_eq q at) user false) joined
    was_listed

and_false : (b : Bool) → (b && false) ≡ false
and_false true = refl
and_false false = refl

-- by whether the named text is a user id, and has a localpart on the server
step_here : (server named : List ℕ) (joined was_joined is_id is_ours : Bool)
    → is_some (localpart_of server named) ≡ is_ours
    → listed_after server (cond is_id (Some named) None) joined named ((is_id && is_ours) && was_joined)
    ≡ ((is_id && is_ours) && joined)
step_here server named joined was_joined true true ours = rw (ours, bytes_eq-itself named)
step_here server named joined was_joined true false ours = rw ours
step_here server named joined was_joined false is_ours ours = refl

step_elsewhere : (server named q : List ℕ) (joined was_listed is_id is_ours : Bool) → bytes_eq q named ≡ false
    → is_some (localpart_of server named) ≡ is_ours
    → listed_after server (cond is_id (Some named) None) joined q was_listed ≡ was_listed
step_elsewhere server named q joined was_listed true true apart ours = rw (ours, apart)
step_elsewhere server named q joined was_listed true false apart ours = rw ours
step_elsewhere server named q joined was_listed false is_ours apart ours = refl

joined_by : (o : Option Member) (member : Member) (b : Bool)
    → option_map_or joins (cond b (Some member) o) false ≡ cond b (joins member) (option_map_or joins o false)
joined_by o member true = refl
joined_by o member false = refl

has_joined-insert : (members : Texts Member) (named q : List ℕ) (member : Member) (b : Bool) → bytes_eq q named ≡ b
    → has_joined (insert members named member) q ≡ cond b (joins member) (has_joined members q)
has_joined-insert members named q member b is =
    ap (λ (o : Option Member). option_map_or joins o false)
    (get-put members named member q ∙ ap (λ b. cond b (Some member) (get members q)) is)
    ∙ joined_by (get members q) member b

step_by : (server named q : List ℕ) (member : Member) (members : Texts Member) (b : Bool) → bytes_eq q named ≡ b
    → listed_after server (cond (is_user_id named) (Some named) None) (joins member) q
    (is_local_id server q && has_joined members q)
    ≡ (is_local_id server q && has_joined (insert members named member) q)
step_by server named q member members true is =
    subst
    (λ (at : List ℕ). listed_after server (cond (is_user_id named) (Some named) None) (joins member) at
    (is_local_id server at && has_joined members at)
    ≡ (is_local_id server at && has_joined (insert members named member) at))
    (sym (bytes_eq-same q named is))
    (step_here server named (joins member) (has_joined members named) (is_user_id named)
    (is_some (localpart_of server named)) refl
    ∙ ap (λ b. is_local_id server named && b)
    (sym (has_joined-insert members named named member true (bytes_eq-itself named))))
step_by server named q member members false apart =
    step_elsewhere server named q (joins member) (is_local_id server q && has_joined members q) (is_user_id named)
    (is_some (localpart_of server named)) apart refl
    ∙ ap (λ b. is_local_id server q && b) (sym (has_joined-insert members named q member false apart))

step_of : (server q : List ℕ) (set : Option (List ℕ × Member)) (members : Texts Member)
    → listed_after server (user_of set) (option_map_or (λ (set : List ℕ × Member). joins set.1) set false) q
    (is_local_id server q && has_joined members q)
    ≡ (is_local_id server q && has_joined (with_member set members) q)
step_of server q None members = refl
step_of server q (Some set) members = step_by server set.0 q set.1 members (bytes_eq q set.0) refl

-- the listing steps with the room
pub listing-step : (server : List ℕ) (sets : Sets) (room : RoomState) (user : Option (List ℕ)) (joined : Bool)
    (old new : List (List ℕ))
    → user ≡ user_of sets.member → joined ≡ option_map_or (λ (set : List ℕ × Member). joins set.1) sets.member false
    → ((q : List ℕ) → list_any (bytes_eq q) new ≡ listed_after server user joined q (list_any (bytes_eq q) old))
    → IsListing server room old → IsListing server (with_sets sets room) new
listing-step server sets room user joined old new user_is joined_is after before q =
    after q
    ∙ (λ i. listed_after server (user_is i) (joined_is i) q (before q i))
    ∙ step_of server q sets.member room.members

-- ---- before the first event

no_members : (room_of []).members ≡ empty
unfolding room_of table
no_members = refl

pub nobody_joined : (server q : List ℕ) → is_local_member server (room_of []) q ≡ false
nobody_joined server q =
    ap (λ (members : Texts Member). is_local_id server q && has_joined members q) no_members
    ∙ ap (λ (o : Option Member). is_local_id server q && option_map_or joins o false)
    (get-empty (slice_cmp nat_cmp) q)
    ∙ and_false (is_local_id server q)

-- where nothing is known of a room the membership of everybody is `leave`
pub nobody_member : (q : List ℕ) → membership_at (room_of []) q ≡ codes "leave"
nobody_member q =
    ap (λ (members : Texts Member). option_map_or (λ (m : Member). m.membership) (get members q) (codes "leave"))
    no_members
    ∙ ap (λ (o : Option Member). option_map_or (λ (m : Member). m.membership) o (codes "leave"))
    (get-empty (slice_cmp nat_cmp) q)

pub listing-none : (server : List ℕ) → IsListing server (room_of []) []
listing-none server q = sym (nobody_joined server q)

pub distinct-none : IsDistinct bytes_eq []
unfolding IsDistinct
distinct-none = tt
