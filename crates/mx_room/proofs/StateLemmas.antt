-- How the state of a room steps with one more event.
use Rattle.std.proofs.Common.{◌≡◌, ℕ, Bool, true, false, cond, ◌&&◌, ◌||◌, List, [], ◌∷◌, ◌++◌, Option, Some, None, ◌⊎◌}
use Rattle.std.proofs.Common.{inl, inr, ⊎_elim, option_map, refl, sym, ap, ◌∙◌}
use Rattle.std.specs.List.{cons_option, filter_map, list_any}
use Rattle.std.specs.Option.{option_map_or, option_or}
use Rattle.std.specs.Str.{bytes_eq}
use Rattle.std.proofs.lemmas.Bool.{cases_Bool}
use Rattle.std.proofs.lemmas.Option.{same_Some}
use Rattle.mx_json.specs.declared.value.Json.{Json}
use Rattle.mx_event.specs.Event.{content_of, kind_of, membership_of, state_key_of, told_membership}
use Rattle.mx_room.specs.Change.{Sets, after, creator_set_by, member_set_by, powers_set_by, sets_of, with_member}
use Rattle.mx_room.specs.Change.{with_sets}
use Rattle.mx_room.specs.State.{RoomState, create_kind, creator_by, is_state, last_of, member_by, member_in}
use Rattle.mx_room.specs.State.{member_kind, named_by, powers_kind, room_of, state_if, state_of}
use Rattle.mx_room.specs.Texts.{Texts, table}
use Rattle.mx_room.specs.declared.member.Member.{Member}
use Rattle.mx_room.proofs.TextsLemmas.{IsCovered, same_table, table-set}

-- ---- the last of a list

or_assoc : {A : Type 0} (a b c : Option A) → option_or (option_or a b) c ≡ option_or a (option_or b c)
or_assoc None b c = refl
or_assoc (Some x) b c = refl

or_none : {A : Type 0} (a : Option A) → option_or a None ≡ a
or_none None = refl
or_none (Some x) = refl

pub last_of-push : {A B : Type 0} (f : A → Option B) (xs : List A) (x : A)
    → last_of f (xs ++ x ∷ []) ≡ option_or (f x) (last_of f xs)
unfolding last_of
last_of-push f [] x = sym (or_none (f x))
last_of-push f (y ∷ xs) x = ap (λ o. option_or o (f y)) (last_of-push f xs x) ∙ or_assoc (f x) (last_of f xs) (f y)

map_or : {A B : Type 0} (f : A → B) (a b : Option A)
    → option_map f (option_or a b) ≡ option_or (option_map f a) (option_map f b)
map_or f None b = refl
map_or f (Some x) b = refl

-- what is read off the state of a type and a key, after one more event
pub read-push : {B : Type 0} (f : Json → B) (events : List Json) (event : Json) (kind key : List ℕ)
    → option_map f (state_of (events ++ event ∷ []) kind key)
    ≡ option_or (option_map f (state_if kind key event)) (option_map f (state_of events kind key))
unfolding state_of
read-push f events event kind key =
    ap (option_map f) (last_of-push (state_if kind key) events event) ∙ map_or f (state_if kind key event)
    (state_of events kind key)

-- ---- members

-- whom an event makes a member, by its type, its state key and the membership that it tells
abbrev named_if : Bool → Option (List ℕ) → List ℕ → Option (List ℕ)
named_if is_member key told =
    option_map (λ (pair : List ℕ × List ℕ). pair.0)
    (cond is_member (option_map {T = List ℕ} {U = List ℕ × List ℕ} (λ user. (user, told)) key) None)

state_by : (is_member : Bool) (key : Option (List ℕ)) (told user q : List ℕ) → named_if is_member key told ≡ Some user
    → (is_member && option_map_or (bytes_eq q) key false) ≡ bytes_eq q user
state_by true None told user q named = absurd cc
state_by true (Some key) told user q named = ap (bytes_eq q) (same_Some key user named)
state_by false key told user q named = absurd cc

state_of_nobody : (is_member : Bool) (key : Option (List ℕ)) (told q : List ℕ) → named_if is_member key told ≡ None
    → (is_member && option_map_or (bytes_eq q) key false) ≡ false
state_of_nobody true None told q none = refl
state_of_nobody true (Some key) told q none = absurd cc
state_of_nobody false key told q none = refl

-- whom an event makes a member, of that user alone it is the state
names : (event : Json) (user : List ℕ) → named_by event ≡ Some user → (q : List ℕ)
    → is_state member_kind q event ≡ bytes_eq q user
unfolding membership_of
names event user named q =
    state_by (bytes_eq (kind_of event) member_kind) (state_key_of event) (told_membership event) user q named

names_nobody : (event : Json) → named_by event ≡ None → (q : List ℕ) → is_state member_kind q event ≡ false
unfolding membership_of
names_nobody event none q =
    state_of_nobody (bytes_eq (kind_of event) member_kind) (state_key_of event) (told_membership event) q none

-- what is said of a user after one more event
member_by_state : (event : Json) (q : List ℕ) (b : Bool) → is_state member_kind q event ≡ b
    → option_map member_by (state_if member_kind q event) ≡ cond b (Some (member_by event)) None
member_by_state event q true is = rw is
member_by_state event q false is = rw is

chosen : {A : Type 0} (b : Bool) (x : A) (o : Option A) → option_or (cond b (Some x) None) o ≡ cond b (Some x) o
chosen true x o = refl
chosen false x o = refl

member_in-named : (events : List Json) (event : Json) (user : List ℕ) → named_by event ≡ Some user → (q : List ℕ)
    → member_in (events ++ event ∷ []) q ≡ cond (bytes_eq q user) (Some (member_by event)) (member_in events q)
member_in-named events event user named q =
    read-push member_by events event member_kind q
    ∙ ap (λ o. option_or o (member_in events q)) (member_by_state event q (bytes_eq q user) (names event user named q))
    ∙ chosen (bytes_eq q user) (member_by event) (member_in events q)

member_in-nobody : (events : List Json) (event : Json) → named_by event ≡ None → (q : List ℕ)
    → member_in (events ++ event ∷ []) q ≡ member_in events q
member_in-nobody events event none q =
    read-push member_by events event member_kind q
    ∙ ap (λ o. option_or o (member_in events q)) (member_by_state event q false (names_nobody event none q))

-- of whom anything is said, an event makes a member
no_state : (event : Json) (q : List ℕ) → is_state member_kind q event ≡ false → state_if member_kind q event ≡ None
no_state event q is = rw is

still_among : (event : Json) (q : List ℕ) (before : Option Json) (others : List (List ℕ))
    → is_state member_kind q event ≡ false → (before ≡ None) ⊎ (list_any (bytes_eq q) others ≡ true)
    → (option_or before (state_if member_kind q event) ≡ None) ⊎ (list_any (bytes_eq q) others ≡ true)
still_among event q before others is (inl nothing) = inl (rw (nothing, no_state event q is))
still_among event q before others is (inr among) = inr among

among_longer : (b : Bool) {P : Type 0} (any : Bool) → P ⊎ (any ≡ true) → P ⊎ ((b || any) ≡ true)
among_longer b any (inl p) = inl p
among_longer true any (inr is) = inr refl
among_longer false any (inr is) = inr is

among_more : (event : Json) (user : Option (List ℕ)) → named_by event ≡ user
    → (q : List ℕ) (before : Option Json) (others : List (List ℕ))
    → (before ≡ None) ⊎ (list_any (bytes_eq q) others ≡ true)
    → (option_or before (state_if member_kind q event) ≡ None)
    ⊎ (list_any (bytes_eq q) (cons_option user others) ≡ true)
among_more event None none q before others among = still_among event q before others (names_nobody event none q) among
among_more event (Some user) named q before others among =
    ⊎_elim
    (λ is. inr (rw is))
    (λ apart. among_longer (bytes_eq q user) (list_any (bytes_eq q) others)
    (still_among event q before others (names event user named q ∙ apart) among))
    (cases_Bool (bytes_eq q user))

state_among : (events : List Json) (q : List ℕ)
    → (last_of (state_if member_kind q) events ≡ None) ⊎ (list_any (bytes_eq q) (filter_map named_by events) ≡ true)
unfolding last_of
state_among [] q = inl refl
state_among (event ∷ events) q =
    among_more event (named_by event) refl q (last_of (state_if member_kind q) events) (filter_map named_by events)
    (state_among events q)

pub member_in-covered : (events : List Json) → IsCovered (member_in events) (filter_map named_by events)
unfolding state_of
member_in-covered events q =
    ⊎_elim (λ nothing. inl (rw nothing)) (λ among. inr among) (state_among events q)

-- ---- the state

members-push : (events : List Json) (event : Json) (user : Option (List ℕ)) → named_by event ≡ user
    → table (member_in (events ++ event ∷ [])) (filter_map named_by (events ++ event ∷ []))
    ≡ with_member (member_set_by event) (table (member_in events) (filter_map named_by events))
unfolding member_set_by
members-push events event None none =
    rw none
    (same_table (member_in events) (member_in (events ++ event ∷ [])) (filter_map named_by events)
    (filter_map named_by (events ++ event ∷ [])) (member_in-covered events)
    (member_in-covered (events ++ event ∷ [])) (member_in-nobody events event none))
members-push events event (Some user) named =
    rw named
    (table-set (member_in events) (member_in (events ++ event ∷ [])) (filter_map named_by events)
    (filter_map named_by (events ++ event ∷ [])) user (Some (member_by event)) (member_in-covered events)
    (member_in-covered (events ++ event ∷ [])) (member_in-named events event user named))

same_state : (m n : Texts Member) (p q : Option Json) (c d : Option (List ℕ)) → m ≡ n → p ≡ q → c ≡ d
    → ◌≡◌ {A = RoomState} (record { members = m; powers = p; creator = c })
    (record { members = n; powers = q; creator = d })
same_state m n p q c d members powers creator = cc

pub room_of-push : (events : List Json) (event : Json)
    → room_of (events ++ event ∷ []) ≡ with_sets (sets_of event) (room_of events)
unfolding room_of powers_set_by creator_set_by
room_of-push events event =
    same_state _ _ _ _ _ _
    (members-push events event (named_by event) refl)
    (read-push content_of events event powers_kind [])
    (read-push creator_by events event create_kind [])

-- a plan that was made of an event, carried out or looked at
pub room_of-planned : (room now : RoomState) (plan : Sets) (events : List Json) (event : Json)
    → now ≡ with_sets plan room → room ≡ room_of events → plan ≡ sets_of event → now ≡ room_of (events ++ event ∷ [])
room_of-planned room now plan events event change before planned =
    rw (change, before, planned) (sym (room_of-push events event))

pub room_of-viewed : (room now : RoomState) (plan : Option Sets) (events : List Json) (event : Json)
    → now ≡ after plan room → room ≡ room_of events → plan ≡ Some (sets_of event)
    → now ≡ room_of (events ++ event ∷ [])
room_of-viewed room now plan events event view before planned =
    rw (view, planned, before) (sym (room_of-push events event))
