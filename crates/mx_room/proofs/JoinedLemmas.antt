-- How the joined members, and their number, step where something is said of one user.
use Rattle.std.proofs.Common.{◌≡◌, ℕ, ◌+◌, ◌-◌, ◌<◌, ◌≤◌, Bool, true, false, cond, ◌&&◌, List, [], ◌∷◌, length, Option}
use Rattle.std.proofs.Common.{Some, None, ◌⊎◌, inl, inr, is_some, refl, sym, ap, ◌∙◌, arith}
use Rattle.std.specs.Cmp.Lexicographic.{slice_cmp, nat_list_cmp_total}
use mir.Val.{bool_byte}
use Rattle.std.specs.FinMap.{get, insert, keys, len, len-entries, len-insert, len-remove, contains_key-keys, entries}
use Rattle.std.specs.List.{list_any}
use Rattle.std.specs.Ordering.{eq_by_cmp, nat_cmp}
use Rattle.std.specs.Str.{bytes_eq}
use Rattle.std.proofs.lemmas.List.{length-map}
use Rattle.mx_room.specs.Members.{has_joined, joined_where, joins}
use Rattle.mx_room.specs.Texts.{Texts, TextSet, marked}
use Rattle.mx_room.specs.declared.member.Member.{Member}
use Rattle.mx_room.proofs.TextsLemmas.{IsCovered, bytes_eq-same, get-put, get-table, len-table, set_at, table-set, ties}

any_alike : (f g : List ℕ → Bool) → ((x : List ℕ) → f x ≡ g x) → (xs : List (List ℕ)) → list_any f xs ≡ list_any g xs
any_alike f g alike [] = refl
any_alike f g alike (x ∷ xs) = rw (alike x, any_alike f g alike xs)

pub has_key : {X : Type 0} (m : Texts X) (q : List ℕ) → is_some (get m q) ≡ list_any (bytes_eq q) (keys m)
has_key m q = contains_key-keys m q ∙ any_alike (eq_by_cmp (slice_cmp nat_cmp) q) (bytes_eq q) (ties q) (keys m)

-- whether a user of whom this is true is joined
abbrev mark : (List ℕ → Bool) → Texts Member → List ℕ → Option (Unit {0})
mark test members user = marked (test user && has_joined members user)

unmarked : (b : Bool) → marked (b && false) ≡ None
unmarked true = refl
unmarked false = refl

covered_by : (test : List ℕ → Bool) (members : Texts Member) (q : List ℕ) (o : Option Member) → get members q ≡ o
    → (mark test members q ≡ None) ⊎ (list_any (bytes_eq q) (keys members) ≡ true)
covered_by test members q None none = inl (rw none (unmarked (test q)))
covered_by test members q (Some member) some = inr (sym (has_key members q) ∙ ap is_some some)

marks-covered : (test : List ℕ → Bool) (members : Texts Member) → IsCovered (mark test members) (keys members)
marks-covered test members q = covered_by test members q (get members q) refl

mark-insert : (test : List ℕ → Bool) (members : Texts Member) (user : List ℕ) (member : Member) (q : List ℕ) (b : Bool)
    → bytes_eq q user ≡ b
    → mark test (insert members user member) q ≡ cond b (marked (test user && joins member)) (mark test members q)
mark-insert test members user member q true is =
    rw (get-put members user member q, is)
    (ap (λ (u : List ℕ). marked (test u && joins member)) (bytes_eq-same q user is))
mark-insert test members user member q false apart = rw (get-put members user member q, apart)

pub joined_where-insert : (test : List ℕ → Bool) (members : Texts Member) (user : List ℕ) (member : Member)
    → joined_where test (insert members user member)
    ≡ set_at user (marked (test user && joins member)) (joined_where test members)
unfolding joined_where
joined_where-insert test members user member =
    table-set (mark test members) (mark test (insert members user member)) (keys members)
    (keys (insert members user member)) user (marked (test user && joins member)) (marks-covered test members)
    (marks-covered test (insert members user member))
    (λ q. mark-insert test members user member q (bytes_eq q user) refl)

pub get-joined_where : (test : List ℕ → Bool) (members : Texts Member) (user : List ℕ)
    → get (joined_where test members) user ≡ marked (test user && has_joined members user)
unfolding joined_where
get-joined_where test members user = get-table (mark test members) (keys members) (marks-covered test members) user

-- ---- how many

some_there : (p : List ℕ → Bool) (ks : List (List ℕ)) → list_any p ks ≡ true → 0 < length ks
some_there p [] none = absurd cc
some_there p (k ∷ ks) some = omega arith

len-keys : {X : Type 0} (m : Texts X) → len m ≡ length (keys m)
len-keys m = len-entries m ∙ sym (length-map (entries m) (λ e. e.0))

len_positive : (s : TextSet) (user : List ℕ) → is_some (get s user) ≡ true → 0 < len s
len_positive s user has = rw (len-keys s) (some_there (bytes_eq user) (keys s) (sym (has_key s user) ∙ has))

len-marked : (s : TextSet) (user : List ℕ) (was is : Bool) → get s user ≡ marked was
    → len (set_at user (marked is) s) + cond was 1 0 ≡ len s + cond is 1 0
len-marked s user true true there = rw (len-insert nat_list_cmp_total s user tt, there)
len-marked s user true false there =
    let positive = len_positive s user (ap is_some there) in
    rw (len-remove nat_list_cmp_total s user, there) (omega arith)
len-marked s user false true there = rw (len-insert nat_list_cmp_total s user tt, there) (omega arith)
len-marked s user false false there = rw (len-remove nat_list_cmp_total s user, there)

-- how many are joined where this is said of a user who was joined or not
pub joined-insert : (members : Texts Member) (user : List ℕ) (member : Member)
    → len (joined_where (λ _. true) (insert members user member)) + cond (has_joined members user) 1 0
    ≡ len (joined_where (λ _. true) members) + cond (joins member) 1 0
joined-insert members user member =
    ap (λ (s : TextSet). len s + cond (has_joined members user) 1 0)
    (joined_where-insert (λ _. true) members user member)
    ∙ len-marked (joined_where (λ _. true) members) user (has_joined members user) (joins member)
    (get-joined_where (λ _. true) members user)

pub joined-le : (test : List ℕ → Bool) (members : Texts Member) → len (joined_where test members) ≤ len members
unfolding joined_where
joined-le test members = rw (len-keys members) (len-table (mark test members) (keys members))

-- ---- how the code counts

byte-is : (b : Bool) → bool_byte b ≡ cond b 1 0
byte-is true = refl
byte-is false = refl

bit-le : (b : Bool) → cond b 1 0 ≤ 1
bit-le true = omega arith
bit-le false = omega arith

-- a user's mark before and after, as the numbers that the code adds and takes away
pub record IsCounted (members : Texts Member) (user : List ℕ) (member : Member) (joins_byte was_byte : ℕ) : Type 0 where
  pub fits : len (joined_where (λ _. true) members) + joins_byte ≤ len members + 1
  pub within : was_byte ≤ len (joined_where (λ _. true) members) + joins_byte
  pub count : len (joined_where (λ _. true) members) + joins_byte - was_byte
      ≡ len (joined_where (λ _. true) (insert members user member))

pub counted : (members : Texts Member) (user : List ℕ) (member : Member) (joins_byte was_byte : ℕ)
    (joins_now was_joined : Bool)
    → joins_byte ≡ bool_byte joins_now → joins_now ≡ joins member → was_byte ≡ bool_byte was_joined
    → was_joined ≡ has_joined members user → IsCounted members user member joins_byte was_byte
counted members user member joins_byte was_byte joins_now was_joined joins_is joins_now_is was_is was_joined_is =
    let step = joined-insert members user member in
    let most = joined-le (λ _. true) members in
    let after : joins_byte ≡ cond (joins member) 1 0 =
    joins_is ∙ byte-is joins_now ∙ ap (λ b. cond b 1 0) joins_now_is in
    let before : was_byte ≡ cond (has_joined members user) 1 0 =
    was_is ∙ byte-is was_joined ∙ ap (λ b. cond b 1 0) was_joined_is in
    let small = bit-le (joins member) in
    record { fits = omega arith; within = omega arith; count = omega arith }
