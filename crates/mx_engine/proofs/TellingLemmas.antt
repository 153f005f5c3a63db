-- The rows of an event, told to one more user.
use Rattle.std.proofs.Common.{◌≡◌, ℕ, ◌+◌, ◌<◌, Bool, true, false, cond, ◌&&◌, ◌||◌, List, [], ◌∷◌, ◌++◌, length}
use Rattle.std.proofs.Common.{get_or, drop, Option, Some, None, is_some, ◌⊎◌, inl, inr, refl, ap, subst, sym, ◌∙◌}
use Rattle.std.specs.Cmp.Lexicographic.{nat_list_cmp_total, nat_list_eq_equiv, slice_cmp}
use Rattle.std.specs.FinMap.{find, from_entries, get, get-from_entries}
use Rattle.std.specs.List.{AllByRecursion, IsDistinct, list_any}
use Rattle.std.specs.Map.{keys_of, lookup}
use Rattle.std.specs.Ordering.{nat_cmp}
use Rattle.std.specs.Str.{bytes_eq}
use Rattle.std.proofs.lemmas.Bool.{cases_Bool, false≢true}
use Rattle.std.proofs.lemmas.List.{append-nil, drop_more}
use Rattle.std.proofs.lemmas.Map.Keys.{IsDistinct-head, IsDistinct-tail}
use Rattle.std.proofs.lemmas.Map.Made.{is_some-lookup}
use Rattle.mx_room.proofs.TextsLemmas.{bytes_eq-flip, bytes_eq-itself, bytes_eq-same, ties}
use Rattle.mx_rows.specs.declared.row.Row.{Row}
use Rattle.mx_rows.specs.declared.thread_key.ThreadKey.{ThreadKey}
use Rattle.mx_rows.specs.Threads.{same_thread, same_thread-equiv}
use Rattle.mx_engine.specs.KeptRows.{is_users_thread}
use Rattle.mx_engine.specs.Planning.{row_added, row_said, rows_moved}
use Rattle.mx_engine.specs.Telling.{said_in}

find-said : (users : List (List ℕ × Bool)) (q : List ℕ) → find (slice_cmp nat_cmp) q users ≡ said_in users q
find-said [] q = refl
find-said ((user, said) ∷ users) q = (λ i. cond (ties q user i) (Some said) (find-said users q i))

pub get-said : (users : List (List ℕ × Bool)) (q : List ℕ)
    → get (from_entries {R = slice_cmp nat_cmp} users) q ≡ said_in users q
get-said users q = get-from_entries nat_list_cmp_total users q ∙ find-said users q

-- ---- one user more

-- a user who comes first comes no more
said-apart : (user : List ℕ) (users : List (List ℕ × Bool))
    → AllByRecursion (λ other. bytes_eq user other ≡ false) (keys_of users) → said_in users user ≡ None
said-apart user [] apart = refl
said-apart user (first ∷ users) apart =
    ap (λ b. cond b (Some first.1) (said_in users user)) apart.0 ∙ said-apart user users apart.1

any-apart : (user q : List ℕ) (users : List (List ℕ))
    → AllByRecursion (λ other. bytes_eq user other ≡ false) users → list_any (bytes_eq q) users ≡ true
    → bytes_eq user q ≡ false
any-apart user q [] apart there = absurd (false≢true there)
any-apart user q (first ∷ users) apart there = by (any-apart user q users apart.1) (bytes_eq q first) refl
  where
    by : (list_any (bytes_eq q) users ≡ true → bytes_eq user q ≡ false)
        → (b : Bool) → bytes_eq q first ≡ b → bytes_eq user q ≡ false
    by rest true is = ap (bytes_eq user) (bytes_eq-same q first is) ∙ apart.0
    by rest false is = rest (ap (λ b. b || list_any (bytes_eq q) users) (sym is) ∙ there)

module _ (position : ℕ) (room : List ℕ) (thread : ThreadKey) (e : List ℕ × Bool) (rest : List (List ℕ × Bool)) where
  abbrev row : Row
  row = record { position = position; highlight = e.1 }

  -- a row that is pushed for the first of these users is the one that was said of it
  pub push-step : said_in rest e.0 ≡ None → (u r : List ℕ) (t : ThreadKey) (old new : List Row)
      → new ≡ cond (is_users_thread e.0 room thread u r t) (old ++ row ∷ []) old
      → new ++ row_added position room thread (said_in rest) u r t
      ≡ old ++ row_added position room thread (said_in (e ∷ rest)) u r t
  push-step apart u r t old new is =
      ap (λ l. l ++ row_added position room thread (said_in rest) u r t) is
      ∙ by (bytes_eq e.0 u) refl (bytes_eq room r && same_thread thread t)
    where
      by : (b : Bool) → bytes_eq e.0 u ≡ b → (c : Bool)
          → cond (b && c) (old ++ row ∷ []) old ++ cond c (row_said position (said_in rest u)) []
          ≡ old ++ cond c (row_said position (said_in (e ∷ rest) u)) []
      by true same true =
          let here : bytes_eq u e.0 ≡ true = bytes_eq-flip u e.0 ∙ same in
          let none : said_in rest u ≡ None = ap (said_in rest) (sym (bytes_eq-same e.0 u same)) ∙ apart in
          ap (λ (o : Option Bool). (old ++ row ∷ []) ++ row_said position o) none
          ∙ append-nil (old ++ row ∷ [])
          ∙ ap (λ b. old ++ row_said position (cond b (Some e.1) (said_in rest u))) (sym here)
      by true same false = refl
      by false same true =
          ap (λ b. old ++ row_said position (cond b (Some e.1) (said_in rest u))) (sym (bytes_eq-flip u e.0 ∙ same))
      by false same false = refl

-- what is left of the users, one step on
module _ (users : List (List ℕ × Bool)) (i : ℕ) (e : List ℕ × Bool) (within : i < length users)
    (is : e ≡ get_or users i e) (once : IsDistinct bytes_eq (keys_of (drop i users))) where
  abbrev rest : List (List ℕ × Bool)
  rest = drop (i + 1) users

  pub here : drop i users ≡ e ∷ rest
  here = drop_more users i e within ∙ ap (λ x. x ∷ rest) (sym is)

  once_here : IsDistinct bytes_eq (keys_of (e ∷ rest))
  once_here = subst (λ l. IsDistinct bytes_eq (keys_of l)) here once

  pub once_rest : IsDistinct bytes_eq (keys_of rest)
  once_rest = IsDistinct-tail bytes_eq e.0 (keys_of rest) once_here

  pub none_rest : said_in rest e.0 ≡ None
  none_rest = said-apart e.0 rest (IsDistinct-head bytes_eq e.0 (keys_of rest) once_here)

  pub apart_rest : (q : List ℕ) → list_any (bytes_eq q) (keys_of rest) ≡ true → bytes_eq e.0 q ≡ false
  apart_rest q there = any-apart e.0 q (keys_of rest) (IsDistinct-head bytes_eq e.0 (keys_of rest) once_here) there

-- a push for one user leaves the others their capacity, and their rows
pub capacity-apart : (user q room : List ℕ) (thread : ThreadKey) (old new : Bool)
    → new ≡ cond (is_users_thread user room thread q room thread) false old → bytes_eq user q ≡ false → old ≡ true
    → new ≡ true
capacity-apart user q room thread old new is apart had =
    is ∙ ap (λ b. cond (b && (bytes_eq room room && same_thread thread thread)) false old) apart ∙ had

pub pushed-apart : (user u r room : List ℕ) (thread t : ThreadKey) (pushed old new : List Row)
    → new ≡ cond (is_users_thread user room thread u r t) pushed old → bytes_eq user u ≡ false → new ≡ old
pushed-apart user u r room thread t pushed old new is apart =
    is ∙ ap (λ b. cond (b && (bytes_eq room r && same_thread thread t)) pushed old) apart

-- ---- one user more is among these

pub any-here : (users : List (List ℕ × Bool)) (i : ℕ) (e : List ℕ × Bool) → i < length users → e ≡ get_or users i e
    → (q : List ℕ) → list_any (bytes_eq q) (keys_of (drop i users))
    ≡ (bytes_eq q e.0 || list_any (bytes_eq q) (keys_of (drop (i + 1) users)))
any-here users i e within is q =
    ap (λ l. list_any (bytes_eq q) (keys_of l)) (drop_more users i e within ∙ ap (λ x. x ∷ drop (i + 1) users) (sym is))

or_cases : (a b : Bool) → (a || b) ≡ true → (a ≡ true) ⊎ (b ≡ true)
or_cases true b is = inl refl
or_cases false b is = inr is

pub or_true : (b : Bool) → (b || true) ≡ true
or_true true = refl
or_true false = refl

pub itself : (user room : List ℕ) (thread : ThreadKey) → is_users_thread user room thread user room thread ≡ true
itself user room thread =
    λ i. bytes_eq-itself user i && (bytes_eq-itself room i && same_thread-equiv.refl thread i)

-- what is left to be reserved, one step on
pub reserve-step : (users : List (List ℕ × Bool)) (i : ℕ) (e : List ℕ × Bool) → i < length users → e ≡ get_or users i e
    → (q room : List ℕ) (thread : ThreadKey) (old new : Bool)
    → new ≡ (old || (true && is_users_thread e.0 room thread q room thread))
    → (list_any (bytes_eq q) (keys_of (drop i users)) ≡ true) ⊎ (old ≡ true)
    → (list_any (bytes_eq q) (keys_of (drop (i + 1) users)) ≡ true) ⊎ (new ≡ true)
reserve-step users i e within is q room thread old new now (inr had) =
    inr (now ∙ ap (λ b. b || is_users_thread e.0 room thread q room thread) had)
reserve-step users i e within is q room thread old new now (inl there) =
    elim (or_cases (bytes_eq q e.0) (list_any (bytes_eq q) (keys_of (drop (i + 1) users)))
    (sym (any-here users i e within is q) ∙ there)) [
      | inl same ↦ inr (now
          ∙ ap (λ (user : List ℕ). old || is_users_thread user room thread q room thread)
          (sym (bytes_eq-same q e.0 same))
          ∙ ap (λ b. old || b) (itself q room thread) ∙ or_true old)
      | inr later ↦ inl later
    ]

-- ---- all of it

-- the capacity for those whom an event notifies
pub capacity-all : (users : List (List ℕ × Bool)) (q : List ℕ) → list_any (bytes_eq q) (keys_of users) ≡ true
    → is_some (get (from_entries {R = slice_cmp nat_cmp} users) q) ≡ true
capacity-all users q listed =
    ap is_some (get-said users q) ∙ is_some-lookup (bytes_eq q) users ∙ listed

pub capacity-some : (users : List (List ℕ × Bool)) (q : List ℕ)
    → is_some (get (from_entries {R = slice_cmp nat_cmp} users) q) ≡ true → list_any (bytes_eq q) (keys_of users) ≡ true
capacity-some users q some =
    sym (is_some-lookup (bytes_eq q) users) ∙ sym (ap is_some (get-said users q)) ∙ some

-- the rows of a thread, told and then cut
pub rows-told : (position : ℕ) (room named : List ℕ) (thread : ThreadKey) (users : List (List ℕ × Bool))
    (mover : Option (List ℕ)) (u r : List ℕ) (t : ThreadKey) (old told new : List Row) → room ≡ named
    → told ≡ old ++ row_added position room thread (said_in users) u r t
    → new ≡ rows_moved position room mover u r told
    → new ≡ rows_moved position named mover u r
    (old ++ row_added position named thread (get (from_entries {R = slice_cmp nat_cmp} users)) u r t)
rows-told position room named thread users mover u r t old told new same added cut =
    cut
    ∙ ap (rows_moved position room mover u r) added
    ∙ (λ i. rows_moved position (same i) mover u r
    (old ++ cond (bytes_eq (same i) r && same_thread thread t) (row_said position (sym (get-said users u) i)) []))
