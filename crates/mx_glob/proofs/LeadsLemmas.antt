-- Facts of segments and of where a pattern leads.
use Rattle.std.proofs.Common.{◌≡◌, ℕ, zero, suc, ◌+◌, ◌<◌, ◌≤◌, ◌==◌, ◌≢◌, true, false, List, [], ◌∷◌, ◌++◌, length}
use Rattle.std.proofs.Common.{drop, get_or, slice_get, Option, Some, None, IsTrue, MatchOption, ◌↔◌, refl, sym, ap}
use Rattle.std.proofs.Common.{subst, ◌∙◌, inl, inr, add-one, arith}
use Rattle.std.proofs.lemmas.Bool.{cases_lt}
use Rattle.std.proofs.lemmas.Bool.Decides.{nat_tests}
use Rattle.std.proofs.lemmas.List.{drop_more}
use Rattle.mx_glob.specs.Glob.{star, question}
use Rattle.mx_glob.specs.Words.{character_before}
use Rattle.mx_glob.specs.Leads.{takes, TakesAt, FitsAt, IsPlain}

pub IsPlain-push : (xs : List ℕ) (c : ℕ) → IsPlain xs → c == star ≡ false → IsPlain (xs ++ c ∷ [])
IsPlain-push [] c plain h = (h, tt)
IsPlain-push (x ∷ xs) c plain h = (plain.0, IsPlain-push xs c plain.1 h)

takes-question : (here : ℕ) → takes question here ≡ true
takes-question here = refl

takes-same : (c : ℕ) → takes c c ≡ true
takes-same c = grind (arith, nat_tests)

takes-plain : (wanted here : ℕ) → wanted ≢ question → takes wanted here ≡ true → wanted ≡ here
takes-plain wanted here other h = grind (arith, nat_tests)

-- a '?' takes any character that is there
pub TakesAt-question : (text : List ℕ) (k : ℕ) → k < length text → TakesAt text question k
TakesAt-question [] k h = absurd (omega arith)
TakesAt-question (x ∷ xs) zero h = refl
TakesAt-question (x ∷ xs) (suc k) h = TakesAt-question xs k (omega arith)

TakesOption : Option ℕ → ℕ → Type 0
TakesOption o wanted = MatchOption o ⊥ (λ here. IsTrue (takes wanted here))

pub TakesAt-found : (text : List ℕ) (wanted k : ℕ) → slice_get text k ≡ Some wanted → TakesAt text wanted k
TakesAt-found text wanted k e = rw e (takes-same wanted)

found : (o : Option ℕ) (wanted : ℕ) → wanted ≢ question → MatchOption o ⊥ (λ here. IsTrue (takes wanted here))
    → o ≡ Some wanted
found None wanted other h = absurd h
found (Some here) wanted other h = ap Some (sym (takes-plain wanted here other h))

-- any other character takes itself alone
pub TakesAt-other : (text : List ℕ) (wanted k : ℕ) → wanted ≢ question → TakesAt text wanted k
    → slice_get text k ≡ Some wanted
TakesAt-other text wanted k other h = found (slice_get text k) wanted other h

-- one character of the segment more
pub FitsAt-open : (text segment : List ℕ) (i d k : ℕ) → i < length segment → FitsAt text (drop i segment) k
    → TakesAt text (get_or segment i d) k × FitsAt text (drop (i + 1) segment) (k + 1)
FitsAt-open text segment i d k h agrees = rw (drop_more segment i d h) at agrees

pub FitsAt-close : (text segment : List ℕ) (i d k : ℕ) → i < length segment → TakesAt text (get_or segment i d) k
    → FitsAt text (drop (i + 1) segment) (k + 1) → FitsAt text (drop i segment) k
FitsAt-close text segment i d k h here rest = rw (drop_more segment i d h) (here, rest)

pub FitsAt-step : (text segment : List ℕ) (i d place : ℕ) (All : Type 0) → i < length segment
    → All ↔ FitsAt text (drop i segment) (place + i) → TakesAt text (get_or segment i d) (place + i)
    → All ↔ FitsAt text (drop (i + 1) segment) (place + (i + 1))
FitsAt-step text segment i d place All h same here =
    let e : place + (i + 1) ≡ place + i + 1 = omega arith in
    rw e (
      λ all. (FitsAt-open text segment i d (place + i) h (same.0 all)).1,
      λ rest. same.1 (FitsAt-close text segment i d (place + i) h here rest),
    )

pub other_than_star : (c : ℕ) → c ≢ 42 → c == star ≡ false
other_than_star c other = grind (arith, nat_tests)

pub character_before-next : (text : List ℕ) (k : ℕ) → character_before text (k + 1) ≡ slice_get text k
character_before-next text k = rw add-one refl

-- what holds at none of the places before one, nor at that one
pub none_below_next : (P : ℕ → Type 0) (n : ℕ) → ((j : ℕ) → j < n → P j → ⊥) → (P n → ⊥) → (j : ℕ) → j < n + 1 → P j → ⊥
none_below_next P n below here j h holds =
    elim (cases_lt j n) [
      | inl before ↦ below j before holds
      | inr at ↦ let e : j ≡ n = omega arith in here (subst P e holds)
    ]

-- a segment whose first character is itself agrees only where that stands
pub FitsAt-first : (text segment : List ℕ) (first k : ℕ) → slice_get segment 0 ≡ Some first
    → first == question ≡ false
    → FitsAt text segment k
    → slice_get text k ≡ Some first
FitsAt-first text [] first k known itself agrees = cc
FitsAt-first text (wanted ∷ rest) first k known itself agrees =
    let other : wanted ≢ question = λ same. grind (arith, nat_tests) in
    TakesAt-other text wanted k other agrees.0 ∙ known

pub length-from_first : (xs : List ℕ) (first : ℕ) → slice_get xs 0 ≡ Some first → 1 ≤ length xs
length-from_first [] first known = cc
length-from_first (x ∷ xs) first known = omega arith

-- what holds at none of the places before one, nor from there on before another, since what it needs does not
pub none_before : (P Q : ℕ → Type 0) (from place : ℕ) → ((j : ℕ) → 0 ≤ j → j < from → P j → ⊥)
    → ((j : ℕ) → from ≤ j → j < place → Q j → ⊥)
    → ((j : ℕ) → P j → Q j)
    → (j : ℕ) → 0 ≤ j → j < place → P j → ⊥
none_before P Q from place low high needs j any before holds =
    elim (cases_lt j from) [ inl below ↦ low j any below holds | inr at ↦ high j at before (needs j holds) ]
