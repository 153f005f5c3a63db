-- Where a pattern leads is where it matches.
use Rattle.std.proofs.Common.{◌≡◌, ℕ, suc, ◌+◌, ◌-◌, ◌<◌, ◌≤◌, ◌==◌, ◌≢◌, Bool, true, false, List, [], ◌∷◌, length}
use Rattle.std.proofs.Common.{take, drop, get_or, slice_range, Some, IsTrue, MatchBool, ◌⊎◌, inl, inr, refl, sym, ap}
use Rattle.std.proofs.Common.{◌∙◌, subst, arith, eqb-true, length-drop}
use Rattle.std.proofs.lemmas.Bool.{cases_lt}
use Rattle.std.proofs.lemmas.Bool.Decides.{nat_tests}
use Rattle.std.proofs.lemmas.List.{drop_more, drop-take, drop-drop, length-take-le}
use Rattle.std.proofs.lemmas.Option.{slice_get-get_or, get_or_from_slice_get}
use Rattle.mx_glob.specs.Glob.{star, question, SomeSuffix, AfterAny, After, Matches}
use Rattle.mx_glob.specs.Leads.{TakesAt, Leads, LeadsOn}
use Rattle.mx_glob.proofs.LeadsLemmas.{TakesAt-question, TakesAt-found, TakesAt-other}
use Rattle.mx_glob.proofs.SegmentLemmas.{within}

pub length-range : (text : List ℕ) (a b : ℕ) → a ≤ b → b ≤ length text → length (slice_range text a b) ≡ b - a
length-range text a b ab bt = length-take-le (b - a) (drop a text) (omega (arith, length-drop a text))

-- a part that isn't empty: its first character, and the part after it
range_more : (text : List ℕ) (a b d : ℕ) → a < b → b ≤ length text
    → slice_range text a b ≡ get_or text a d ∷ slice_range text (a + 1) b
range_more text a b d ab bt =
    let e : b - a ≡ suc (b - (a + 1)) = omega arith in
    rw (e, drop_more text a d (omega arith)) refl

-- a part's suffix
drop-range : (text : List ℕ) (a j b : ℕ) → a ≤ j → j ≤ b → drop (j - a) (slice_range text a b) ≡ slice_range text j b
drop-range text a j b aj jb =
    let e : b - a ≡ (j - a) + (b - j) = omega arith in
    let f : a + (j - a) ≡ j = omega arith in
    ap (λ n. drop (j - a) (take n (drop a text))) e
    ∙ drop-take (j - a) (b - j) (drop a text)
    ∙ ap (take (b - j)) (drop-drop (j - a) a text ∙ ap (λ n. drop n text) f)

-- the pattern matches some part from a place on that ends where it may
abbrev pub MatchesFrom : (ℕ → Bool) → List ℕ → List ℕ → ℕ → Type 0
MatchesFrom ends text pattern a =
    (b : ℕ) × (a ≤ b) × (b ≤ length text) × IsTrue (ends b) × Matches pattern (slice_range text a b)

bool_cases : (b : Bool) → (b ≡ true) ⊎ (b ≡ false)
bool_cases true = inl refl
bool_cases false = inr refl

other_than : (c d : ℕ) → c == d ≡ false → c ≢ d
other_than c d h = grind (arith, nat_tests)

abbrev LeadsCase : (ℕ → Bool) → List ℕ → ℕ → List ℕ → ℕ → Bool → Type 0
LeadsCase ends text c rest a b =
    MatchBool b ((j : ℕ) × (a ≤ j) × (j ≤ length text) × Leads ends text rest j)
    (TakesAt text c a × Leads ends text rest (a + 1))

abbrev pub MatchesCase : ℕ → List ℕ → List ℕ → Bool → Bool → Type 0
MatchesCase c rest text b q =
    MatchBool b (SomeSuffix (Matches rest) text)
    (MatchBool q (AfterAny (Matches rest) text) (After c (Matches rest) text))

range_none : (text : List ℕ) (a : ℕ) → slice_range text a a ≡ []
range_none text a =
    let e : a - a ≡ 0 = omega arith in
    ap (λ n. take n (drop a text)) e

range_from_nil : (text : List ℕ) (a b : ℕ) → a ≤ b → b ≤ length text → slice_range text a b ≡ [] → a ≡ b
range_from_nil text a b ab bt nil =
    let e = sym (length-range text a b ab bt) ∙ ap length nil in
    omega arith

pub MatchesFrom-leads : (ends : ℕ → Bool) (text pattern : List ℕ) (a : ℕ) → a ≤ length text → Leads ends text pattern a
    → MatchesFrom ends text pattern a
MatchesFrom-leads ends text [] a h leads = (a, omega arith, h, leads, range_none text a)
MatchesFrom-leads ends text (c ∷ rest) a h leads =
    elim (bool_cases (c == star)) [
      | inl starred ↦
          let on : LeadsOn ends text rest a = subst (LeadsCase ends text c rest a) starred leads in
          let next = MatchesFrom-leads ends text rest on.0 on.2 on.3 in
          let room : on.0 - a ≤ length (slice_range text a next.0) =
          omega (arith, length-range text a next.0 (omega arith) next.2) in
          let suffix = subst (Matches rest) (sym (drop-range text a on.0 next.0 on.1 next.1)) next.4 in (
            next.0,
            omega arith,
            next.2,
            next.3,
            subst (λ b. MatchesCase c rest (slice_range text a next.0) b (c == question)) (sym starred)
                (on.0 - a, room, suffix),
          )
      | inr plain ↦
          let both : TakesAt text c a × Leads ends text rest (a + 1) =
          subst (LeadsCase ends text c rest a) plain leads in
          let inside = within text c a both.0 in
          let next = MatchesFrom-leads ends text rest (a + 1) (omega arith) both.1 in
          let part = range_more text a next.0 c (omega arith) next.2 in
          let tail : MatchesCase c rest (slice_range text a next.0) false (c == question) =
          elim (bool_cases (c == question)) [
            | inl any ↦ subst (MatchesCase c rest (slice_range text a next.0) false) (sym any)
                (subst (AfterAny (Matches rest)) (sym part) next.4)
            | inr same ↦
                let first =
                get_or_from_slice_get text a c c (TakesAt-other text c a (other_than c question same) both.0) in
                subst (MatchesCase c rest (slice_range text a next.0) false) (sym same)
                (subst (After c (Matches rest)) (sym part) (first, next.4))
          ]
          in (
            next.0,
            omega arith,
            next.2,
            next.3,
            subst (λ b. MatchesCase c rest (slice_range text a next.0) b (c == question)) (sym plain) tail,
          )
    ]

nothing : (c : ℕ) (rest : List ℕ) (q : Bool) → MatchesCase c rest [] false q → ⊥
nothing c rest true h = h
nothing c rest false h = h

pub Leads-from_matches : (ends : ℕ → Bool) (text pattern : List ℕ) (a b : ℕ) → a ≤ b → b ≤ length text → IsTrue (ends b)
    → Matches pattern (slice_range text a b) → Leads ends text pattern a
Leads-from_matches ends text [] a b ab bt ended matched =
    subst (λ k. IsTrue (ends k)) (sym (range_from_nil text a b ab bt matched)) ended
Leads-from_matches ends text (c ∷ rest) a b ab bt ended matched =
    elim (bool_cases (c == star)) [
      | inl starred ↦
          let suffix : SomeSuffix (Matches rest) (slice_range text a b) =
          subst (λ s. MatchesCase c rest (slice_range text a b) s (c == question)) starred matched in
          let room : a + suffix.0 ≤ b = omega (arith, suffix.1, length-range text a b ab bt) in
          let same : suffix.0 ≡ a + suffix.0 - a = omega arith in
          let part =
          ap (λ n. drop n (slice_range text a b)) same ∙ drop-range text a (a + suffix.0) b (omega arith) room in
          let next =
          Leads-from_matches ends text rest (a + suffix.0) b room bt ended (subst (Matches rest) part suffix.2) in
          subst (LeadsCase ends text c rest a) (sym starred) (a + suffix.0, omega arith, omega arith, next)
      | inr plain ↦
          let step : MatchesCase c rest (slice_range text a b) false (c == question) =
          subst (λ s. MatchesCase c rest (slice_range text a b) s (c == question)) plain matched in
          subst (LeadsCase ends text c rest a) (sym plain) (
          elim (cases_lt a b) [
            | inl more ↦
                let part = range_more text a b c more bt in
                let rest_of : Matches rest (slice_range text (a + 1) b) → Leads ends text rest (a + 1) =
                Leads-from_matches ends text rest (a + 1) b (omega arith) bt ended in
                elim (bool_cases (c == question)) [
                  | inl any ↦
                      let tail : Matches rest (slice_range text (a + 1) b) = subst (AfterAny (Matches rest)) part
                      (subst (MatchesCase c rest (slice_range text a b) false) any step) in
                      let e : question ≡ c = sym (eqb-true c question any) in
                      (subst (λ w. TakesAt text w a) e (TakesAt-question text a (omega arith)), rest_of tail)
                  | inr same ↦
                      let tail : (get_or text a c ≡ c) × Matches rest (slice_range text (a + 1) b) =
                      subst (After c (Matches rest)) part
                      (subst (MatchesCase c rest (slice_range text a b) false) same step) in (
                        TakesAt-found text c a (slice_get-get_or text a c (omega arith) ∙ ap Some tail.0),
                        rest_of tail.1,
                      )
                ]
            | inr none ↦
                let e : b ≡ a = omega arith in
                let empty = subst (λ k. slice_range text a k ≡ []) (sym e) (range_none text a) in
                absurd
                (nothing c rest (c == question) (subst (λ t. MatchesCase c rest t false (c == question)) empty step))
          ])
    ]
