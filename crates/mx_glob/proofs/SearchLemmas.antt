-- The search for a name: what a character at the end of a place rules out.
use Rattle.std.proofs.Common.{◌≡◌, ℕ, zero, suc, ◌+◌, ◌-◌, ◌%◌, ◌<◌, ◌≤◌, List, [], ◌∷◌, length, take, drop, replicate}
use Rattle.std.proofs.Common.{slice_get, slice_index, slice_range, get_or, true, Option, Some, None, IsTrue, is_some}
use Rattle.std.proofs.Common.{◌↔◌, inl, inr, refl, sym, ap, ◌∙◌, subst, arith}
use Rattle.std.proofs.lemmas.Bool.{cases_lt}
use Rattle.std.proofs.lemmas.List.{get_or-replicate, ext_get_or}
use Rattle.std.proofs.lemmas.Option.{slice_get-get_or, get_or_from_slice_get}
use Rattle.mx_glob.specs.Automaton.{StandsAt, IsEdged}
use Rattle.mx_glob.specs.Leads.{IsNameAt, IsFirstFrom}
use Rattle.mx_glob.specs.Search.{AreSkips, NoneEnds}
use Rattle.mx_glob.specs.Words.{IsWordAt, HasWord}
use Rattle.mx_glob.proofs.MatchLemmas.{length-range}

slice_get-take : (xs : List ℕ) (n i : ℕ) → i < n → slice_get (take n xs) i ≡ slice_get xs i
slice_get-take xs zero i h = absurd (omega arith)
slice_get-take [] (suc n) i h = refl
slice_get-take (x ∷ xs) (suc n) zero h = refl
slice_get-take (x ∷ xs) (suc n) (suc i) h = slice_get-take xs n i (omega arith)

slice_get-drop : (xs : List ℕ) (n i : ℕ) → slice_get (drop n xs) i ≡ slice_get xs (n + i)
slice_get-drop xs zero i = ap (slice_get xs) (omega arith)
slice_get-drop [] (suc n) i = refl
slice_get-drop (x ∷ xs) (suc n) i =
    let e : suc n + i ≡ suc (n + i) = omega arith in
    slice_get-drop xs n i ∙ ap (slice_get (x ∷ xs)) (sym e)

-- a name at a place has its characters there
pub IsNameAt-character : (text name : List ℕ) (k i : ℕ) → IsNameAt text name k → i < length name
    → slice_get name i ≡ slice_get text (k + i)
IsNameAt-character text name k i here h =
    let e : i < k + length name - k = omega arith in
    ap (λ s. slice_get s i) (sym here.same) ∙ slice_get-take (drop k text) (k + length name - k) i e
    ∙ slice_get-drop text k i

pub HasWord-name : (text name : List ℕ) → HasWord name text
    → (a : ℕ) × (a + length name ≤ length text) × IsNameAt text name a
HasWord-name text name found =
    let word = found.2 in
    let long = sym (length-range text found.0 found.1 word.in_order word.in_text) ∙ ap length found.3 in
    let e : found.1 ≡ found.0 + length name = omega (arith, long, word.in_order) in
    let same = subst (λ b. slice_range text found.0 b ≡ name) e found.3 in
    let at_place = subst (IsWordAt text found.0) e word in
    (found.0, omega (arith, at_place.in_text), record { word = at_place; same = same })

-- what a skip rules out
pub skip_rules_out : (text name skips : List ℕ) (end c steps : ℕ) → 0 < length name → AreSkips name skips
    → slice_get text end ≡ Some c → steps ≡ slice_index skips (c % 64) → NoneEnds text name (end + 1) (end + steps)
skip_rules_out text name skips end c steps some are at_end e j after before at_j =
    let small : c % 64 < 64 = omega arith in
    let within = are.within (c % 64) small in
    let i : ℕ = end - j in
    let reaches : j + i ≡ end = omega arith in
    let same : slice_get name i ≡ Some c =
    IsNameAt-character text name j i at_j (omega arith) ∙ ap (slice_get text) reaches ∙ at_end in
    let safe = are.safe i c (omega arith) same in
    omega arith

-- two stretches without an end, one after the other
pub NoneEnds-join : (text name : List ℕ) (a b c : ℕ) → NoneEnds text name a b → NoneEnds text name b c
    → NoneEnds text name a c
NoneEnds-join text name a b c first next j from past at_j =
    elim (cases_lt (j + (length name - 1)) b) [
      | inl before ↦ first j from before at_j
      | inr after ↦ next j after past at_j
    ]

-- a text without an end has no such word
pub HasWord-none : (text name : List ℕ) (past : ℕ) → 0 < length name → length text ≤ past → NoneEnds text name 0 past
    → HasWord name text → ⊥
HasWord-none text name past some room none found =
    let name_at = HasWord-name text name found in
    none name_at.0 (omega arith) (omega (arith, name_at.1)) name_at.2

-- a table with one skip for all classes
pub same_skips : (skips : List ℕ) (most i : ℕ) → skips ≡ replicate 64 most → i < 64 → slice_index skips i ≡ most
same_skips skips most i e h = ap (λ s. slice_index s i) e ∙ get_or-replicate 64 i most 0 h

-- all that a step has ruled out: up to its end, there, and by the skip
pub step_rules_out : (text name : List ℕ) (from end skip place : ℕ) → 0 < length name → place + length name ≡ end + 1
    → NoneEnds text name 0 from → NoneEnds text name from end → (IsNameAt text name place → ⊥)
    → NoneEnds text name (end + 1) (end + skip) → NoneEnds text name 0 (end + skip)
step_rules_out text name from end skip place some there before between here skipped =
    NoneEnds-join text name 0 end (end + skip) (NoneEnds-join text name 0 from end before between) (
    λ j on past at_j.
    elim (cases_lt end (j + (length name - 1))) [
      | inl far ↦ skipped j (omega arith) past at_j
      | inr near ↦ let at_place : j ≡ place = omega arith in here (subst (IsNameAt text name) at_place at_j)
    ])

pub stands_same : (text name : List ℕ) (k : ℕ) → k + length name ≤ length text → StandsAt text name (length name) k
    → slice_range text k (k + length name) ≡ name
stands_same text name k room stands =
    let long : length (slice_range text k (k + length name)) ≡ length name =
    let e = length-range text k (k + length name) (omega arith) room in omega (arith, e) in
    ext_get_or 0 (slice_range text k (k + length name)) name long (
    λ i h.
    let small : i < length name = omega (arith, long) in
    let inner : i < k + length name - k = omega arith in
    let same : slice_get (slice_range text k (k + length name)) i ≡ slice_get name i =
    slice_get-take (drop k text) (k + length name - k) i inner ∙ slice_get-drop text k i ∙ stands i small in
    get_or_from_slice_get (slice_range text k (k + length name)) i (get_or name i 0) 0
    (same ∙ slice_get-get_or name i 0 small))

pub IsEdged-from_name : (text name : List ℕ) (k : ℕ) → IsNameAt text name k → IsEdged text name true true k
IsEdged-from_name text name k here = record {
  in_text = here.word.in_text;
  stands = λ i h. sym (IsNameAt-character text name k i here h);
  begins_word = λ _. here.word.begins;
  ends_word = λ _. here.word.ends;
}

HasWord-from_edged : (text name : List ℕ) (k : ℕ) → IsEdged text name true true k → HasWord name text
HasWord-from_edged text name k edged =
    let word : IsWordAt text k (k + length name) = record {
      in_order = omega arith;
      in_text = edged.in_text;
      begins = edged.begins_word refl;
      ends = edged.ends_word refl;
    } in
    (k, k + length name, word, stands_same text name k edged.in_text edged.stands)

-- a search from a place before which there is none
pub HasWord-found : (text name : List ℕ) (place : ℕ) (found : Option ℕ)
    → ((j : ℕ) → j < place → IsNameAt text name j → ⊥) → IsFirstFrom (IsEdged text name true true) place found
    → IsTrue (is_some found) ↔ HasWord name text
HasWord-found text name place None none first = (
  λ never. cc,
  λ word.
      let there = HasWord-name text name word in
      elim (cases_lt there.0 place) [
        | inl before ↦ absurd (none there.0 before there.2)
        | inr later ↦ absurd (first there.0 later (IsEdged-from_name text name there.0 there.2))
      ],
)
HasWord-found text name place (Some k) none first = (λ yes. HasWord-from_edged text name k first.1, λ word. refl)
