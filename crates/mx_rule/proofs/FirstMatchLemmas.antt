-- The first match among rules in order, part by part.
use Rattle.std.proofs.Common.{◌≡◌, ℕ, ◌+◌, ◌<◌, ◌≤◌, length, get_or, drop, List, [], ◌∷◌, ◌++◌, Option, Some, None, inl}
use Rattle.std.proofs.Common.{inr, refl, sym, subst}
use Rattle.std.proofs.lemmas.List.{at_drop_more, at_drop_all}
use Rattle.std.specs.List.{flat_map}
use Rattle.mx_cond.specs.Facts.{EventFacts}
use Rattle.mx_rule.specs.declared.kind.Kind.{Kind}
use Rattle.mx_rule.specs.declared.kind.RulePlace.{RulePlace}
use Rattle.mx_rule.specs.Rule.{PushRule, MayDecide}
use Rattle.mx_rule.specs.Ruleset.{Placed, IsFirstMatch, placed_from}

-- where none of the first rules decides, one of the others does, or none
pub IsFirstMatch-passed : (facts : EventFacts) (xs ys : List Placed) (found : Option RulePlace)
    → IsFirstMatch facts xs None → IsFirstMatch facts ys found → IsFirstMatch facts (xs ++ ys) found
IsFirstMatch-passed facts [] ys found none later = later
IsFirstMatch-passed facts (x ∷ xs) ys found none later =
    elim none [
      | inl w ↦ absurd (let e : None ≡ Some x.place = w.1 in cc)
      | inr w ↦ inr (w.0, IsFirstMatch-passed facts xs ys found w.1 later)
    ]

-- a rule that decides among the first decides among all
pub IsFirstMatch-found : (facts : EventFacts) (xs ys : List Placed) (place : RulePlace)
    → IsFirstMatch facts xs (Some place) → IsFirstMatch facts (xs ++ ys) (Some place)
IsFirstMatch-found facts [] ys place found = absurd (let e : Some place ≡ None = found in cc)
IsFirstMatch-found facts (x ∷ xs) ys place found =
    elim found [
      | inl w ↦ inl w
      | inr w ↦ inr (w.0, IsFirstMatch-found facts xs ys place w.1)
    ]

-- ---- the rules of a kind, from a place on

module _ (facts : EventFacts) (kind : Kind) (rules : List PushRule) where
  -- which of the rules from here on decides
  abbrev pub IsFirstFrom : ℕ → Option RulePlace → Type 0
  IsFirstFrom k found = IsFirstMatch facts (placed_from kind k (drop k rules)) found

  pub IsFirstFrom-passed : (i : ℕ) → (rule : PushRule) → i < length rules → rule ≡ get_or rules i rule
      → ¬ MayDecide rule facts
      → (found : Option RulePlace) → IsFirstFrom (i + 1) found → IsFirstFrom i found
  IsFirstFrom-passed i rule within is not found later =
      let P : List Placed → Type 0 = λ xs. IsFirstMatch facts xs found in
      subst P (sym (at_drop_more (placed_from kind i) rules i rule within)) (rw (← is) (inr (not, later)))

  pub IsFirstFrom-found : (i : ℕ) → (rule : PushRule) → i < length rules → rule ≡ get_or rules i rule
      → MayDecide rule facts
      → IsFirstFrom i (Some (record { kind = kind; index = i }))
  IsFirstFrom-found i rule within is may =
      let P : List Placed → Type 0 = λ xs. IsFirstMatch facts xs (Some (record { kind = kind; index = i })) in
      subst P (sym (at_drop_more (placed_from kind i) rules i rule within)) (rw (← is) (inl (may, refl)))

  pub IsFirstFrom-over : (i : ℕ) → length rules ≤ i → IsFirstFrom i None
  IsFirstFrom-over i over =
      let P : List Placed → Type 0 = λ xs. IsFirstMatch facts xs None in
      subst P (sym (at_drop_all (placed_from kind i) rules i over)) refl

-- ---- the rules of several kinds

module _ (facts : EventFacts) (rules_of : Kind → List Placed) (kinds : List Kind) where
  -- which of the rules of the kinds from here on decides
  abbrev pub IsFirstOf : ℕ → Option RulePlace → Type 0
  IsFirstOf k found = IsFirstMatch facts (flat_map rules_of (drop k kinds)) found

  pub IsFirstOf-passed : (i : ℕ) (d : Kind) → i < length kinds → IsFirstMatch facts (rules_of (get_or kinds i d)) None
      → (found : Option RulePlace) → IsFirstOf (i + 1) found → IsFirstOf i found
  IsFirstOf-passed i d within none found later =
      let P : List Placed → Type 0 = λ xs. IsFirstMatch facts xs found in
      subst P (sym (at_drop_more (flat_map rules_of) kinds i d within))
      (IsFirstMatch-passed facts (rules_of (get_or kinds i d))
      (flat_map rules_of (drop (i + 1) kinds)) found none later)

  pub IsFirstOf-found : (i : ℕ) (d : Kind) → i < length kinds
      → (place : RulePlace) → IsFirstMatch facts (rules_of (get_or kinds i d)) (Some place) → IsFirstOf i (Some place)
  IsFirstOf-found i d within place found =
      let P : List Placed → Type 0 = λ xs. IsFirstMatch facts xs (Some place) in
      subst P (sym (at_drop_more (flat_map rules_of) kinds i d within))
      (IsFirstMatch-found facts (rules_of (get_or kinds i d)) (flat_map rules_of (drop (i + 1) kinds)) place found)

  pub IsFirstOf-over : (i : ℕ) → length kinds ≤ i → IsFirstOf i None
  IsFirstOf-over i over =
      let P : List Placed → Type 0 = λ xs. IsFirstMatch facts xs None in
      subst P (sym (at_drop_all (flat_map rules_of) kinds i over)) refl
