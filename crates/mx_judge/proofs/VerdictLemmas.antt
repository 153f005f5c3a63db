-- The rule at the place of the first match is the one that gives the verdict.
use Rattle.std.proofs.Common.{◌≡◌, ℕ, suc, ◌+◌, Bool, List, [], ◌∷◌, ◌++◌, filter, Option, Some, None, inl, inr, refl}
use Rattle.std.proofs.Common.{sym, ap, ◌∙◌, add-zero, zero-add, slice_get, arith}
use Rattle.std.specs.List.{flat_map}
use Rattle.std.proofs.lemmas.Bool.{cases_Bool}
use Rattle.std.proofs.lemmas.Option.{same_Some}
use Rattle.mx_cond.specs.Facts.{EventFacts}
use Rattle.mx_rule.specs.declared.kind.Kind.{Kind}
use Rattle.mx_rule.specs.declared.kind.RulePlace.{RulePlace}
use Rattle.mx_rule.specs.Actions.{no_notification, verdict_of}
use Rattle.mx_rule.specs.Judged.{IsVerdict}
use Rattle.mx_rule.specs.Rule.{PushRule}
use Rattle.mx_rule.specs.Ruleset.{IsFirstMatch, Placed, PushRuleset, by_importance, flat, is_given, is_master, is_own}
use Rattle.mx_rule.specs.Ruleset.{kinds, placed, placed_from, rules_of_kind}

-- the rule at a place
abbrev rule_at : PushRuleset → RulePlace → Option PushRule
rule_at rules place = slice_get (rules_of_kind place.kind rules) place.index

-- each of these stands at its place
abbrev pub AreInPlace : PushRuleset → List Placed → Type 0
AreInPlace rules [] = Unit {0}
AreInPlace rules (each ∷ others) = (rule_at rules each.place ≡ Some each.rule) × AreInPlace rules others

in_place-append : (rules : PushRuleset) (xs ys : List Placed) → AreInPlace rules xs → AreInPlace rules ys
    → AreInPlace rules (xs ++ ys)
in_place-append rules [] ys a b = b
in_place-append rules (x ∷ xs) ys a b = (a.0, in_place-append rules xs ys a.1 b)

in_place-filter : (rules : PushRuleset) (test : Placed → Bool) (xs : List Placed) → AreInPlace rules xs
    → AreInPlace rules (filter test xs)
in_place-filter rules test [] a = tt
in_place-filter rules test (x ∷ xs) a =
    let rest = in_place-filter rules test xs a.1 in
    elim (cases_Bool (test x)) [ inl passes ↦ rw passes (a.0, rest) | inr fails ↦ rw fails rest ]

in_place-from : (rules : PushRuleset) (kind : Kind) (at : ℕ) (rest : List PushRule)
    → ((j : ℕ) → slice_get rest j ≡ slice_get (rules_of_kind kind rules) (at + j))
    → AreInPlace rules (placed_from kind at rest)
in_place-from rules kind at [] here = tt
in_place-from rules kind at (rule ∷ rest) here =
    let first : Some rule ≡ slice_get (rules_of_kind kind rules) at = rw add-zero at (here 0) in
    let next : (j : ℕ) → slice_get rest j ≡ slice_get (rules_of_kind kind rules) (at + 1 + j) = λ j.
    here (suc j) ∙ ap (slice_get (rules_of_kind kind rules)) (let e : at + suc j ≡ at + 1 + j = omega arith in e) in
    (sym first, in_place-from rules kind (at + 1) rest next)

in_place-kind : (rules : PushRuleset) (kind : Kind) → AreInPlace rules (by_importance kind (placed kind rules))
in_place-kind rules kind =
    let all =
    in_place-from rules kind 0 (rules_of_kind kind rules)
    (λ j. ap (slice_get (rules_of_kind kind rules)) (sym (zero-add j))) in
    in_place-append rules (filter (λ each. is_master kind each.rule) (placed kind rules)) _
    (in_place-filter rules (λ each. is_master kind each.rule) (placed kind rules) all)
    (in_place-append rules (filter (λ each. is_own kind each.rule) (placed kind rules)) _
    (in_place-filter rules (λ each. is_own kind each.rule) (placed kind rules) all)
    (in_place-filter rules (λ each. is_given kind each.rule) (placed kind rules) all))

in_place-kinds : (rules : PushRuleset) (kinds : List Kind)
    → AreInPlace rules (flat_map (λ kind. by_importance kind (placed kind rules)) kinds)
in_place-kinds rules [] = tt
in_place-kinds rules (kind ∷ kinds) =
    in_place-append rules (by_importance kind (placed kind rules)) _ (in_place-kind rules kind)
    (in_place-kinds rules kinds)

pub in_place-flat : (rules : PushRuleset) → AreInPlace rules (flat rules)
unfolding flat
in_place-flat rules = in_place-kinds rules kinds

-- ---- the verdict

pub IsVerdict-none : (facts : EventFacts) (xs : List Placed) → IsFirstMatch facts xs None
    → IsVerdict facts xs no_notification
IsVerdict-none facts [] none = refl
IsVerdict-none facts (x ∷ xs) none =
    elim none [
      | inl w ↦ absurd (let e : None ≡ Some x.place = w.1 in cc)
      | inr w ↦ inr (w.0, IsVerdict-none facts xs w.1)
    ]

pub IsVerdict-found : (facts : EventFacts) (rules : PushRuleset) (place : RulePlace) (rule : PushRule)
    (xs : List Placed)
    → AreInPlace rules xs → Some rule ≡ rule_at rules place → IsFirstMatch facts xs (Some place)
    → IsVerdict facts xs (verdict_of rule.actions)
IsVerdict-found facts rules place rule [] in_place at found = absurd (let e : Some place ≡ None = found in cc)
IsVerdict-found facts rules place rule (x ∷ xs) in_place at found =
    elim found [
      | inl w ↦
          let same : place ≡ x.place = same_Some place x.place w.1 in
          let rule_is : rule ≡ x.rule = same_Some rule x.rule (at ∙ ap (rule_at rules) same ∙ in_place.0) in
          inl (w.0, ap (λ (r : PushRule). verdict_of r.actions) rule_is)
      | inr w ↦ inr (w.0, IsVerdict-found facts rules place rule xs in_place.1 at w.1)
    ]

-- where a rule decides, it stands at its place
pub found-there : (facts : EventFacts) (rules : PushRuleset) (place : RulePlace) (xs : List Placed)
    → AreInPlace rules xs → None ≡ rule_at rules place → IsFirstMatch facts xs (Some place) → ⊥
found-there facts rules place [] in_place at found = (let e : Some place ≡ None = found in cc)
found-there facts rules place (x ∷ xs) in_place at found =
    elim found [
      | inl w ↦
          let same : place ≡ x.place = same_Some place x.place w.1 in
          let never : None ≡ Some x.rule = at ∙ ap (rule_at rules) same ∙ in_place.0 in cc
      | inr w ↦ found-there facts rules place xs in_place.1 at w.1
    ]
