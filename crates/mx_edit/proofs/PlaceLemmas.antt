-- To put a rule beside or over another is to insert it at, or to set, the place that a search finds.
use Rattle.std.proofs.Common.{◌≡◌, ℕ, ◌+◌, add-one, Bool, true, false, cond, List, [], ◌∷◌, length, insert, position}
use Rattle.std.proofs.Common.{slice_set, Option, Some, None, option_map, unwrap_or, is_some, refl, sym, ap, ◌∙◌}
use Rattle.std.specs.Option.{option_map_or}
use Rattle.std.proofs.lemmas.Bool.{cond-false, cond-true}
use Rattle.mx_rule.specs.declared.kind.Kind.{Kind}
use Rattle.mx_rule.specs.Editing.{is_own_with, put_after, put_before, put_by_itself, put_first_own, put_over, without}
use Rattle.mx_rule.specs.Rule.{PushRule}
use Rattle.mx_rule.proofs.ChangeLemmas.{found-at, here, is_some-position, later, position-cons}

module _ (test : PushRule → Bool) (new : PushRule) where
  pub put_before-insert : (rules : List PushRule)
      → put_before test new rules ≡ insert rules (unwrap_or (position test rules) (length rules)) new
  put_before-insert [] = refl
  put_before-insert (rule ∷ rules) =
      by (test rule) (position test rules) (put_before-insert rules)
      ∙ ap (λ r. insert (rule ∷ rules) (unwrap_or r (length (rule ∷ rules))) new) (sym (position-cons test rule rules))
    where
      by : (b : Bool) (r : Option ℕ) → put_before test new rules ≡ insert rules (unwrap_or r (length rules)) new
          → cond b (new ∷ rule ∷ rules) (rule ∷ put_before test new rules)
          ≡ insert (rule ∷ rules) (unwrap_or (cond b (Some 0) (option_map (λ i. i + 1) r)) (length (rule ∷ rules))) new
      by true r is = refl
      by false None is = ap (λ ys. rule ∷ ys) is
      by false (Some k) is = ap (λ ys. rule ∷ ys) is ∙ ap (λ i. insert (rule ∷ rules) i new) (sym (add-one k))

  pub put_after-insert : (rules : List PushRule)
      → put_after test new rules ≡ insert rules (option_map_or (λ i. i + 1) (position test rules) (length rules)) new
  put_after-insert [] = refl
  put_after-insert (rule ∷ rules) =
      by (test rule) (position test rules) (put_after-insert rules)
      ∙ ap (λ r. insert (rule ∷ rules) (option_map_or (λ i. i + 1) r (length (rule ∷ rules))) new)
      (sym (position-cons test rule rules))
    where
      by : (b : Bool) (r : Option ℕ) → put_after test new rules
          ≡ insert rules (option_map_or (λ i. i + 1) r (length rules)) new
          → cond b (rule ∷ new ∷ rules) (rule ∷ put_after test new rules)
          ≡ insert (rule ∷ rules) (option_map_or (λ i. i + 1) (cond b (Some 0) (option_map (λ i. i + 1) r))
          (length (rule ∷ rules))) new
      by true r is = refl
      by false None is = ap (λ ys. rule ∷ ys) is
      by false (Some k) is = ap (λ ys. rule ∷ ys) is ∙ ap (λ i. insert (rule ∷ rules) i new) (sym (add-one (k + 1)))

  pub put_over-set : (rules : List PushRule) (i : ℕ) → position test rules ≡ Some i → put_over test new rules
      ≡ slice_set rules i new
  put_over-set [] i is = absurd (let e : None ≡ Some i = is in cc)
  put_over-set (rule ∷ rules) i is =
      let rest = λ (k : ℕ) (at : position test rules ≡ Some k). put_over-set rules k at in
      elim (found-at test rule rules i is) [
        | here passes at ↦ cond-true _ _ _ passes ∙ ap (λ i. slice_set (rule ∷ rules) i new) (sym at)
        | later k fails found at ↦
            cond-false _ _ _ fails ∙ ap (λ ys. rule ∷ ys) (rest k found)
            ∙ ap (λ i. slice_set (rule ∷ rules) i new) (sym at)
      ]

-- by itself, a rule that is there is put over the old one
pub put_by_itself-there : (kind : Kind) (new : PushRule) (rules : List PushRule) (i : ℕ)
    → position (is_own_with kind new.id) rules ≡ Some i → slice_set rules i new ≡ put_by_itself kind new rules
put_by_itself-there kind new rules i at =
    let there = is_some-position (is_own_with kind new.id) rules ∙ ap is_some at in
    sym (cond-true _ _ _ there ∙ put_over-set (is_own_with kind new.id) new rules i at)

-- and a new one is the first of the user's
pub put_by_itself-new : (kind : Kind) (new : PushRule) (rules : List PushRule)
    → position (is_own_with kind new.id) rules ≡ None → put_first_own kind new (without new.id rules)
    ≡ put_by_itself kind new rules
put_by_itself-new kind new rules none =
    sym (cond-false _ _ _ (is_some-position (is_own_with kind new.id) rules ∙ ap is_some none))
