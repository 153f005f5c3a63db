-- What a loop over rules or values has still to see, and what one step says of it.
use Rattle.std.proofs.Common.{◌≡◌, ℕ, ◌+◌, ◌-◌, ◌<◌, ◌≤◌, Bool, true, false, cond, ◌&&◌, List, ◌∷◌, length, get_or}
use Rattle.std.proofs.Common.{drop, Some, None, inl, inr, refl, sym, ap, ◌∙◌, arith}
use Rattle.std.specs.List.{list_all}
use Rattle.std.proofs.lemmas.List.{at_drop_more}
use Rattle.mx_rule.specs.declared.kind.Kind.{Kind}
use Rattle.mx_rule.specs.Editing.{flag_of, has_id}
use Rattle.mx_rule.specs.Rule.{PushRule}
use Rattle.mx_rule.specs.Ruleset.{PushRuleset, own_among, rules_of_kind}
use Rattle.mx_edit.specs.declared.error.EditError.{EditError}
use Rattle.mx_edit.specs.Planning.{refusal_unless, Tells}

-- how many rules of a kind the user made
abbrev pub own_of : PushRuleset → Kind → ℕ
own_of rules kind = own_among kind (rules_of_kind kind rules)

-- all that are left pass where this one passes and all after it
pub all_step : {X : Type 0} (p : X → Bool) (xs : List X) (i : ℕ) (x : X) → i < length xs → x ≡ get_or xs i x
    → list_all p (drop i xs) ≡ (p x && list_all p (drop (i + 1) xs))
all_step p xs i x within is =
    at_drop_more (list_all p) xs i x within ∙ ap (λ y. p y && list_all p (drop (i + 1) xs)) (sym is)

pub flag_step : (id : List ℕ) (rules : List PushRule) (i : ℕ) (rule : PushRule) → i < length rules → rule
    ≡ get_or rules i rule
    → flag_of id (drop i rules) ≡ cond (has_id id rule) rule.enabled (flag_of id (drop (i + 1) rules))
flag_step id rules i rule within is =
    at_drop_more (flag_of id) rules i rule within
    ∙ ap (λ (r : PushRule). flag_of id (r ∷ drop (i + 1) rules)) (sym is)
    ∙ by (has_id id rule) refl
  where
    by : (b : Bool) → has_id id rule ≡ b
        → flag_of id (rule ∷ drop (i + 1) rules) ≡ cond (has_id id rule) rule.enabled (flag_of id (drop (i + 1) rules))
    by true e = rw e refl
    by false e = rw e refl

-- a value that is refused refuses all
pub told_step : (holds rest : Bool) (error : EditError) → Tells (refusal_unless holds) error
    → Tells (refusal_unless (holds && rest)) error
told_step false rest error tells = tells
told_step true rest error tells =
    elim tells [ inl is ↦ absurd (let e : None ≡ Some error = is in cc) | inr is ↦ inr is ]

-- ---- rules counted down from those that a user may have made

pub full-before : (total left rest own more : ℕ) → total + left ≡ 1000 + rest → rest ≡ own + more → left ≤ own
    → 1000 ≤ total
full-before total left rest own more counted step enough = omega arith

pub left-after : (total left rest own more : ℕ) → total + left ≡ 1000 + rest → rest ≡ own + more → own < left
    → total + (left - own) ≡ 1000 + more
left-after total left rest own more counted step few = omega arith
