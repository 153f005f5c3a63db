-- Plans and answers: what makes of the rules what an edit makes is its plan, and the first step that refuses is told.
use Rattle.std.proofs.Common.{◌≡◌, ℕ, Bool, true, false, not, cond, List, Option, Some, None, option_map, inl, inr}
use Rattle.std.proofs.Common.{refl, sym, ap, subst, ◌∙◌, Result, Err}
use Rattle.std.specs.Option.{option_map_or, option_or}
use Rattle.mx_json.specs.declared.value.JsonList.{JsonList}
use Rattle.mx_rule.specs.declared.edit.Edit.{Edit}
use Rattle.mx_rule.specs.declared.edit.Edit.TheVariants.{Put, Delete, Enable, SetActions}
use Rattle.mx_rule.specs.declared.edit.EditRefusal.{EditRefusal}
use Rattle.mx_rule.specs.declared.edit.EditRefusal.TheVariants.{RuleReserved, BadRule}
use Rattle.mx_rule.specs.declared.edit.Part.TheVariants as part
use Rattle.mx_rule.specs.declared.kind.Kind.{Kind}
use Rattle.mx_rule.specs.declared.list_change.ListChange.{ListChange}
use Rattle.mx_rule.specs.Editing.{are_actions, are_conditions_for, list_changed, edited, edited_kind, edited_list}
use Rattle.mx_rule.specs.Editing.{is_id_for, is_pattern_for, is_reserved, is_unfit, refusal_of_absence, refusal_of_edit}
use Rattle.mx_rule.specs.Editing.{refusal_of_place, with_list}
use Rattle.mx_rule.specs.Ruleset.{PushRuleset, are_rules_of, rules_of_kind}
use Rattle.mx_rule.proofs.EditedLemmas.{edited_list-are}
use Rattle.mx_edit.specs.declared.error.EditError.{EditError}
use Rattle.mx_edit.specs.declared.error.EditError.TheVariants.{Refused}
use Rattle.mx_edit.specs.Planning.{is_made_for, planned, refusal_of_actions, refusal_of_criterion, refusal_of_id}
use Rattle.mx_edit.specs.Planning.{IsPlanOf, Tells, Tries}

-- ---- plans

-- what makes of its kind's rules what the edit makes of them is its plan
pub IsPlanOf-by : (rules : PushRuleset) (edit : Edit) (change : ListChange) → refusal_of_edit rules edit ≡ None
    → are_rules_of (edited_kind edit) (rules_of_kind (edited_kind edit) rules) ≡ true
    → list_changed change (rules_of_kind (edited_kind edit) rules)
    ≡ edited_list edit (rules_of_kind (edited_kind edit) rules)
    → IsPlanOf edit rules (record { kind = edited_kind edit; change = change })
unfolding is_made_for planned edited
IsPlanOf-by rules edit change none are is = (
  ap (are_rules_of (edited_kind edit)) is
      ∙ edited_list-are rules edit none are,
  ap (λ list. with_list (edited_kind edit) list rules) is,
)

-- ---- refusals step by step

abbrev pub steps_of_put : PushRuleset → Kind → List ℕ → Option (List ℕ) → Option JsonList → JsonList → Option (List ℕ)
    → Option (List ℕ) → Option EditRefusal
steps_of_put rules kind id pattern conditions actions before after =
    option_or (refusal_of_id kind id)
    (option_or (refusal_of_criterion kind pattern conditions)
    (option_or (refusal_of_actions actions.items) (refusal_of_place kind id before after rules)))

in-steps : (unfit is_id is_pattern are_conditions are_actions : Bool) (rest : Option EditRefusal)
    → cond unfit (Some RuleReserved)
    (option_map_or (λ wrong. Some (BadRule wrong))
    (cond (not is_id) (Some part.RuleId)
    (cond (not is_pattern) (Some part.Pattern)
    (cond (not are_conditions) (Some part.Conditions) (cond (not are_actions) (Some part.Actions) None))))
    rest)
    ≡ option_or (cond unfit (Some RuleReserved) (cond (not is_id) (Some (BadRule part.RuleId)) None))
    (option_or (cond (not is_pattern) (Some (BadRule part.Pattern))
    (cond (not are_conditions) (Some (BadRule part.Conditions)) None))
    (option_or (cond (not are_actions) (Some (BadRule part.Actions)) None) rest))
in-steps true is_id is_pattern are_conditions are_actions rest = refl
in-steps false false is_pattern are_conditions are_actions rest = refl
in-steps false true false are_conditions are_actions rest = refl
in-steps false true true false are_actions rest = refl
in-steps false true true true false rest = refl
in-steps false true true true true rest = refl

pub refusal-Put : (rules : PushRuleset) (kind : Kind) (id : List ℕ) (pattern : Option (List ℕ))
    (conditions : Option JsonList)
    (actions : JsonList) (before after : Option (List ℕ))
    → refusal_of_edit rules (Put kind id pattern conditions actions before after)
    ≡ steps_of_put rules kind id pattern conditions actions before after
unfolding refusal_of_edit
refusal-Put rules kind id pattern conditions actions before after =
    in-steps (is_unfit id) (is_id_for kind id) (is_pattern_for kind pattern) (are_conditions_for kind conditions)
    (are_actions actions.items)
    (refusal_of_place kind id before after rules)

pub refusal-SetActions : (rules : PushRuleset) (kind : Kind) (id : List ℕ) (actions : JsonList)
    → refusal_of_edit rules (SetActions kind id actions)
    ≡ option_or (refusal_of_actions actions.items) (refusal_of_absence kind id rules)
unfolding refusal_of_edit
refusal-SetActions rules kind id actions = by (are_actions actions.items)
  where
    by : (b : Bool) → cond (not b) (Some (BadRule part.Actions)) (refusal_of_absence kind id rules)
        ≡ option_or (cond (not b) (Some (BadRule part.Actions)) None) (refusal_of_absence kind id rules)
    by true = refl
    by false = refl

pub refusal-Enable : (rules : PushRuleset) (kind : Kind) (id : List ℕ) (enabled : Bool)
    → refusal_of_edit rules (Enable kind id enabled) ≡ refusal_of_absence kind id rules
unfolding refusal_of_edit
refusal-Enable rules kind id enabled = refl

pub refusal-Delete : (rules : PushRuleset) (kind : Kind) (id : List ℕ) → is_reserved id ≡ false
    → refusal_of_edit rules (Delete kind id) ≡ refusal_of_absence kind id rules
unfolding refusal_of_edit
refusal-Delete rules kind id free = rw free refl

pub refusal-Delete_reserved : (rules : PushRuleset) (kind : Kind) (id : List ℕ) → is_reserved id ≡ true
    → refusal_of_edit rules (Delete kind id) ≡ Some RuleReserved
unfolding refusal_of_edit
refusal-Delete_reserved rules kind id reserved = rw reserved refl

-- a refusal is told
pub told : (refusal : Option EditRefusal) (cause : EditRefusal) (error : EditError) → refusal ≡ Some cause → error
    ≡ Refused cause → Tells refusal error
told refusal cause error is e = inl (ap (option_map Refused) is ∙ ap (λ x. Some x) (sym e))

-- so is one that follows from steps that passed, or doesn't matter to those that follow
pub told-same : (refusal same : Option EditRefusal) (error : EditError) → same ≡ refusal → Tells refusal error
    → Tells same error
told-same refusal same error e tells =
    elim tells [ inl is ↦ inl (ap (option_map Refused) e ∙ is) | inr is ↦ inr is ]

pub told-first : (first rest : Option EditRefusal) (error : EditError) → Tells first error
    → Tells (option_or first rest) error
told-first None rest error tells =
    elim tells [ inl is ↦ absurd (let e : None ≡ Some error = is in cc) | inr is ↦ inr is ]
told-first (Some cause) rest error tells = tells

pub passed-first : (first rest : Option EditRefusal) → first ≡ None → option_or first rest ≡ rest
passed-first None rest none = refl
passed-first (Some cause) rest none = absurd (let e : Some cause ≡ None = none in cc)

-- the error that a call hands on tells the refusal
pub tries-told : {A : Type 0} (refusal : Option EditRefusal) (P : A → Type 0) (result : Result A EditError)
    (error : EditError)
    → result ≡ Err error → Tells refusal error → Tries refusal P result
tries-told refusal P result error is tells = subst (Tries refusal P) (sym is) tells
