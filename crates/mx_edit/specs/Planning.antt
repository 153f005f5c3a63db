-- What a plan of an edit does, and how an edit is answered: ours.
use Rattle.std.specs.Prelude.{◌≡◌, ℕ, Bool, true, not, if◌then◌else◌, List, Option, Some, None, option_map, Result}
use Rattle.std.specs.Prelude.{MatchResult, ◌⊎◌}
use Rattle.std.specs.List.{list_all}
use Rattle.mx_cond.specs.Condition.{is_condition}
use Rattle.mx_json.specs.declared.value.Json.{Json}
use Rattle.mx_json.specs.declared.value.JsonList.{JsonList}
use Rattle.mx_rule.specs.declared.criterion.Criterion.{Criterion}
use Rattle.mx_rule.specs.declared.edit.Edit.{Edit}
use Rattle.mx_rule.specs.declared.edit.EditRefusal.{EditRefusal}
use Rattle.mx_rule.specs.declared.edit.EditRefusal.TheVariants.{RuleReserved, BadRule}
use Rattle.mx_rule.specs.declared.edit.Part.TheVariants as part
use Rattle.mx_rule.specs.declared.kind.Kind.{Kind}
use Rattle.mx_rule.specs.Editing.{are_actions, are_conditions, are_conditions_for, list_changed, criterion_of, edited}
use Rattle.mx_rule.specs.Editing.{is_id_for, is_pattern_for, is_unfit, is_valid_edit, with_list}
use Rattle.mx_rule.specs.Rule.{PushRule}
use Rattle.mx_rule.specs.Ruleset.{PushRuleset, are_rules_of, rules_of_kind}
use Rattle.mx_edit.specs.declared.error.EditError.{EditError}
use Rattle.mx_edit.specs.declared.error.EditError.TheVariants.{Refused, OutOfMemory}
use Rattle.mx_edit.specs.declared.plan.EditPlan.{EditPlan}
use Rattle.mx_edit.specs.declared.put.Put.{Put}

-- ---- plans

-- what a plan makes of the rules of its kind
abbrev pub planned_list : EditPlan → PushRuleset → List PushRule
planned_list plan rules = list_changed plan.change (rules_of_kind plan.kind rules)

-- what a plan makes of a user's rules
unfoldable pub planned : EditPlan → PushRuleset → PushRuleset
planned plan rules = with_list plan.kind (planned_list plan rules) rules

-- the plan was made for these rules: what it makes of them are rules again
unfoldable pub is_made_for : PushRuleset → EditPlan → Bool
is_made_for rules plan = are_rules_of plan.kind (planned_list plan rules)

-- this is the plan of this edit of these rules
abbrev pub IsPlanOf : Edit → PushRuleset → EditPlan → Type 0
IsPlanOf edit rules plan = (is_made_for rules plan ≡ true) × (planned plan rules ≡ edited rules edit)

-- ---- answers

-- an error says that there was no memory, or it is this refusal
abbrev pub Tells : Option EditRefusal → EditError → Type 0
Tells refusal error = (option_map Refused refusal ≡ Some error) ⊎ (error ≡ OutOfMemory)

-- it is refused exactly so, unless there was no memory, and else gives such a value; for private clauses
abbrev pub Tries : {A : Type 0} → Option EditRefusal → (A → Type 0) → Result A EditError → Type 0
Tries refusal P result = MatchResult result (λ value. (refusal ≡ None) × P value) (Tells refusal)

-- ---- the refusals of a put, step by step; for private clauses

-- why a rule of this kind can't have this id
abbrev pub refusal_of_id : Kind → List ℕ → Option EditRefusal
refusal_of_id kind id =
    if is_unfit id then Some RuleReserved else (if not (is_id_for kind id) then Some (BadRule part.RuleId) else None)

-- why a rule of this kind can't ask this
abbrev pub refusal_of_criterion : Kind → Option (List ℕ) → Option JsonList → Option EditRefusal
refusal_of_criterion kind pattern conditions =
    if not (is_pattern_for kind pattern) then Some (BadRule part.Pattern)
    else (if not (are_conditions_for kind conditions) then Some (BadRule part.Conditions) else None)

-- conditions are refused unless this holds
abbrev pub refusal_unless : Bool → Option EditRefusal
refusal_unless holds = if not holds then Some (BadRule part.Conditions) else None

-- why not each of these values can be a condition
abbrev pub refusal_of_each : List Json → Option EditRefusal
refusal_of_each given = refusal_unless (list_all is_condition given)

-- why these can't be the conditions of a rule
abbrev pub refusal_of_conditions : List Json → Option EditRefusal
refusal_of_conditions given = refusal_unless (are_conditions given)

-- why these can't be the actions of a rule
abbrev pub refusal_of_actions : List Json → Option EditRefusal
refusal_of_actions given = if not (are_actions given) then Some (BadRule part.Actions) else None

-- ---- a put; for private clauses

-- the edit that a put is
abbrev pub put_of : Put → Edit
put_of put =
    Edit.Put put.kind put.id.now put.pattern.now put.conditions.now put.actions.now put.before.now put.after.now

-- what a rule asks that is put so
abbrev pub criterion_in : Put → Criterion
criterion_in put = criterion_of put.kind put.pattern.now put.conditions.now

-- the values that a put holds are valid
abbrev pub is_valid_put : Put → Bool
is_valid_put put = is_valid_edit (put_of put)
