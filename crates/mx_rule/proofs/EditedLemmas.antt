-- What an edit that isn't refused makes of a ruleset is one.
use Rattle.std.proofs.Common.{◌≡◌, ℕ, Bool, true, false, not, cond, List, codes, Option, Some, None, refl, sym, ap, ◌∙◌}
use Rattle.std.specs.List.{list_any}
use Rattle.std.specs.Option.{option_map_or}
use Rattle.std.specs.Str.{bytes_eq}
use Rattle.std.proofs.lemmas.Bool.{and_parts, cond_both, false_from_ne_true, not-false, not-true, or_parts, true≢false}
use Rattle.mx_json.specs.declared.value.Json.{Json}
use Rattle.mx_json.specs.declared.value.JsonList.{JsonList}
use Rattle.mx_json.specs.Ids.{begins_with}
use Rattle.mx_rule.specs.declared.criterion.Criterion.{Criterion}
use Rattle.mx_rule.specs.declared.edit.Edit.{Edit}
use Rattle.mx_rule.specs.declared.edit.Edit.TheVariants.{Put, Delete, Enable, SetActions}
use Rattle.mx_rule.specs.declared.edit.EditRefusal.TheVariants.{RuleReserved, BadRule, AnchorUnknown}
use Rattle.mx_rule.specs.declared.edit.Part.{Part}
use Rattle.mx_rule.specs.declared.kind.Kind.{Kind}
use Rattle.mx_rule.specs.declared.kind.Kind.TheVariants.{Override, Content, Room, Sender, Underride}
use Rattle.mx_json.specs.Path.{full_stop}
use Rattle.mx_rule.specs.Editing.{criterion_of, edited, edited_kind, edited_list, flag_of, is_anchor, is_anchored}
use Rattle.mx_rule.specs.Editing.{is_own_with, is_reserved, is_unfit, put_rule, refusal_of_edit, refusal_of_place}
use Rattle.mx_rule.specs.Editing.{with_actions, with_enabled, with_list, with_put, without, wrong_part}
use Rattle.mx_rule.specs.Rule.{PushRule}
use Rattle.mx_rule.specs.Ruleset.{PushRuleset, are_rules_of, fits, is_master, rank_of, rules_of_kind, IsRuleset}
use Rattle.mx_rule.proofs.EditLemmas.{are_rules_of-by, AreRules, AreRules-from, fresh-without, map-AreRules}
use Rattle.mx_rule.proofs.EditLemmas.{named-Leaves, put_after-AreRules, put_before-AreRules, put_first-AreRules}
use Rattle.mx_rule.proofs.EditLemmas.{put_over-AreRules, same-text, there-without, with_actions-Leaves}
use Rattle.mx_rule.proofs.EditLemmas.{with_enabled-Leaves, without-AreRules}

-- ---- the rule that a put makes

abbrev master : List ℕ
master = codes ".m.rule.master"

-- what isn't reserved isn't the master's id
not-master : (kind : Kind) (rule : PushRule) → is_reserved rule.id ≡ false → is_master kind rule ≡ false
not-master Override rule free =
    false_from_ne_true (bytes_eq rule.id master) (λ is.
    let begins : is_reserved rule.id ≡ true = ap (begins_with full_stop) (same-text rule.id master is) in
    true≢false (sym begins ∙ free))
not-master Content rule free = refl
not-master Room rule free = refl
not-master Sender rule free = refl
not-master Underride rule free = refl

-- a rule of the user's stands behind the master, and before the predefined rules
pub rank-put_rule : (kind : Kind) (id : List ℕ) (enabled : Bool) (actions : List Json) (criterion : Criterion)
    → is_reserved id ≡ false → rank_of kind (put_rule id enabled actions criterion) ≡ 1
rank-put_rule kind id enabled actions criterion free =
    rw (not-master kind (put_rule id enabled actions criterion) free) refl

pub fits-criterion_of : (kind : Kind) (pattern : Option (List ℕ)) (conditions : Option JsonList)
    → fits kind (criterion_of kind pattern conditions) ≡ true
fits-criterion_of Override pattern conditions = refl
fits-criterion_of Content pattern conditions = refl
fits-criterion_of Room pattern conditions = refl
fits-criterion_of Sender pattern conditions = refl
fits-criterion_of Underride pattern conditions = refl

-- ---- the rules of its kind

module _ (kind : Kind) (new : PushRule) (own : rank_of kind new ≡ 1) (fit : fits kind new.criterion ≡ true)
    (rules : List PushRule) (are : AreRules kind rules) where
  beside : (anchor : List ℕ) → is_anchor kind new.id rules anchor ≡ true
      → AreRules kind (with_put kind new (Some anchor) None rules)
      × AreRules kind (with_put kind new None (Some anchor) rules)
  beside anchor is =
      let parts = and_parts (not (bytes_eq anchor new.id)) (list_any (is_own_with kind anchor) rules) is in
      let there = there-without kind anchor new.id rules (not-true _ parts.0) parts.1 in
      let fresh = fresh-without new.id rules in
      let others = without-AreRules kind new.id rules are in (
        put_before-AreRules kind new own fit
            (without new.id rules) fresh others anchor there,
        put_after-AreRules kind new own fit
            (without new.id rules) fresh others anchor there,
      )

  by-itself : AreRules kind (with_put kind new None None rules)
  by-itself =
      cond_both (list_any (is_own_with kind new.id) rules) _ _ (AreRules kind)
      (λ _. put_over-AreRules kind new own fit rules are)
      (λ _. put_first-AreRules kind new own fit (without new.id rules) (fresh-without new.id rules)
      (without-AreRules kind new.id rules are))

  pub with_put-AreRules : (before after : Option (List ℕ)) → is_anchored kind new.id before after rules ≡ true
      → AreRules kind (with_put kind new before after rules)
  with_put-AreRules (Some anchor) after is = (beside anchor is).0
  with_put-AreRules None (Some anchor) is = (beside anchor is).1
  with_put-AreRules None None is = by-itself

-- ---- what it takes that an edit isn't refused

-- a choice that gives none isn't that of the refusal
passed : {A : Type 0} (b : Bool) (refusal : A) (rest : Option A) → cond b (Some refusal) rest ≡ None → (b ≡ false)
    × (rest ≡ None)
passed true refusal rest none = absurd (let e : Some refusal ≡ None = none in cc)
passed false refusal rest none = (refl, none)

pub passed-Put : (rules : PushRuleset) (kind : Kind) (id : List ℕ) (pattern : Option (List ℕ))
    (conditions : Option JsonList)
    (actions : JsonList) (before after : Option (List ℕ))
    → refusal_of_edit rules (Put kind id pattern conditions actions before after) ≡ None
    → (is_unfit id ≡ false) × (wrong_part kind id pattern conditions actions.items ≡ None)
    × (refusal_of_place kind id before after rules ≡ None)
unfolding refusal_of_edit
passed-Put rules kind id pattern conditions actions before after none =
    let parts = passed (is_unfit id) RuleReserved _ none in
    by (wrong_part kind id pattern conditions actions.items) refl parts.0 parts.1
  where
    by : (wrong : Option Part) → wrong_part kind id pattern conditions actions.items ≡ wrong → is_unfit id ≡ false
        → option_map_or (λ wrong. Some (BadRule wrong)) wrong (refusal_of_place kind id before after rules) ≡ None
        → (is_unfit id ≡ false) × (wrong_part kind id pattern conditions actions.items ≡ None)
        × (refusal_of_place kind id before after rules ≡ None)
    by None is fit none = (fit, is, none)
    by (Some wrong) is fit none = absurd (let e : Some (BadRule wrong) ≡ None = none in cc)

-- the rules of its kind are still ones
pub edited_list-are : (rules : PushRuleset) (edit : Edit) → refusal_of_edit rules edit ≡ None
    → are_rules_of (edited_kind edit) (rules_of_kind (edited_kind edit) rules) ≡ true
    → are_rules_of (edited_kind edit) (edited_list edit (rules_of_kind (edited_kind edit) rules)) ≡ true
edited_list-are rules (Put kind id pattern conditions actions before after) none are =
    let parts = passed-Put rules kind id pattern conditions actions before after none in
    let list = rules_of_kind kind rules in
    let free = (or_parts (is_reserved id) _ parts.0).0 in
    let criterion = criterion_of kind pattern conditions in
    let new = put_rule id (flag_of id list) actions.items criterion in
    let anchored = not-false _ (passed (not (is_anchored kind id before after list)) AnchorUnknown _ parts.2).0 in
    are_rules_of-by kind _
    (with_put-AreRules kind new (rank-put_rule kind id (flag_of id list) actions.items criterion free)
    (fits-criterion_of kind pattern conditions) list (AreRules-from kind list are) before after anchored)
edited_list-are rules (Delete kind id) none are =
    are_rules_of-by kind _ (without-AreRules kind id (rules_of_kind kind rules)
    (AreRules-from kind (rules_of_kind kind rules) are))
edited_list-are rules (Enable kind id enabled) none are =
    are_rules_of-by kind _
    (map-AreRules kind _ (named-Leaves kind (with_enabled enabled) (with_enabled-Leaves kind enabled) id)
    (rules_of_kind kind rules) (AreRules-from kind (rules_of_kind kind rules) are))
edited_list-are rules (SetActions kind id actions) none are =
    are_rules_of-by kind _
    (map-AreRules kind _ (named-Leaves kind (with_actions actions.items) (with_actions-Leaves kind actions.items) id)
    (rules_of_kind kind rules) (AreRules-from kind (rules_of_kind kind rules) are))

-- ---- all five lists

-- five lists are a ruleset also where one of them is another of its kind
pub with_list-IsRuleset : (kind : Kind) (list : List PushRule) (rules : PushRuleset) → are_rules_of kind list ≡ true
    → IsRuleset rules → IsRuleset (with_list kind list rules)
with_list-IsRuleset Override list rules are all =
    λ kind. elim kind as (λ kind. are_rules_of kind (rules_of_kind kind (with_list Override list rules)) ≡ true)
    [ Override ↦ are | Content ↦ all Content | Room ↦ all Room | Sender ↦ all Sender | Underride ↦ all Underride ]
with_list-IsRuleset Content list rules are all =
    λ kind. elim kind as (λ kind. are_rules_of kind (rules_of_kind kind (with_list Content list rules)) ≡ true)
    [ Override ↦ all Override | Content ↦ are | Room ↦ all Room | Sender ↦ all Sender | Underride ↦ all Underride ]
with_list-IsRuleset Room list rules are all =
    λ kind. elim kind as (λ kind. are_rules_of kind (rules_of_kind kind (with_list Room list rules)) ≡ true)
    [ Override ↦ all Override | Content ↦ all Content | Room ↦ are | Sender ↦ all Sender | Underride ↦ all Underride ]
with_list-IsRuleset Sender list rules are all =
    λ kind. elim kind as (λ kind. are_rules_of kind (rules_of_kind kind (with_list Sender list rules)) ≡ true)
    [ Override ↦ all Override | Content ↦ all Content | Room ↦ all Room | Sender ↦ are | Underride ↦ all Underride ]
with_list-IsRuleset Underride list rules are all =
    λ kind. elim kind as (λ kind. are_rules_of kind (rules_of_kind kind (with_list Underride list rules)) ≡ true)
    [ Override ↦ all Override | Content ↦ all Content | Room ↦ all Room | Sender ↦ all Sender | Underride ↦ are ]

-- an edit that isn't refused keeps a ruleset one
pub edited-IsRuleset : (rules : PushRuleset) (edit : Edit) → refusal_of_edit rules edit ≡ None → IsRuleset rules
    → IsRuleset (edited rules edit)
unfolding edited
edited-IsRuleset rules edit none all =
    with_list-IsRuleset (edited_kind edit) _ rules (edited_list-are rules edit none (all (edited_kind edit))) all
