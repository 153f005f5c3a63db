use Rattle.std.proofs.Common.{◌≡◌, ◌∙◌, List, true, subst, sym}
use Rattle.mx_rule.specs.declared.list_change.ListChange.TheVariants.{Replace}
use Rattle.mx_rule.specs.Editing.{edited_list, flag_of, put_rule, with_put}
use Rattle.mx_rule.specs.Rule.{PushRule}
use Rattle.mx_rule.specs.Ruleset.{are_rules_of, rules_of_kind}
use Rattle.mx_rule.proofs.EditLemmas.{AreRules-from}
use Rattle.mx_rule.proofs.EditedLemmas.{edited_list-are}
use Rattle.mx_edit.specs.Planning.{put_of}
use Rattle.mx_edit.proofs.PlanLemmas.{IsPlanOf-by}
use Rattle.mx_edit.proofs.put.plan_put.Goals as goal

pub of-requires : goal.of-requires
of-requires c =
    let rules = c.args.rules.now in
    let put = c.args.put.now in
    let kind = put.kind in
    let id = put.id.now in
    let list : List PushRule = rules_of_kind kind rules in
    let none = c.in_ok-criterion.ensures.0 in
    let list_is : c.rules-list.result.now ≡ list = c.rules-list.ensures.rules in
    let rule_is = c.in_ok-rule.ensures
    ∙ (λ j. put_rule id (flag_of id (list_is j)) put.actions.now.items (c.in_ok-criterion.ensures.1 j)) in
    let made : c.in_ok-list.list.items ≡ edited_list (put_of put) list =
    c.in_ok-list.ensures ∙ (λ j. with_put kind (rule_is j) put.before.now put.after.now (list_is j)) in
    let P : List PushRule → Type 0 = λ rules. are_rules_of kind rules ≡ true in
    let are : are_rules_of kind list ≡ true = subst P list_is c.rules-list.ensures.ordered in
    (AreRules-from kind c.in_ok-list.list.items
    (subst P (sym made) (edited_list-are rules (put_of put) none are))).distinct

pub returns : goal.returns
returns c =
    let rules = c.args.rules.now in
    let put = c.args.put.now in
    let kind = put.kind in
    let id = put.id.now in
    let list : List PushRule = rules_of_kind kind rules in
    let none = c.in_ok-criterion.ensures.0 in
    let list_is : c.rules-list.result.now ≡ list = c.rules-list.ensures.rules in
    let rule_is = c.in_ok-rule.ensures
    ∙ (λ j. put_rule id (flag_of id (list_is j)) put.actions.now.items (c.in_ok-criterion.ensures.1 j)) in
    let made : c.in_ok-list.list.items ≡ edited_list (put_of put) list =
    c.in_ok-list.ensures ∙ (λ j. with_put kind (rule_is j) put.before.now put.after.now (list_is j)) in
    let P : List PushRule → Type 0 = λ rules. are_rules_of kind rules ≡ true in
    let are : are_rules_of kind list ≡ true = subst P list_is c.rules-list.ensures.ordered in
    (none, IsPlanOf-by rules (put_of put) (Replace c.in_ok-list-2.list) none are (c.in_ok-list-2.ensures ∙ made))
