use Rattle.std.proofs.Common.{◌≡◌, [], ◌∷◌, codes, IfOk, sym, subst}
use Rattle.mx_rule.specs.declared.edit.Edit.{Edit}
use Rattle.mx_records.specs.declared.input.Input.TheVariants.{Edit as EditInput}
use Rattle.mx_records.specs.Normal.{kind_text, list_field, list_if_given, normal_of, text_field, text_if_given}
use Rattle.mx_records.proofs.GivenLemmas.{joined}
use Rattle.mx_records.proofs.normal.edit_value.Goals as goal

pub returns-in_ok-object-in-Put : goal.returns-in_ok-object-in-Put
returns-in_ok-object-in-Put c =
    let put = c.in-Put in
    subst (λ (edit : Edit). IfOk c.put_value.result (λ json. json ≡ normal_of (EditInput c.args.user.now edit)))
    (sym put.is)
    (joined
    (list_field (codes "actions") put.actions ∷ text_if_given (codes "after") put.after
    ∷ text_if_given (codes "before") put.before ∷ text_field (codes "cmd") (codes "rule_put") ∷ [])
    (list_if_given (codes "conditions") put.conditions ∷ text_field (codes "kind") (kind_text put.kind)
    ∷ text_if_given (codes "pattern") put.pattern ∷ text_field (codes "rule_id") put.rule_id
    ∷ text_field (codes "user") c.args.user.now ∷ [])
    _ _ c.in_ok-object-in-Put.ensures c.put_value.ensures)
