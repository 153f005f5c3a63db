use Rattle.std.proofs.Common.{◌≡◌, ◌∙◌, Some, None, ap, position, slice_set, sym}
use Rattle.std.proofs.lemmas.Result.{IfOk-weaker}
use Rattle.mx_rule.specs.Editing.{is_own_with, put_by_itself, put_first_own, without}
use Rattle.mx_edit.proofs.PlaceLemmas.{put_by_itself-new, put_by_itself-there}
use Rattle.mx_edit.proofs.lists.put_by_itself.Goals as goal

pub returns-in-Some : goal.returns-in-Some
returns-in-Some c =
    let new = c.args.new in
    let rules = c.args.rules.now in
    let at : position (is_own_with c.args.kind new.id) rules ≡ Some c.in-Some.place =
    ap (λ id. position (is_own_with c.args.kind id) rules) (sym c.id.ensures) ∙ sym c.in-Some.ensures.place in
    IfOk-weaker c.put_at.result (λ list. list.items ≡ slice_set rules c.in-Some.place new)
    (λ list. list.items ≡ put_by_itself c.args.kind new rules)
    (λ list is. is ∙ put_by_itself-there c.args.kind new rules c.in-Some.place at) c.put_at.ensures

pub returns-in-None : goal.returns-in-None
returns-in-None c =
    let new = c.args.new in
    let rules = c.args.rules.now in
    let none : position (is_own_with c.args.kind new.id) rules ≡ None =
    ap (λ id. position (is_own_with c.args.kind id) rules) (sym c.id.ensures) ∙ sym c.in-None.ensures.place in
    IfOk-weaker c.put_first_own.result (λ list. list.items ≡ put_first_own c.args.kind new (without new.id rules))
    (λ list. list.items ≡ put_by_itself c.args.kind new rules)
    (λ list is. is ∙ put_by_itself-new c.args.kind new rules none) c.put_first_own.ensures
