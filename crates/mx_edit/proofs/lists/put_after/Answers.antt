use Rattle.std.proofs.Common.{◌≡◌, ◌∙◌, ◌+◌, Bool, List, ap, insert, length, position, sym}
use Rattle.std.specs.Option.{option_map_or}
use Rattle.mx_rule.specs.Editing.{is_own_with, without}
use Rattle.mx_rule.specs.Rule.{PushRule}
use Rattle.mx_edit.proofs.PlaceLemmas.{put_after-insert}
use Rattle.mx_edit.proofs.lists.put_after.Goals as goal

pub returns : goal.returns
returns c =
    let test : PushRule → Bool = is_own_with c.args.kind c.args.anchor.now in
    let rest : List PushRule = without c.args.new.id c.args.rules.now in
    let items : c.in_ok-list.list.items ≡ rest = c.in_ok-list.ensures
    ∙ ap (λ id. without id c.args.rules.now) c.id.ensures in
    let list : c.deref.result.now ≡ rest = c.deref.ensures.value ∙ items in
    let at : c.place_past_own-place.result ≡ option_map_or (λ i. i + 1) (position test rest) (length rest) =
    c.place_past_own-place.ensures.place
    ∙ ap (λ rules. option_map_or (λ i. i + 1) (position test rules) (length rules)) list in
    c.in_ok-insert.ensures.items ∙ (λ j. insert (items j) (at j) c.args.new)
    ∙ sym (put_after-insert test c.args.new rest)
