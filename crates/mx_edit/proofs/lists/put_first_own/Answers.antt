use Rattle.std.proofs.Common.{◌≡◌, ◌∙◌, Bool, List, ap, insert, length, not, position, sym, unwrap_or}
use Rattle.mx_rule.specs.Editing.{without}
use Rattle.mx_rule.specs.Rule.{PushRule}
use Rattle.mx_rule.specs.Ruleset.{is_master}
use Rattle.mx_edit.proofs.PlaceLemmas.{put_before-insert}
use Rattle.mx_edit.proofs.lists.put_first_own.Goals as goal

pub returns : goal.returns
returns c =
    let test : PushRule → Bool = λ rule. not (is_master c.args.kind rule) in
    let rest : List PushRule = without c.args.new.id c.args.rules.now in
    let items : c.in_ok-list.list.items ≡ rest = c.in_ok-list.ensures
    ∙ ap (λ id. without id c.args.rules.now) c.id.ensures in
    let list : c.deref.result.now ≡ rest = c.deref.ensures.value ∙ items in
    let found : c.place_past_master.result ≡ position test rest = c.place_past_master.ensures.place
    ∙ ap (position test) list in
    let long : c.len.result ≡ length rest = c.len.ensures ∙ sym c.deref.ensures.len ∙ ap length list in
    let at : c.unwrap_or-place.result ≡ unwrap_or (position test rest) (length rest) =
    c.unwrap_or-place.ensures ∙ (λ j. unwrap_or (found j) (long j)) in
    c.in_ok-insert.ensures.items ∙ (λ j. insert (items j) (at j) c.args.new)
    ∙ sym (put_before-insert test c.args.new rest)
