use Rattle.std.proofs.Common.{◌≡◌, ◌++◌, [], ◌∷◌, ℕ, List, Some, codes, IfOk, subst}
use Rattle.mx_json.specs.declared.value.Json.{Truth}
use Rattle.mx_records.specs.Normal.{Field, object_of, text_field}
use Rattle.mx_records.proofs.GivenLemmas.{appended, joined}
use Rattle.mx_records.proofs.normal.enable_value.Goals as goal

pub returns : goal.returns
returns c =
    let cmd : List Field = text_field (codes "cmd") (codes "rule_enable") ∷ [] in
    let enabled : List Field = (codes "enabled", Some (Truth c.args.enabled)) ∷ [] in
    let rest : List Field =
    text_field (codes "rule_id") c.args.rule_id.now ∷ text_field (codes "user") c.args.user.now ∷ [] in
    let kind : List ℕ → List Field = λ text. text_field (codes "kind") text ∷ [] in
    let one = appended [] [] cmd _ _ c.new.ensures c.in_ok-object.ensures in
    let two = appended [] cmd enabled _ _ one c.in_ok-object-2.ensures in
    let three = appended [] (cmd ++ enabled) (kind c.kind_text.result.now) _ _ two c.in_ok-object-3.ensures in
    subst (λ text. IfOk c.with_rule.result (λ json. json ≡ object_of (cmd ++ enabled ++ kind text ++ rest)))
    c.kind_text.ensures
    (joined (cmd ++ enabled ++ kind c.kind_text.result.now) rest _ c.with_rule.result three c.with_rule.ensures)
