use Rattle.std.proofs.Common.{◌≡◌, ◌∙◌, true, None, Some, rules, ap, sym}
use Rattle.mx_json.specs.Ids.{is_local}
use Rattle.mx_records.specs.Rules.{rules_among}
use Rattle.mx_rule.specs.Editing.{refusal_of_edit}
use Rattle.mx_engine.specs.View.{View}
use Rattle.mx_engine.proofs.Shown.{content-edit, told-refused}
use Rattle.mx_engine.proofs.engine.Engine.plan_edit.Goals as goal

pub returns-in-Ok-clause-content : goal.returns-in-Ok-clause-content
returns-in-Ok-clause-content g c h is =
    let local : is_local c.args.self.now.server c.args.user.now ≡ true = search rules in
    let server = c.self.invariant.0 ∙ ap (λ (v : View). v.server) c.self.view_is in
    let edited = ap (λ (v : View). v.shown.rules) c.self.view_is in
    let told : refusal_of_edit (rules_among c.args.self.now.server c.args.self.now.shown.rules c.args.user.now)
    c.args.edit.now ≡ None =
    sym (λ i. refusal_of_edit (rules_among (server i) (edited i) c.args.user.now) c.args.edit.now)
    ∙ c.in-Ok.ensures.refused in
    content-edit c.args.self.now.server h c.args.self.now.shown c.args.user.now c.args.edit.now None is local told

pub returns-in-Err-Refused-clause-content : goal.returns-in-Err-Refused-clause-content
returns-in-Err-Refused-clause-content g c h is =
    let local : is_local c.args.self.now.server c.args.user.now ≡ true = search rules in
    let server = c.self.invariant.0 ∙ ap (λ (v : View). v.server) c.self.view_is in
    let edited = ap (λ (v : View). v.shown.rules) c.self.view_is in
    let told : refusal_of_edit (rules_among c.args.self.now.server c.args.self.now.shown.rules c.args.user.now)
    c.args.edit.now ≡ Some c.in-Err-Refused.refusal =
    sym (λ i. refusal_of_edit (rules_among (server i) (edited i) c.args.user.now) c.args.edit.now)
    ∙ told-refused _ _ c.in-Err-Refused.refusal c.in-Err-Refused.ensures.refused c.in-Err-Refused.field-0-is in
    content-edit c.args.self.now.server h c.args.self.now.shown c.args.user.now c.args.edit.now
    (Some c.in-Err-Refused.refusal) is local told
    ∙ ap (λ r. Some r) (sym c.from.ensures)
