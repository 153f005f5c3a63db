use Rattle.std.proofs.Common.{◌≡◌, ◌∙◌, ℕ, [], List, true, unwrap_or, arith, ap, subst, sym}
use Rattle.mx_json.specs.Ids.{localpart_of}
use Rattle.mx_rule.specs.Predefined.{content_table, override_table, predefined_rules, underride_table}
use Rattle.mx_rule.specs.Rule.{PushRule}
use Rattle.mx_defaults.specs.Row.{is_pattern_text}
use Rattle.mx_defaults.proofs.TableLemmas.{is_short-from_length, length-localpart, length-user_id}
use Rattle.mx_defaults.proofs.rules.predefined.Goals as goal

pub override_rules-requires : goal.override_rules-requires
override_rules-requires c =
    let user = c.args.user.now in
    let whole = length-user_id user c.as_text.ensures.id in
    let P : List ℕ → Type 0 = λ text. is_pattern_text text ≡ true in
    subst P (sym c.as_text.ensures.text) (is_short-from_length user (omega arith))

pub content_rules-requires : goal.content_rules-requires
content_rules-requires c =
    let user = c.args.user.now in
    let part = length-localpart c.args.server.now user c.in-Some.localpart.now (sym c.in-Some.ensures) in
    let whole = length-user_id user c.as_text.ensures.id in
    is_short-from_length c.in-Some.localpart.now (omega arith)

pub returns : goal.returns
unfolding predefined_rules
returns c =
    let localpart = ap (λ part. unwrap_or part []) c.in-Some.ensures in
    let none : List PushRule = [] in
    let override : c.in_ok-override_rules.field-0 ≡ override_table c.args.user.now =
    c.in_ok-override_rules.ensures ∙ ap override_table c.as_text.ensures.text in
    let content : c.in_ok-content_rules.field-0
    ≡ content_table (unwrap_or (localpart_of c.args.server.now c.args.user.now) []) =
    c.in_ok-content_rules.ensures ∙ ap content_table localpart in
    let room : c.in_ok-of.field-0 ≡ none = c.in_ok-of.ensures ∙ c.new.ensures.items in
    let sender : c.in_ok-of-2.field-0 ≡ none = c.in_ok-of-2.ensures ∙ c.new-2.ensures.items in
    let underride : c.in_ok-underride_rules.field-0 ≡ underride_table = c.in_ok-underride_rules.ensures in
    c.of-3.ensures
    ∙ (λ j. record {
      override = override j;
      content = content j;
      room = room j;
      sender = sender j;
      underride = underride j;
    })
