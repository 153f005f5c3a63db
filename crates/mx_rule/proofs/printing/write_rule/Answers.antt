use Rattle.std.proofs.Common.{◌∙◌, ◌++◌, codes, ap}
use Rattle.mx_json.specs.Canonical.{canonical}
use Rattle.mx_json.specs.declared.value.Json.{Text, Truth, List as ListOf}
use Rattle.mx_rule.specs.Printed.{conditions_text, pattern_text}
use Rattle.mx_rule.proofs.PrintLemmas.{printed-assembled}
use Rattle.mx_rule.proofs.printing.write_rule.Goals as goal

pub returns : goal.returns
returns c =
    let a = c.in_ok-extend_from_slice.ensures.items in
    let b = c.in_ok-write_actions.ensures
    ∙ (λ j. a j ++ canonical (ListOf record { items = c.given_actions.ensures.given j })) in
    let d = c.in_ok-write_criterion_conditions.ensures ∙ (λ j. b j ++ conditions_text (c.criterion.ensures j)) in
    let e =
    c.in_ok-write_truth.ensures ∙ (λ j. d j ++ (codes ",\"default\":" ++ canonical (Truth (c.predefined.ensures j)))) in
    let f =
    c.in_ok-write_truth-2.ensures ∙ (λ j. e j ++ (codes ",\"enabled\":" ++ canonical (Truth (c.enabled.ensures j)))) in
    let g = c.in_ok-write_criterion_pattern.ensures ∙ (λ j. f j ++ pattern_text (c.criterion-2.ensures j)) in
    let h = c.in_ok-extend_from_slice-2.ensures.items ∙ ap (λ text. text ++ codes ",\"rule_id\":") g in
    let i = c.in_ok-write_text.ensures ∙ (λ j. h j ++ canonical (Text (c.id.ensures j))) in
    c.in_ok-push.ensures.items ∙ ap (λ text. text ++ codes "}") i
    ∙ printed-assembled c.args.out.now.items c.args.rule.now
