use Rattle.std.proofs.Common.{◌∙◌, ◌++◌, codes, ap}
use Rattle.mx_rule.proofs.PrintLemmas.{list_text, printed_rules-assembled}
use Rattle.mx_rule.proofs.printing.write_ruleset.Goals as goal

pub returns : goal.returns
returns c =
    let a = c.in_ok-push.ensures.items in
    let b = c.in_ok-write_list.ensures ∙ (λ j. a j ++ list_text (codes "\"content\":") (c.rules.ensures.rules j)) in
    let d = c.in_ok-write_list-2.ensures
    ∙ (λ j. b j ++ list_text (codes ",\"override\":") (c.rules-2.ensures.rules j)) in
    let e = c.in_ok-write_list-3.ensures ∙ (λ j. d j ++ list_text (codes ",\"room\":") (c.rules-3.ensures.rules j)) in
    let f = c.in_ok-write_list-4.ensures ∙ (λ j. e j ++ list_text (codes ",\"sender\":") (c.rules-4.ensures.rules j)) in
    let g = c.in_ok-write_list-5.ensures
    ∙ (λ j. f j ++ list_text (codes ",\"underride\":") (c.rules-5.ensures.rules j)) in
    c.in_ok-push-2.ensures.items ∙ ap (λ text. text ++ codes "}") g
    ∙ printed_rules-assembled c.args.out.now.items c.args.rules.now
