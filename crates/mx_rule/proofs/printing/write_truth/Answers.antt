use Rattle.std.proofs.Common.{◌∙◌, ◌++◌, codes, ap, append_assoc}
use Rattle.mx_rule.proofs.PrintLemmas.{canonical-false, canonical-true}
use Rattle.mx_rule.proofs.printing.write_truth.Goals as goal

pub returns-in_ok-extend_from_slice-2 : goal.returns-in_ok-extend_from_slice-2
returns-in_ok-extend_from_slice-2 c =
    c.in_ok-extend_from_slice-2.ensures.items
    ∙ ap (λ text. text ++ codes "true") c.in_ok-extend_from_slice.ensures.items
    ∙ append_assoc c.args.out.now.items c.args.key.now (codes "true")
    ∙ ap (λ text. c.args.out.now.items ++ (c.args.key.now ++ text)) (canonical-true c.args.truth c.if-truth.true)

pub returns-in_ok-extend_from_slice-3 : goal.returns-in_ok-extend_from_slice-3
returns-in_ok-extend_from_slice-3 c =
    c.in_ok-extend_from_slice-3.ensures.items
    ∙ ap (λ text. text ++ codes "false") c.in_ok-extend_from_slice.ensures.items
    ∙ append_assoc c.args.out.now.items c.args.key.now (codes "false")
    ∙ ap (λ text. c.args.out.now.items ++ (c.args.key.now ++ text)) (canonical-false c.args.truth c.if-truth.false)
