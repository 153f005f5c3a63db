use Rattle.std.proofs.Common.{◌∙◌, ◌++◌, codes, ap, sym, append_assoc}
use Rattle.mx_json.specs.Canonical.{canonical}
use Rattle.mx_json.specs.declared.value.Json.{Text}
use Rattle.mx_rule.specs.declared.criterion.Criterion.TheVariants.{Word}
use Rattle.mx_rule.proofs.PrintLemmas.{pattern_text-is}
use Rattle.mx_rule.proofs.printing.write_criterion_pattern.Goals as goal

pub returns-in_ok-write_text : goal.returns-in_ok-write_text
returns-in_ok-write_text c =
    let text = canonical (Text c.as_str.result.now) in
    c.in_ok-write_text.ensures
    ∙ ap (λ before. before ++ text) c.in_ok-extend_from_slice.ensures.items
    ∙ append_assoc c.args.out.now.items (codes ",\"pattern\":") text
    ∙ ap (λ after. c.args.out.now.items ++ after)
    (pattern_text-is c.args.criterion.now c.as_str.result.now (c.in-Word.is ∙ ap Word (sym c.as_str.ensures)))
