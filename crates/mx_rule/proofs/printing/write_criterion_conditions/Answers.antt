use Rattle.std.proofs.Common.{◌∙◌, ◌++◌, codes, ap, sym, append_assoc}
use Rattle.mx_json.specs.Canonical.{canonical}
use Rattle.mx_json.specs.declared.value.Json.{List as ListOf}
use Rattle.mx_rule.specs.declared.criterion.Criterion.TheVariants.{Conditions}
use Rattle.mx_rule.proofs.PrintLemmas.{conditions_text-is}
use Rattle.mx_rule.proofs.printing.write_criterion_conditions.Goals as goal

pub returns-in_ok-write_conditions : goal.returns-in_ok-write_conditions
returns-in_ok-write_conditions c =
    let text = canonical (ListOf record { items = c.as_slice.result.now }) in
    c.in_ok-write_conditions.ensures
    ∙ ap (λ before. before ++ text) c.in_ok-extend_from_slice.ensures.items
    ∙ append_assoc c.args.out.now.items (codes ",\"conditions\":") text
    ∙ ap (λ after. c.args.out.now.items ++ after) (conditions_text-is c.args.criterion.now c.as_slice.result.now
    (c.in-Conditions.is ∙ ap Conditions (sym c.as_slice.ensures)))
