use Rattle.std.proofs.Common.{◌≡◌, ◌∙◌, ◌∷◌, ◌++◌, true, ap, sym, rules}
use Rattle.std.specs.Vec.Iter.{into_iter_items}
use Rattle.indexmap.specs.IndexMap.{values}
use Rattle.mx_rule.specs.Ruleset.{are_distinct, ids_of}
use Rattle.mx_rule.proofs.ListLemmas.{distinct-new}
use Rattle.mx_rule.proofs.list.RuleList.of.Goals as goal

pub put_last-requires : goal.put_last-requires
put_last-requires c =
    let before = values c.loop-rule.by_id in
    let later = into_iter_items c.next.new.self in
    let first : into_iter_items c.loop-rule.rule-iterator ≡ c.in-Some.rule ∷ later = search rules in
    let all = ap (λ rules. before ++ rules) (sym first) ∙ c.loop-rule.invariant.rules in
    let distinct : are_distinct (ids_of (before ++ c.in-Some.rule ∷ later)) ≡ true = rw all c.requires in
    rw c.loop-rule.invariant.ids (distinct-new before c.in-Some.rule later distinct)
