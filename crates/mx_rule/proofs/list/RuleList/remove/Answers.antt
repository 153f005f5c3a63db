use Rattle.std.proofs.Common.{◌∙◌, ap, remove, subst, sym, rules}
use Rattle.mx_rule.proofs.ChangeLemmas.{map-remove, remove-IsKept, rules_in, Entry, IsKept}
use Rattle.mx_rule.proofs.list.RuleList.remove.Goals as goal

pub invariant_of-self : goal.invariant_of-self
invariant_of-self c =
    let before = c.self.invariant in
    let kept = subst IsKept (sym c.shift_remove_index-removed.ensures.entries)
    (remove-IsKept c.self.inside.rules.entries c.args.index (before.0, before.1)) in
    (kept.0, kept.1, search rules, search rules)

pub returns : goal.returns
returns c =
    ap rules_in c.shift_remove_index-removed.ensures.entries
    ∙ map-remove (λ (e : Entry). e.1) c.self.inside.rules.entries c.args.index
    ∙ ap (λ rules. remove rules c.args.index) c.self.view_is
