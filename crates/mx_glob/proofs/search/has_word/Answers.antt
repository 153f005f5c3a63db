use Rattle.std.proofs.Common.{◌+◌, ◌-◌, length, subst, arith}
use Rattle.mx_glob.specs.Leads.{IsNameAt}
use Rattle.mx_glob.specs.Search.{NoneEnds}
use Rattle.mx_glob.proofs.SearchLemmas.{step_rules_out, HasWord-none}
use Rattle.mx_glob.proofs.search.has_word.Goals as goal

pub returns-then-steps-len-clause-word : goal.returns-then-steps-len-clause-word
returns-then-steps-len-clause-word c =
    let text = c.args.value.now in
    let name = c.args.name.now in
    let end = c.in-Some.end in
    let steps = c.skip_last-steps.result in
    let e = c.of-search.ensures in
    let found = c.in-Some.ensures {u = tt} in
    let tried = c.in-Ahead.ensures in
    let between = subst (λ n. NoneEnds text n c.loop-end.from end) e found.ruled_out in
    let skipped = subst (λ n. NoneEnds text n (end + 1) (end + steps)) e
    (c.skip_last-steps.ensures.ruled_out text end found.found.2 found.found.1) in
    let here : IsNameAt text name (end + 1 - length name) → ⊥ =
    subst (λ n. IsNameAt text n (end + 1 - length n) → ⊥) e tried.1 in
    let none = step_rules_out text name c.loop-end.from end steps (end + 1 - length name) c.requires.some
    (omega (arith, found.found.0)) c.loop-end.invariant.none between here skipped in
    (λ never. cc, λ word. absurd (HasWord-none text name (end + steps) c.requires.some (omega arith) none word))
