use Rattle.std.proofs.Common.{ℕ, ◌≤◌, ◌+◌, drop, sum_by, get_or, arith, ap, subst, sym, ◌∙◌}
use Rattle.std.proofs.lemmas.Bool.{le-ltb}
use Rattle.std.proofs.lemmas.List.Sums.{sum_by-drop_more}
use Rattle.mx_rule.specs.declared.kind.Kind.TheVariants.{Override}
use Rattle.mx_rule.specs.Editing.{own_count}
use Rattle.mx_rule.specs.Ruleset.{kinds}
use Rattle.mx_edit.proofs.StepLemmas.{full-before, left-after, own_of}
use Rattle.mx_edit.proofs.checks.are_few.Goals as goal

pub returns-then-left-count : goal.returns-then-left-count
returns-then-left-count c =
    let rules = c.args.rules.now in
    let i = c.loop-kind.kind-index in
    let step = sum_by-drop_more (own_of rules) kinds i Override (omega arith) in
    let P : ℕ → Type 0 = λ n. c.loop-kind.left ≤ n in
    sym (le-ltb (own_count rules) 1000
    (full-before (own_count rules) c.loop-kind.left (sum_by (own_of rules) (drop i kinds))
    (own_of rules (get_or kinds i Override)) (sum_by (own_of rules) (drop (i + 1) kinds))
    c.loop-kind.invariant.counted step (subst P c.own_count-count.ensures c.if-left-count.true)))

pub loop-kind-preserved : goal.loop-kind-preserved
loop-kind-preserved c =
    let rules = c.args.rules.now in
    let i = c.loop-kind.kind-index in
    let more = sum_by (own_of rules) (drop (i + 1) kinds) in
    let step = sum_by-drop_more (own_of rules) kinds i Override (omega arith)
    ∙ ap (λ n. n + more) (sym c.own_count-count.ensures) in
    record {
      some = omega arith;
      counted = left-after (own_count rules) c.loop-kind.left
          (sum_by (own_of rules) (drop i kinds)) c.own_count-count.result more c.loop-kind.invariant.counted step
          c.if-left-count.false;
    }
