use Rattle.std.proofs.Common.{◌≡◌, ◌+◌, ◌<◌, drop, sum_by}
use Rattle.mx_rule.specs.Ruleset.{kinds}
use Rattle.mx_edit.proofs.StepLemmas.{own_of}
use Rattle.mx_edit.proofs.checks.are_few.Given as goal

abbrev pub invariant-loop-kind : goal.invariant-loop-kind
invariant-loop-kind l = record {
  some : 0 < l.left;
  counted : sum_by (own_of l.rules) kinds + l.left ≡ 1000 + sum_by (own_of l.rules) (drop l.kind-index kinds);
}
