use Rattle.std.proofs.Common.{ℕ, ◌<◌, get_or}
use Rattle.mx_json.specs.declared.value.Json.{Json}
use Rattle.mx_cond.specs.Facts.{told_by}
use Rattle.mx_cond.specs.Holds.{Holds}
use Rattle.mx_rule.proofs.criterion.all_hold.Given as goal

abbrev pub invariant-loop-condition : goal.invariant-loop-condition
invariant-loop-condition l =
    (k : ℕ) (d : Json) → k < l.condition-index → Holds (get_or l.conditions k d) (told_by l.facts)
