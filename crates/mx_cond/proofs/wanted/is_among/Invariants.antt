use Rattle.std.proofs.Common.{ℕ, ◌<◌, get_or}
use Rattle.mx_json.specs.declared.value.Json.{Json}
use Rattle.mx_cond.specs.Holds.{Equals}
use Rattle.mx_cond.proofs.wanted.is_among.Given as goal

abbrev pub invariant-loop-member : goal.invariant-loop-member
invariant-loop-member l =
    (k : ℕ) (d : Json) → k < l.member-index → Equals l.value (get_or l.members k d) → ⊥
