-- When a rule may decide, by its parts.
use Rattle.std.proofs.Common.{◌≡◌, ◌↔◌, Bool, true, false, Result, IfOk, IsTrue}
use Rattle.std.proofs.lemmas.Bool.{false≢true}
use Rattle.std.proofs.lemmas.Bool.Decides.{same_from_decides}
use Rattle.std.proofs.lemmas.Result.{IfOk-weaker}
use Rattle.mx_cond.specs.Facts.{EventFacts}
use Rattle.mx_rule.specs.Deciding.{may_decide}
use Rattle.mx_rule.specs.Rule.{PushRule, is_passed_over, Meets, MayDecide}
use Rattle.mx_rule.proofs.Deciding.{may_decide-Decides}

-- an enabled rule that isn't passed over may decide where its criterion is met
pub MayDecide-met : {E : Type 0} (rule : PushRule) (facts : EventFacts) (result : Result Bool E)
    → rule.enabled ≡ true → is_passed_over rule.id facts.event ≡ false
    → IfOk result (λ met. IsTrue met ↔ Meets rule.criterion rule.id facts)
    → IfOk result (λ may. IsTrue may ↔ MayDecide rule facts)
MayDecide-met rule facts result enabled tried met =
    IfOk-weaker result (λ met. IsTrue met ↔ Meets rule.criterion rule.id facts)
    (λ may. IsTrue may ↔ MayDecide rule facts)
    (λ b h. (λ t. (enabled, (tried, h.0 t)), λ may. h.1 may.1.1)) met

-- an answer that is true exactly where the rule may decide is what the test gives
pub MayDecide-may_decide : (rule : PushRule) (facts : EventFacts) (may : Bool) → IsTrue may ↔ MayDecide rule facts
    → may ≡ may_decide rule facts
MayDecide-may_decide rule facts may is =
    same_from_decides may (may_decide rule facts) is (may_decide-Decides rule facts)

-- so is what a result holds
pub MayDecide-exact : {E : Type 0} (rule : PushRule) (facts : EventFacts) (result : Result Bool E)
    → IfOk result (λ may. IsTrue may ↔ MayDecide rule facts) → IfOk result (λ may. may ≡ may_decide rule facts)
MayDecide-exact rule facts result is =
    IfOk-weaker result (λ may. IsTrue may ↔ MayDecide rule facts) (λ may. may ≡ may_decide rule facts)
    (MayDecide-may_decide rule facts) is

pub MayDecide-never : (rule : PushRule) (facts : EventFacts) → ¬ MayDecide rule facts → false ≡ may_decide rule facts
MayDecide-never rule facts never =
    MayDecide-may_decide rule facts false (λ e. absurd (false≢true e), λ may. absurd (never may))
