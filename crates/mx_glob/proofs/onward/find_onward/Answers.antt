use Rattle.std.proofs.Common.{arith}
use Rattle.mx_glob.proofs.AutomatonLemmas.{IsEdged-from_served, IsNowhere-end}
use Rattle.mx_glob.proofs.onward.find_onward.Goals as goal

pub returns-then-is_served-clause-first : goal.returns-then-is_served-clause-first
returns-then-is_served-clause-first c =
    let wanted = c.args.wanted.now in
    let entered = c.in-Some.entered in
    let reached = ((c.in-Some.ensures {u = tt}).entered).1 in
    let served = c.is_served.ensures.0 c.if-is_served.true in (
      omega (arith, reached.low),
      IsEdged-from_served c.args.value.now wanted.segment.now wanted.begins wanted.ends c.args.from entered.place
          entered.size entered.before c.at-here.result reached c.at-here.ensures.character served,
      λ j low high. reached.none j low (omega (arith, reached.low)),
    )

pub returns-in_default-here-clause-first : goal.returns-in_default-here-clause-first
returns-in_default-here-clause-first c =
    let wanted = c.args.wanted.now in
    let entered = c.in-Some.entered in
    let reached = ((c.in-Some.ensures {u = tt}).entered).1 in
    IsNowhere-end c.args.value.now wanted.segment.now wanted.begins wanted.ends c.args.from entered.place entered.size
    entered.before c.at-here.result reached c.in_default-here.is c.at-here.ensures.character
    (λ served. absurd (let yes = c.is_served.ensures.1 served in cc))
