use Rattle.std.proofs.Common.{sym, arith}
use Rattle.mx_glob.proofs.AutomatonLemmas.{IsEdged-from_served}
use Rattle.mx_glob.proofs.onward.Wanted.follow.Goals as goal

pub returns-in-None-clause-followed : goal.returns-in-None-clause-followed
returns-in-None-clause-followed c =
    let wanted = c.args.self.now in
    let now = c.loop-now.now in
    let reached = c.loop-now.invariant.reached in (
      omega (arith, reached.low),
      IsEdged-from_served c.args.value.now wanted.segment.now wanted.begins wanted.ends c.args.from now.place now.size
          now.before _ reached (c.in-Some.ensures {u = tt}).character c.in-None.ensures.served,
      λ j low high. reached.none j low (omega (arith, reached.low)),
    )
