use Rattle.std.proofs.Common.{refl, sym, None, arith}
use Rattle.mx_glob.proofs.AutomatonLemmas.{IsEdged-from_served, IsNowhere-end}
use Rattle.mx_glob.proofs.onward.Wanted.at_end.Goals as goal

pub returns-then-is_served-clause-first : goal.returns-then-is_served-clause-first
returns-then-is_served-clause-first c =
    let wanted = c.args.self.now in
    let now = c.args.reached in
    let reached = c.requires.reached in (
      omega (arith, reached.low),
      IsEdged-from_served c.args.value.now wanted.segment.now wanted.begins wanted.ends c.args.from now.place now.size
          now.before None reached (sym c.requires.end) (c.is_served.ensures.0 c.if-is_served.true),
      λ j low high. reached.none j low (omega (arith, reached.low)),
    )

pub returns-clause-first : goal.returns-clause-first
returns-clause-first c =
    let wanted = c.args.self.now in
    let now = c.args.reached in
    IsNowhere-end c.args.value.now wanted.segment.now wanted.begins wanted.ends c.args.from now.place now.size
    now.before None c.requires.reached refl (sym c.requires.end)
    (λ served. absurd (let yes = c.is_served.ensures.1 served in cc))
