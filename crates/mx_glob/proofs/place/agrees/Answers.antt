use Rattle.std.proofs.Common.{ℕ, ◌+◌, subst, arith, rules}
use Rattle.mx_glob.specs.Leads.{TakesAt}
use Rattle.mx_glob.proofs.LeadsLemmas.{FitsAt-step}
use Rattle.mx_glob.proofs.place.agrees.Goals as goal

pub loop-k-preserved : goal.loop-k-preserved
loop-k-preserved c =
    let family : ℕ → Type 0 = λ w. TakesAt c.args.value.now w (c.args.place + c.loop-k.k) in (
      FitsAt-step c.args.value.now c.args.segment.now c.loop-k.k c.index-segment-k.result c.args.place _
          (omega arith) c.loop-k.invariant.0 (subst family c.index-segment-k.is (search rules)),
      (omega arith, omega arith),
    )
