use Rattle.std.proofs.Common.{◌∙◌, ap, sym, subst, Err, Some}
use Rattle.mx_engine.specs.Planning.{Planned}
use Rattle.mx_engine.specs.Preparing.{IsPrepared}
use Rattle.mx_engine.proofs.LengthLemmas.{full-refused, other-refused, too-long-full}
use Rattle.mx_engine.proofs.payload.refused.Goals as goal
use Rattle.mx_engine.proofs.payload.refused.Goals.{in-Ok, in-Err}

pub returns-after-payload_within-clause-exact : goal.returns-after-payload_within-clause-exact
returns-after-payload_within-clause-exact c server h any =
    let input = c.args.input.now in
    let full = any ∙ ap Some c.in-Full.is in
    elim c.match-payload_within.branch [
      | in-Ok w ↦
          subst (λ error. IsPrepared server h input (Err error)) (sym w.result-is)
          (full-refused server h input full w.in-Ok.ensures.exact)
      | in-Err w ↦
          subst (λ error. IsPrepared server h input (Err error)) (sym w.result-is)
          (too-long-full server h input w.in-Err.error full w.in-Err.ensures.exact)
    ]

pub returns-in_default : goal.returns-in_default
returns-in_default c = record {
  in_range = c.requires.in_range;
  exact = λ server h any. other-refused server h c.args.input.now c.args.refusal any c.in_default.not-Full;
}
