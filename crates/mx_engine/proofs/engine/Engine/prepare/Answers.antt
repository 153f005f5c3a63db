use Rattle.mx_engine.proofs.LengthLemmas.{accepted, too-long}
use Rattle.mx_engine.proofs.engine.Engine.prepare.Goals as goal

pub returns-in-Ok-payload_within-clause-exact : goal.returns-in-Ok-payload_within-clause-exact
returns-in-Ok-payload_within-clause-exact g c h is =
    accepted c.args.self.now.server h c.args.input.now c.requires.normal c.requires.built (c.in-Ok.ensures.exact h is)
    c.in-Ok-payload_within.ensures.exact

pub returns-in-Err-clause-exact : goal.returns-in-Err-clause-exact
returns-in-Err-clause-exact g c h is =
    too-long c.args.self.now.server h c.args.input.now c.in-Err.error
    (c.in-Ok.ensures.exact h is) c.in-Err.ensures.exact
