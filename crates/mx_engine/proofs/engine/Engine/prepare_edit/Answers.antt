use Rattle.std.proofs.Common.{true, false, None, ap, arith}
use Rattle.std.proofs.lemmas.Bool.Decides.{nat_tests}
use Rattle.mx_records.specs.declared.input.Input.TheVariants.{Edit}
use Rattle.mx_engine.specs.View.{View}
use Rattle.mx_engine.proofs.Shown.{prepared-refused, refusal-shown}
use Rattle.mx_engine.proofs.engine.Engine.prepare_edit.Goals as goal

pub returns-in-Err-clause-exact : goal.returns-in-Err-clause-exact
returns-in-Err-clause-exact g c h is =
    prepared-refused c.args.self.now.server h c.args.self.now.shown (Edit c.args.user.now c.args.edit.now)
    c.in-Err.error is (c.in-Err.ensures.content h is)

pub returns-then-self-ge-MOST_INPUTS-clause-exact : goal.returns-then-self-ge-MOST_INPUTS-clause-exact
returns-then-self-ge-MOST_INPUTS-clause-exact g c h is =
    refusal-shown c.args.self.now.server h c.args.self.now.shown (Edit c.args.user.now c.args.edit.now) None
    c.self.inside.inputs true is (c.in-Ok.ensures.content h is) (ap (λ (v : View). v.shown.inputs) c.self.view_is)
    (grind (arith, nat_tests, c.if-self-ge-MOST_INPUTS.true))

pub returns-clause-exact : goal.returns-clause-exact
returns-clause-exact g c h is =
    refusal-shown c.args.self.now.server h c.args.self.now.shown (Edit c.args.user.now c.args.edit.now) None
    c.self.inside.inputs false is (c.in-Ok.ensures.content h is) (ap (λ (v : View). v.shown.inputs) c.self.view_is)
    (grind (arith, nat_tests, c.if-self-ge-MOST_INPUTS.false))
