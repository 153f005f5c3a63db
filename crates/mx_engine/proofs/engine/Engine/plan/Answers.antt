use Rattle.std.proofs.Common.{sym, subst}
use Rattle.mx_records.specs.declared.input.Input.{Input}
use Rattle.mx_engine.specs.Preparing.{IsPlanned}
use Rattle.mx_engine.proofs.engine.Engine.plan.Goals as goal

pub returns-in-Receipt-clause-exact : goal.returns-in-Receipt-clause-exact
returns-in-Receipt-clause-exact g c h is =
    subst (λ (input : Input). IsPlanned c.args.self.now.server h input c.prepare_receipt.result) (sym c.in-Receipt.is)
    (c.prepare_receipt.ensures.exact h c.in-Receipt.private is)
