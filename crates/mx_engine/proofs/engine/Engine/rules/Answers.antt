use Rattle.std.proofs.Common.{ap, ◌∙◌}
use Rattle.std.specs.FinMap.{get}
use Rattle.mx_engine.specs.View.{View}
use Rattle.mx_engine.proofs.Shown.{own-shown}
use Rattle.mx_engine.proofs.engine.Engine.rules.Goals as goal

pub returns : goal.returns
returns g c h is =
    c.rules.ensures
    ∙ ap (λ (v : View). get v.shown.rules c.args.user.now) c.self.view_is
    ∙ own-shown c.args.self.now.server h c.args.self.now.shown c.args.user.now is
