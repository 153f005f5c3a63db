use Rattle.std.proofs.Common.{◌∙◌, ap}
use Rattle.std.specs.Prelude.{slice_get}
use Rattle.mx_engine.specs.View.{View}
use Rattle.mx_engine.proofs.RowsShown.{threads-unread}
use Rattle.mx_engine.proofs.Shown.{rows-shown}
use Rattle.mx_engine.proofs.engine.Engine.thread_at.Goals as goal

pub returns : goal.returns
returns g c h is =
    c.thread_at.ensures
    ∙ ap (λ threads. slice_get threads c.args.k)
    (threads-unread c.args.self.now.server h c.self.inside.unread.unread c.args.user.now c.args.room.now
    (ap (λ (v : View). v.shown.unread) c.self.view_is ∙ rows-shown c.args.self.now.server h c.args.self.now.shown is))
