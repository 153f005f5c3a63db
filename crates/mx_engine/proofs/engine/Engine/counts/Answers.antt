use Rattle.std.proofs.Common.{◌≤◌, ◌∙◌, ap, sym, subst}
use Rattle.mx_rows.specs.declared.counts.Counts.{Counts}
use Rattle.mx_rows.specs.Rows.{counts_in}
use Rattle.mx_records.specs.Refusing.{most_inputs}
use Rattle.mx_engine.specs.KeptRows.{list_at}
use Rattle.mx_engine.specs.View.{View}
use Rattle.mx_engine.proofs.RowsShown.{counts-unread}
use Rattle.mx_engine.proofs.Shown.{rows-shown}
use Rattle.mx_engine.proofs.UptoLemmas.{highlight-upto, notify-upto}
use Rattle.mx_engine.proofs.engine.Engine.counts.Goals as goal

pub returns-clause-exact : goal.returns-clause-exact
returns-clause-exact g c h is =
    c.counts.ensures
    ∙ counts-unread c.args.self.now.server h c.self.inside.unread.unread c.args.user.now c.args.room.now
    c.args.thread.now
    (ap (λ (v : View). v.shown.unread) c.self.view_is ∙ rows-shown c.args.self.now.server h c.args.self.now.shown is)

pub returns-clause-notify_in_range : goal.returns-clause-notify_in_range
returns-clause-notify_in_range g c =
    subst (λ (counts : Counts). counts.notify ≤ most_inputs) (sym c.counts.ensures)
    (notify-upto c.self.inside.inputs _ c.self.invariant.1
    (c.self.invariant.3 c.args.user.now c.args.room.now c.args.thread.now))

pub returns-clause-highlight_in_range : goal.returns-clause-highlight_in_range
returns-clause-highlight_in_range g c =
    subst (λ (counts : Counts). counts.highlight ≤ most_inputs) (sym c.counts.ensures)
    (highlight-upto c.self.inside.inputs _ c.self.invariant.1
    (c.self.invariant.3 c.args.user.now c.args.room.now c.args.thread.now))
