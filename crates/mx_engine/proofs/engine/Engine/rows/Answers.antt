use Rattle.std.proofs.Common.{◌≡◌, ◌∙◌, [], ap, sym}
use Rattle.mx_rows.specs.declared.thread_key.ThreadKey.{ThreadKey}
use Rattle.mx_records.specs.Counting.{rows_of}
use Rattle.mx_engine.specs.KeptRows.{list_at}
use Rattle.mx_engine.specs.View.{View}
use Rattle.mx_engine.proofs.RowsShown.{list-unread, lists-none, map_IfNone, map_IfSome}
use Rattle.mx_engine.proofs.Shown.{rows-shown}
use Rattle.mx_engine.proofs.engine.Engine.rows.Goals as goal

pub returns-clause-lists : goal.returns-clause-lists
returns-clause-lists g c h is =
    let server = c.args.self.now.server in
    let shown = ap (λ (v : View). v.shown.unread) c.self.view_is ∙ rows-shown server h c.args.self.now.shown is in
    map_IfSome c.rows.result
    (λ rows. (thread : ThreadKey) → g.R.Rows.list rows.now thread
    ≡ list_at c.self.inside.unread.unread c.args.user.now c.args.room.now thread)
    (λ rows. (thread : ThreadKey) → g.R.Rows.list rows.now thread
    ≡ rows_of server h c.args.user.now c.args.room.now thread)
    (λ rows lists thread. lists thread
    ∙ list-unread server h c.self.inside.unread.unread c.args.user.now c.args.room.now thread shown)
    c.rows.ensures.lists

pub returns-clause-none : goal.returns-clause-none
returns-clause-none g c h is =
    let server = c.args.self.now.server in
    let shown = ap (λ (v : View). v.shown.unread) c.self.view_is ∙ rows-shown server h c.args.self.now.shown is in
    map_IfNone c.rows.result (λ none thread.
    sym (list-unread server h c.self.inside.unread.unread c.args.user.now c.args.room.now thread shown)
    ∙ lists-none _ thread none) c.rows.ensures.none
