use Rattle.std.proofs.Common.{◌≡◌, ◌≤◌, ◌∙◌, ap, sym, subst}
use Rattle.mx_rows.specs.Rows.{with_rows}
use Rattle.mx_records.specs.History.{inputs_of}
use Rattle.mx_records.specs.Refusing.{most_inputs}
use Rattle.mx_engine.specs.View.{View}
use Rattle.mx_engine.proofs.RowsShown.{list-unread, threads-none, threads-shown}
use Rattle.mx_engine.proofs.Shown.{inputs-shown, rows-shown}
use Rattle.mx_engine.proofs.TotalsLemmas.{bounded, totals-none, totals-room}
use Rattle.mx_engine.proofs.engine.Engine.room_counts.Goals as goal
use Rattle.mx_engine.proofs.engine.Engine.room_counts.Goals.{in-Some, in-None}

pub returns-clause-exact : goal.returns-clause-exact
returns-clause-exact g c h is =
    let server = c.args.self.now.server in
    let user = c.args.user.now in
    let room = c.args.room.now in
    let unread = c.self.inside.unread.unread in
    let shown = ap (λ (v : View). v.shown.unread) c.self.view_is ∙ rows-shown server h c.args.self.now.shown is in
    let few : inputs_of h ≤ most_inputs =
    subst (λ n. n ≤ most_inputs)
    (ap (λ (v : View). v.shown.inputs) c.self.view_is ∙ inputs-shown server h c.args.self.now.shown is)
    c.self.invariant.1 in
    (λ i. record { notify = c.min.ensures i; highlight = c.min-2.ensures i })
    ∙ elim c.match-rows.branch [
      | in-Some w ↦
          let list = g.R.Rows.list w.in-Some.rows.now in
          let threads = with_rows list (g.R.Rows.threads w.in-Some.rows.now) in
          ap bounded (w.counts-is ∙ w.totals-counts.ensures)
          ∙ totals-room server h user room list threads few
          (λ t. w.in-Some.ensures.lists t ∙ list-unread server h unread user room t shown)
          (threads-shown server h unread user room list threads shown w.in-Some.ensures.rows)
      | in-None w ↦
          ap bounded w.counts-is
          ∙ totals-none server h user room (threads-none server h unread user room shown w.in-None.ensures.none)
    ]
