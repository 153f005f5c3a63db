use Rattle.std.proofs.Common.{List, slice_get, sym, ap, ◌∙◌}
use Rattle.mx_rows.specs.Rows.{with_rows}
use Rattle.mx_rows.specs.declared.thread_key.ThreadKey.{ThreadKey}
use Rattle.mx_engine.specs.KeptRows.{threads_in}
use Rattle.mx_engine.proofs.RoomRowsLemmas.{threads_in-by}
use Rattle.mx_engine.proofs.kept_rows.UnreadRows.thread_at.Goals as goal

pub returns-in-Some : goal.returns-in-Some
returns-in-Some g c =
    let list = g.R.Rows.list c.in-Some.rows.now in
    let threads = g.R.Rows.threads c.in-Some.rows.now in
    c.thread_at.ensures
    ∙ ap (λ (ts : List ThreadKey). slice_get ts c.args.k)
    (sym (threads_in-by list (with_rows list threads)) ∙ ap threads_in c.in-Some.ensures.rows)
