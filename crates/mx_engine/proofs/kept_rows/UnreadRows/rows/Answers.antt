use Rattle.std.proofs.Common.{◌≡◌, [], None, Some, IfNone, IfSome, sym, subst, ap, ◌∙◌}
use Rattle.mx_room.specs.Texts.{Texts}
use Rattle.mx_rows.specs.Rows.{with_rows}
use Rattle.mx_rows.specs.declared.thread_key.ThreadKey.{ThreadKey}
use Rattle.mx_engine.specs.KeptRows.{list_in, of_user, rows_in}
use Rattle.mx_records.specs.Snapshot.{RoomRows, rows_by_thread}
use Rattle.mx_engine.proofs.UnreadLemmas.{rooms-found, rows_in-empty}
use Rattle.mx_engine.proofs.kept_rows.UnreadRows.rows.Given.{Over}
use Rattle.mx_engine.proofs.kept_rows.UnreadRows.rows.Goals as goal

found : (g : Over) (c : goal.After-rows g) → c.in-Some.rows.now.rooms ≡ of_user c.args.self.now.unread c.args.user.now
found g c =
    sym (rooms-found c.self.inside.users.entries c.self.invariant c.args.user.now (Some c.in-Some.rows.now)
    (sym c.in-Some.ensures.value) c.args.self.now c.self.view_is)

pub returns-in-Some-clause-rows : goal.returns-in-Some-clause-rows
returns-in-Some-clause-rows g c =
    let R = g.R.Rows in
    subst
    (λ (rooms : Texts RoomRows). IfSome c.rows.result
    (λ rows. rows_by_thread (R.list rows.now) (with_rows (R.list rows.now) (R.threads rows.now))
    ≡ rows_in rooms c.args.room.now)) (found g c) c.rows.ensures.rows

pub returns-in-Some-clause-lists : goal.returns-in-Some-clause-lists
returns-in-Some-clause-lists g c =
    subst
    (λ (rooms : Texts RoomRows). IfSome c.rows.result
    (λ rows. (t : ThreadKey) → g.R.Rows.list rows.now t ≡ list_in rooms c.args.room.now t)) (found g c)
    c.rows.ensures.lists

pub returns-in-Some-clause-none : goal.returns-in-Some-clause-none
returns-in-Some-clause-none g c =
    subst (λ (rooms : Texts RoomRows). IfNone c.rows.result (rows_in rooms c.args.room.now ≡ [])) (found g c)
    c.rows.ensures.none

pub returns-in-None-clause-none : goal.returns-in-None-clause-none
returns-in-None-clause-none g c =
    ap (λ (rooms : Texts RoomRows). rows_in rooms c.args.room.now)
    (rooms-found c.self.inside.users.entries c.self.invariant c.args.user.now None (sym c.in-None.ensures.value)
    c.args.self.now c.self.view_is)
    ∙ rows_in-empty c.args.room.now
