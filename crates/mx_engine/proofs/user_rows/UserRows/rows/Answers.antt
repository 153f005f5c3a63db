use Rattle.std.proofs.Common.{None, Some, sym}
use Rattle.mx_engine.proofs.UserRowsLemmas.{MeetsLaws, list_in-found, rows_in-found}
use Rattle.mx_engine.proofs.user_rows.UserRows.rows.Given.{Over}
use Rattle.mx_engine.proofs.user_rows.UserRows.rows.Goals as goal

laws : (g : Over) → MeetsLaws g.R.Rows
laws g =
    let met = g.met.R.Rows in
    record { kept = met.kept; once = met.once; in_order = met.in_order; rising = met.rising }

pub returns-in-Some-clause-rows : goal.returns-in-Some-clause-rows
returns-in-Some-clause-rows g c =
    sym (rows_in-found (laws g) c.self.inside.rooms.entries c.self.invariant c.args.room.now
    (Some c.in-Some.rows.now) (sym c.in-Some.ensures.value) c.args.self.now c.self.view_is)

pub returns-in-Some-clause-lists : goal.returns-in-Some-clause-lists
returns-in-Some-clause-lists g c = λ t.
    sym (list_in-found (laws g) c.self.inside.rooms.entries c.self.invariant c.args.room.now
    (Some c.in-Some.rows.now) (sym c.in-Some.ensures.value) c.args.self.now c.self.view_is t)

pub returns-in-None-clause-none : goal.returns-in-None-clause-none
returns-in-None-clause-none g c =
    rows_in-found (laws g) c.self.inside.rooms.entries c.self.invariant c.args.room.now None
    (sym c.in-None.ensures.value) c.args.self.now c.self.view_is
