use Rattle.mx_engine.proofs.UserRowsLemmas.{MeetsLaws, are_user_rows, rooms-none}
use Rattle.mx_engine.proofs.user_rows.UserRows.new.Given.{Over}
use Rattle.mx_engine.proofs.user_rows.UserRows.new.Goals as goal

laws : (g : Over) → MeetsLaws g.R.Rows
laws g =
    let met = g.met.R.Rows in
    record { kept = met.kept; once = met.once; in_order = met.in_order; rising = met.rising }

pub invariant_of-result : goal.invariant_of-result
invariant_of-result g c = rooms-none (laws g) c.new.result.entries c.new.ensures.unique c.new.ensures.empty

pub returns-clause-kept : goal.returns-clause-kept
returns-clause-kept g c =
    are_user_rows (laws g) c.new.result.entries
    (rooms-none (laws g) c.new.result.entries c.new.ensures.unique c.new.ensures.empty)
