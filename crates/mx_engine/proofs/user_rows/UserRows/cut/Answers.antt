use Rattle.std.proofs.Common.{IsSome, refl, sym, subst}
use Rattle.mx_engine.proofs.UserRowsLemmas.{IsAbsent, IsWritten, MeetsLaws, are_user_rows, capacity-same, lists-cut}
use Rattle.mx_engine.proofs.UserRowsLemmas.{lists-cut-absent, rooms-cut, user_rows-absent}
use Rattle.mx_engine.proofs.user_rows.UserRows.cut.Given.{Over}
use Rattle.mx_engine.proofs.user_rows.UserRows.cut.Goals as goal

laws : (g : Over) → MeetsLaws g.R.Rows
laws g =
    let met = g.met.R.Rows in
    record { kept = met.kept; once = met.once; in_order = met.in_order; rising = met.rising }

written : (g : Over) (c : goal.After-self-2-1 g)
    → IsWritten g.R.Rows c.self.inside.rooms.entries (c.get_mut.follows.lender c.cut.new.self).entries
    c.args.room.now c.in-Some.rows.now c.cut.new.self c.args.self.now
written g c =
    let by = c.get_mut.follows.holds c.cut.new.self in
    record {
      are = c.self.invariant;
      view_is = c.self.view_is;
      distinct = by.4;
      found = sym c.in-Some.ensures.value;
      updated = (by.3 (subst IsSome c.in-Some.ensures.value refl)).0;
    }

pub returns-clause-lists : goal.returns-clause-lists
returns-clause-lists g c =
    lists-cut (laws g) (written g c) c.args.thread.now c.args.position c.cut.ensures.lists

pub returns-clause-capacity : goal.returns-clause-capacity
returns-clause-capacity g c = capacity-same (laws g) (written g c) c.cut.ensures.capacity

pub invariant_of-self-2 : goal.invariant_of-self-2
invariant_of-self-2 g c =
    rooms-cut (laws g) (written g c) c.args.thread.now c.args.position c.cut.ensures.lists

pub returns-clause-kept : goal.returns-clause-kept
returns-clause-kept g c =
    are_user_rows (laws g) _ (rooms-cut (laws g) (written g c) c.args.thread.now c.args.position c.cut.ensures.lists)

absent : (g : Over) (c : goal.After-self-in_default-2-1 g)
    → IsAbsent g.R.Rows c.self.inside.rooms.entries c.get_mut.follows.lender-at-none.entries c.args.room.now
    c.args.self.now
absent g c = record {
  are = c.self.invariant;
  view_is = c.self.view_is;
  absent = sym c.in_default.ensures.value;
  same = λ i. (c.get_mut.follows.holds-at-none i).entries;
}

pub returns-in_default-clause-lists : goal.returns-in_default-clause-lists
returns-in_default-clause-lists g c =
    lists-cut-absent (laws g) (absent g c) c.args.thread.now c.args.position

pub returns-in_default-clause-kept : goal.returns-in_default-clause-kept
returns-in_default-clause-kept g c = user_rows-absent (laws g) (absent g c)
