use Rattle.std.proofs.Common.{IsSome, refl, sym, subst}
use Rattle.mx_engine.proofs.UserRowsLemmas.{IsAbsent, IsWritten, MeetsLaws, are_user_rows, capacity-same, lists-cut_all}
use Rattle.mx_engine.proofs.UserRowsLemmas.{lists-cut_all-absent, rooms-cut_all, user_rows-absent}
use Rattle.mx_engine.proofs.user_rows.UserRows.cut_room.Given.{Over}
use Rattle.mx_engine.proofs.user_rows.UserRows.cut_room.Goals as goal

laws : (g : Over) → MeetsLaws g.R.Rows
laws g =
    let met = g.met.R.Rows in
    record { kept = met.kept; once = met.once; in_order = met.in_order; rising = met.rising }

written : (g : Over) (c : goal.After-self-2-1 g)
    → IsWritten g.R.Rows c.self.inside.rooms.entries (c.get_mut.follows.lender c.cut_all.new.self).entries
    c.args.room.now c.in-Some.rows.now c.cut_all.new.self c.args.self.now
written g c =
    let by = c.get_mut.follows.holds c.cut_all.new.self in
    record {
      are = c.self.invariant;
      view_is = c.self.view_is;
      distinct = by.4;
      found = sym c.in-Some.ensures.value;
      updated = (by.3 (subst IsSome c.in-Some.ensures.value refl)).0;
    }

pub returns-clause-lists : goal.returns-clause-lists
returns-clause-lists g c =
    lists-cut_all (laws g) (written g c) c.args.position c.cut_all.ensures.lists

pub returns-clause-capacity : goal.returns-clause-capacity
returns-clause-capacity g c = capacity-same (laws g) (written g c) c.cut_all.ensures.capacity

pub invariant_of-self-2 : goal.invariant_of-self-2
invariant_of-self-2 g c =
    rooms-cut_all (laws g) (written g c) c.args.position c.cut_all.ensures.lists

pub returns-clause-kept : goal.returns-clause-kept
returns-clause-kept g c =
    are_user_rows (laws g) _ (rooms-cut_all (laws g) (written g c) c.args.position c.cut_all.ensures.lists)

absent : (g : Over) (c : goal.After-self-in_default-2-1 g)
    → IsAbsent g.R.Rows c.self.inside.rooms.entries c.get_mut.follows.lender-at-none.entries c.args.room.now
    c.args.self.now
absent g c = record {
  are = c.self.invariant;
  view_is = c.self.view_is;
  absent = sym c.in_default.ensures.value;
  same = λ i. (c.get_mut.follows.holds-at-none i).entries;
}

pub returns-in_default-clause-lists : goal.returns-in_default-clause-lists
returns-in_default-clause-lists g c =
    lists-cut_all-absent (laws g) (absent g c) c.args.position

pub returns-in_default-clause-kept : goal.returns-in_default-clause-kept
returns-in_default-clause-kept g c = user_rows-absent (laws g) (absent g c)
