use Rattle.std.proofs.Common.{Some, IsSome, refl, sym, subst}
use Rattle.mx_engine.proofs.UnreadLemmas.{IsAbsent, IsWritten, capacity-same, lists-cut_room, lists-cut_room-absent}
use Rattle.mx_engine.proofs.UnreadLemmas.{unread_rows-absent, unread_rows-written}
use Rattle.mx_engine.proofs.kept_rows.UnreadRows.cut_room.Given.{Over}
use Rattle.mx_engine.proofs.kept_rows.UnreadRows.cut_room.Goals as goal

written : (g : Over) (c : goal.After-self-2-1 g)
    → IsWritten c.self.inside.users.entries (c.get_mut.follows.lender c.cut_room.new.self).entries c.args.user.now
    (Some c.in-Some.rows.now) c.cut_room.new.self c.args.self.now
written g c =
    let by = c.get_mut.follows.holds c.cut_room.new.self in
    record {
      are = c.self.invariant;
      view_is = c.self.view_is;
      distinct = by.4;
      found = sym c.in-Some.ensures.value;
      updated = (by.3 (subst IsSome c.in-Some.ensures.value refl)).0;
      rows = c.cut_room.ensures.kept;
    }

pub returns-clause-lists : goal.returns-clause-lists
returns-clause-lists g c =
    lists-cut_room (written g c) c.args.room.now c.args.position c.cut_room.ensures.lists

pub returns-clause-capacity : goal.returns-clause-capacity
returns-clause-capacity g c = capacity-same (written g c) c.cut_room.ensures.capacity

pub returns-clause-kept : goal.returns-clause-kept
returns-clause-kept g c = unread_rows-written (written g c)

absent : (g : Over) (c : goal.After-self-in_default-2-1 g)
    → IsAbsent c.self.inside.users.entries c.get_mut.follows.lender-at-none.entries c.args.user.now c.args.self.now
absent g c = record {
  are = c.self.invariant;
  view_is = c.self.view_is;
  absent = sym c.in_default.ensures.value;
  same = λ i. (c.get_mut.follows.holds-at-none i).entries;
}

pub returns-in_default-clause-lists : goal.returns-in_default-clause-lists
returns-in_default-clause-lists g c =
    lists-cut_room-absent (absent g c) c.args.room.now c.args.position

pub returns-in_default-clause-kept : goal.returns-in_default-clause-kept
returns-in_default-clause-kept g c = unread_rows-absent (absent g c)
