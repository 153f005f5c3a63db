use Rattle.std.proofs.Common.{◌<◌, All, IsSome, None, Some, refl, sym, subst, ◌∙◌}
use Rattle.std.proofs.lemmas.Bool.{false≢true}
use Rattle.mx_rows.specs.declared.row.Row.{Row}
use Rattle.mx_engine.proofs.UserRowsLemmas.{IsWritten, MeetsLaws, are_user_rows, capacity-used, capacity_in-found}
use Rattle.mx_engine.proofs.UserRowsLemmas.{list_in-found, lists-pushed, rooms-pushed}
use Rattle.mx_engine.proofs.user_rows.UserRows.push.Given.{Over}
use Rattle.mx_engine.proofs.user_rows.UserRows.push.Goals as goal

laws : (g : Over) → MeetsLaws g.R.Rows
laws g =
    let met = g.met.R.Rows in
    record { kept = met.kept; once = met.once; in_order = met.in_order; rising = met.rising }

written : (g : Over) (c : goal.After-self-in-Some-1 g)
    → IsWritten g.R.Rows c.self.inside.rooms.entries (c.get_mut.follows.lender c.push.new.self).entries
    c.args.room.now c.in-Some.rows.now c.push.new.self c.args.self.now
written g c =
    let by = c.get_mut.follows.holds c.push.new.self in
    record {
      are = c.self.invariant;
      view_is = c.self.view_is;
      distinct = by.4;
      found = sym c.in-Some.ensures.value;
      updated = (by.3 (subst IsSome c.in-Some.ensures.value refl)).0;
    }

pub returns-clause-lists : goal.returns-clause-lists
returns-clause-lists g c =
    lists-pushed (laws g) (written g c) c.args.thread.now
    (record { position = c.args.position; highlight = c.args.highlight }) c.push.ensures.lists

pub returns-clause-capacity : goal.returns-clause-capacity
returns-clause-capacity g c =
    capacity-used (laws g) (written g c) c.args.thread.now c.push.ensures.capacity

pub invariant_of-self : goal.invariant_of-self
invariant_of-self g c =
    rooms-pushed (laws g) (written g c) c.args.thread.now
    (record { position = c.args.position; highlight = c.args.highlight }) c.push.ensures.lists c.requires.above

pub returns-clause-kept : goal.returns-clause-kept
returns-clause-kept g c =
    are_user_rows (laws g) _
    (rooms-pushed (laws g) (written g c) c.args.thread.now
    (record { position = c.args.position; highlight = c.args.highlight }) c.push.ensures.lists c.requires.above)

pub push-requires-clause-capacity : goal.push-requires-clause-capacity
push-requires-clause-capacity g c =
    sym (capacity_in-found (laws g) c.self.inside.rooms.entries c.self.invariant c.args.room.now
    (Some c.in-Some.rows.now) (sym c.in-Some.ensures.value) c.args.self.now c.self.view_is c.args.thread.now)
    ∙ c.requires.capacity

pub push-requires-clause-above : goal.push-requires-clause-above
push-requires-clause-above g c =
    subst (All (λ (row : Row). row.position < c.args.position))
    (list_in-found (laws g) c.self.inside.rooms.entries c.self.invariant c.args.room.now
    (Some c.in-Some.rows.now) (sym c.in-Some.ensures.value) c.args.self.now c.self.view_is c.args.thread.now)
    (c.requires.above c.args.thread.now)

pub unreachable-requires : goal.unreachable-requires
unreachable-requires g c =
    false≢true
    (sym (capacity_in-found (laws g) c.self.inside.rooms.entries c.self.invariant c.args.room.now None
    (sym c.in-None.ensures.value) c.args.self.now c.self.view_is c.args.thread.now)
    ∙ c.requires.capacity)
