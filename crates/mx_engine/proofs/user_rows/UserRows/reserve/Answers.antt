use Rattle.std.proofs.Common.{[], false, ◌&&◌, ◌||◌, is_ok, IsSome, refl, sym, subst, ◌∙◌}
use Rattle.std.specs.Map.{lookup}
use Rattle.std.specs.Option.{option_map_or}
use Rattle.std.specs.Str.{bytes_eq}
use Rattle.mx_engine.specs.KeptRows.{is_thread}
use Rattle.mx_engine.proofs.UserRowsLemmas.{IsEntered, IsWritten, MeetsLaws, are_user_rows, capacity-entered}
use Rattle.mx_engine.proofs.UserRowsLemmas.{capacity-made, rooms-entered, rooms-same, seen-entered, seen-same}
use Rattle.mx_engine.proofs.user_rows.UserRows.reserve.Given.{Over}
use Rattle.mx_engine.proofs.user_rows.UserRows.reserve.Goals as goal

laws : (g : Over) → MeetsLaws g.R.Rows
laws g =
    let met = g.met.R.Rows in
    record { kept = met.kept; once = met.once; in_order = met.in_order; rising = met.rising }

written : (g : Over) (c : goal.After-self-in-Some-1 g)
    → IsWritten g.R.Rows c.self.inside.rooms.entries (c.get_mut.follows.lender c.reserve.new.self).entries
    c.args.room.now c.in-Some.rows.now c.reserve.new.self c.args.self.now
written g c =
    let by = c.get_mut.follows.holds c.reserve.new.self in
    record {
      are = c.self.invariant;
      view_is = c.self.view_is;
      distinct = by.4;
      found = sym c.in-Some.ensures.value;
      updated = (by.3 (subst IsSome c.in-Some.ensures.value refl)).0;
    }

pub invariant_of-self : goal.invariant_of-self
invariant_of-self g c = rooms-same (laws g) (written g c) c.reserve.ensures.lists

pub returns-in-Some-clause-rooms : goal.returns-in-Some-clause-rooms
returns-in-Some-clause-rooms g c = seen-same (laws g) (written g c) c.reserve.ensures.lists

pub returns-in-Some-clause-capacity : goal.returns-in-Some-clause-capacity
returns-in-Some-clause-capacity g c =
    capacity-made (laws g) (written g c) c.args.thread.now (is_ok c.reserve.result) c.reserve.ensures.capacity

pub returns-in-Some-clause-kept : goal.returns-in-Some-clause-kept
returns-in-Some-clause-kept g c =
    are_user_rows (laws g) _ (rooms-same (laws g) (written g c) c.reserve.ensures.lists)

entered : (g : Over) (c : goal.After-enter g)
    → IsEntered g.R.Rows c.self.inside.rooms.entries c.enter.new.rooms.entries c.args.self.now
entered g c = record {
  are = c.self.invariant;
  view_is = c.self.view_is;
  distinct = c.enter.ensures.distinct;
  lists = λ r t. c.enter.ensures.lists r t
      ∙ (λ i. option_map_or (λ rows. g.R.Rows.list rows t)
      (lookup (bytes_eq r) (c.get_mut.follows.holds-at-none i).entries) []);
}

pub invariant_of-self-in-None : goal.invariant_of-self-in-None
invariant_of-self-in-None g c = rooms-entered (laws g) (entered g c)

pub returns-in-None-clause-rooms : goal.returns-in-None-clause-rooms
returns-in-None-clause-rooms g c = seen-entered (laws g) (entered g c)

pub returns-in-None-clause-capacity : goal.returns-in-None-clause-capacity
returns-in-None-clause-capacity g c =
    capacity-entered (laws g) (entered g c) c.args.thread.now (is_ok c.enter.result) c.args.room.now
    (λ r t. c.enter.ensures.capacity r t
    ∙ (λ i. option_map_or (λ rows. g.R.Rows.has_capacity rows t)
    (lookup (bytes_eq r) (c.get_mut.follows.holds-at-none i).entries) false
    || (is_ok c.enter.result && is_thread c.args.room.now c.args.thread.now r t)))

pub returns-in-None-clause-kept : goal.returns-in-None-clause-kept
returns-in-None-clause-kept g c = are_user_rows (laws g) _ (rooms-entered (laws g) (entered g c))
