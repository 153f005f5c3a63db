use Rattle.std.proofs.Common.{Some, IsSome, is_ok, refl, sym, subst, ap, ◌∙◌}
use Rattle.mx_engine.specs.KeptRows.{UnreadView, unread_view}
use Rattle.mx_engine.proofs.UnreadLemmas.{IsWritten, are_unread_rows, capacity-made, seen-same, unread_rows-written}
use Rattle.mx_engine.proofs.kept_rows.UnreadRows.reserve.Given.{Over}
use Rattle.mx_engine.proofs.kept_rows.UnreadRows.reserve.Goals as goal

written : (g : Over) (c : goal.After-self-in-Some-1 g)
    → IsWritten c.self.inside.users.entries (c.get_mut.follows.lender c.reserve.new.self).entries c.args.user.now
    (Some c.in-Some.rows.now) c.reserve.new.self c.args.self.now
written g c =
    let by = c.get_mut.follows.holds c.reserve.new.self in
    record {
      are = c.self.invariant;
      view_is = c.self.view_is;
      distinct = by.4;
      found = sym c.in-Some.ensures.value;
      updated = (by.3 (subst IsSome c.in-Some.ensures.value refl)).0;
      rows = c.reserve.ensures.kept;
    }

pub returns-in-Some-clause-unread : goal.returns-in-Some-clause-unread
returns-in-Some-clause-unread g c = seen-same (written g c) c.reserve.ensures.rooms

pub returns-in-Some-clause-capacity : goal.returns-in-Some-clause-capacity
returns-in-Some-clause-capacity g c =
    capacity-made (written g c) c.args.room.now c.args.thread.now (is_ok c.reserve.result) c.reserve.ensures.capacity

pub returns-in-Some-clause-kept : goal.returns-in-Some-clause-kept
returns-in-Some-clause-kept g c = unread_rows-written (written g c)

pub returns-in-None-clause-unread : goal.returns-in-None-clause-unread
returns-in-None-clause-unread g c =
    c.enter.ensures.unread ∙ (λ i. (unread_view (c.get_mut.follows.holds-at-none i).entries).unread)
    ∙ ap (λ (v : UnreadView). v.unread) c.self.view_is

pub returns-in-None-clause-kept : goal.returns-in-None-clause-kept
returns-in-None-clause-kept g c = are_unread_rows c.enter.new.users.entries c.enter.ensures.kept
