use Rattle.std.proofs.Common.{◌<◌, All, None, Some, IsSome, refl, sym, subst, ap, ◌∙◌}
use Rattle.std.proofs.lemmas.Bool.{false≢true}
use Rattle.mx_room.specs.Texts.{Texts}
use Rattle.mx_engine.specs.KeptRows.{ThreadSet, has_capacity_in, list_in}
use Rattle.mx_records.specs.Snapshot.{RoomRows}
use Rattle.mx_engine.proofs.UnreadLemmas.{IsWritten, capacity-used, capacity_in-empty, lists-pushed, ready-found}
use Rattle.mx_engine.proofs.UnreadLemmas.{rooms-found, unread_rows-written}
use Rattle.mx_engine.proofs.kept_rows.UnreadRows.push.Given.{Over}
use Rattle.mx_engine.proofs.kept_rows.UnreadRows.push.Goals as goal

written : (g : Over) (c : goal.After-self-in-Some-1 g)
    → IsWritten c.self.inside.users.entries (c.get_mut.follows.lender c.push.new.self).entries c.args.user.now
    (Some c.in-Some.rows.now) c.push.new.self c.args.self.now
written g c =
    let by = c.get_mut.follows.holds c.push.new.self in
    record {
      are = c.self.invariant;
      view_is = c.self.view_is;
      distinct = by.4;
      found = sym c.in-Some.ensures.value;
      updated = (by.3 (subst IsSome c.in-Some.ensures.value refl)).0;
      rows = c.push.ensures.kept;
    }

pub returns-clause-lists : goal.returns-clause-lists
returns-clause-lists g c =
    lists-pushed (written g c) c.args.room.now c.args.thread.now
    (record { position = c.args.position; highlight = c.args.highlight }) c.push.ensures.lists

pub returns-clause-capacity : goal.returns-clause-capacity
returns-clause-capacity g c =
    capacity-used (written g c) c.args.room.now c.args.thread.now c.push.ensures.capacity

pub returns-clause-kept : goal.returns-clause-kept
returns-clause-kept g c = unread_rows-written (written g c)

pub push-requires-clause-capacity : goal.push-requires-clause-capacity
push-requires-clause-capacity g c =
    ap (λ (rooms : Texts ThreadSet). has_capacity_in rooms c.args.room.now c.args.thread.now)
    (sym (ready-found c.self.inside.users.entries c.self.invariant c.args.user.now (Some c.in-Some.rows.now)
    (sym c.in-Some.ensures.value) c.args.self.now c.self.view_is))
    ∙ c.requires.capacity

pub push-requires-clause-above : goal.push-requires-clause-above
push-requires-clause-above g c = λ t.
    subst (λ (rooms : Texts RoomRows). All (λ row. row.position < c.args.position) (list_in rooms c.args.room.now t))
    (rooms-found c.self.inside.users.entries c.self.invariant c.args.user.now (Some c.in-Some.rows.now)
    (sym c.in-Some.ensures.value) c.args.self.now c.self.view_is)
    (c.requires.above t)

pub unreachable-requires : goal.unreachable-requires
unreachable-requires g c =
    false≢true
    (sym (ap (λ (rooms : Texts ThreadSet). has_capacity_in rooms c.args.room.now c.args.thread.now)
    (ready-found c.self.inside.users.entries c.self.invariant c.args.user.now None (sym c.in-None.ensures.value)
    c.args.self.now c.self.view_is)
    ∙ capacity_in-empty c.args.room.now c.args.thread.now)
    ∙ c.requires.capacity)
