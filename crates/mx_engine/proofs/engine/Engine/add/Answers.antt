use Rattle.std.proofs.Common.{◌≡◌, ◌≤◌, ◌+◌, ◌∙◌, ◌++◌, ap, sym, subst}
use Rattle.std.specs.List.{list_any}
use Rattle.std.specs.Map.{keys_of}
use Rattle.std.specs.Str.{bytes_eq}
use Rattle.mx_thread.specs.Place.{Places}
use Rattle.mx_records.specs.Refusing.{most_inputs}
use Rattle.mx_engine.specs.KeptRows.{has_capacity, list_at}
use Rattle.mx_engine.specs.Planning.{event_planned, row_added, rows_with_event}
use Rattle.mx_engine.specs.Telling.{said_in}
use Rattle.mx_engine.specs.View.{View}
use Rattle.mx_engine.proofs.PlacesLemmas.{IsInRange, in_range-insert}
use Rattle.mx_engine.proofs.TellingLemmas.{capacity-all, rows-told}
use Rattle.mx_engine.proofs.UptoLemmas.{upto-below, upto-event}
use Rattle.mx_engine.proofs.engine.Engine.add.Goals as goal

pub push_rows-requires-clause-capacity : goal.push_rows-requires-clause-capacity
push_rows-requires-clause-capacity g c = λ user listed.
    let rows = ap (λ (v : View). v.capacity.rows) c.self.view_is in
    let here = c.requires.placed.place_room in
    (λ i. has_capacity (rows i) user (here i) c.args.plan.place.thread)
    ∙ c.requires.capacity.rows user (capacity-all c.args.plan.users.items user
    (ap (λ l. list_any (bytes_eq user) (keys_of l)) (sym c.as_slice.ensures.value) ∙ listed))

pub push_rows-requires-clause-above : goal.push_rows-requires-clause-above
push_rows-requires-clause-above g c = λ u r t.
    upto-below c.self.inside.inputs c.args.position (list_at c.self.inside.unread.unread u r t)
    (c.requires.next ∙ ap (λ (v : View). v.shown.inputs + 1) (sym c.self.view_is)) (c.self.invariant.3 u r t)

pub invariant_of-self : goal.invariant_of-self
invariant_of-self g c =
    let next : c.args.position ≡ c.self.inside.inputs + 1 =
    c.requires.next ∙ ap (λ (v : View). v.shown.inputs + 1) (sym c.self.view_is) in
    let in_range : c.args.plan.place.position ≤ most_inputs
    = subst (λ n. n ≤ most_inputs) (sym c.requires.placed.place) c.requires.in_range in (
      c.self.invariant.0 ∙ sym c.apply.ensures.server,
      c.requires.in_range,
      c.cut_mover.ensures.kept (c.push_rows.ensures.kept c.self.invariant.2),
      λ u r t.
          let old = list_at c.self.inside.unread.unread u r t in
          let new = list_at c.cut_mover.new.unread.unread u r t in
          let is : new ≡ rows_with_event c.args.position (event_planned c.args.plan) u r t old =
          rows-told c.args.position c.args.plan.place.room c.args.plan.room.id c.args.plan.place.thread
          c.args.plan.users.items c.args.plan.mover u r t old (list_at c.push_rows.new.unread.unread u r t) new
          c.requires.placed.place_room
          (c.push_rows.ensures.lists u r t
          ∙ ap (λ l. old ++ row_added c.args.position c.args.plan.place.room c.args.plan.place.thread (said_in l) u r t)
          c.as_slice.ensures.value)
          (c.cut_mover.ensures.lists u r t) in
          upto-event c.self.inside.inputs c.args.position (event_planned c.args.plan) u r t old new next is
          (c.self.invariant.3 u r t),
      λ id. subst (λ (places : Places). IsInRange places id) (sym c.note.ensures.places)
          (in_range-insert c.self.inside.places.places c.args.plan.id c.args.plan.place in_range c.self.invariant.4 id),
    )

pub returns-clause-rows : goal.returns-clause-rows
returns-clause-rows g c = λ u r t.
    let old = list_at c.self.inside.unread.unread u r t in
    rows-told c.args.position c.args.plan.place.room c.args.plan.room.id c.args.plan.place.thread
    c.args.plan.users.items c.args.plan.mover u r t old
    (list_at c.push_rows.new.unread.unread u r t) (list_at c.cut_mover.new.unread.unread u r t)
    c.requires.placed.place_room
    (c.push_rows.ensures.lists u r t
    ∙ ap (λ l. old ++ row_added c.args.position c.args.plan.place.room c.args.plan.place.thread (said_in l) u r t)
    c.as_slice.ensures.value)
    (c.cut_mover.ensures.lists u r t)
    ∙ ap (λ (v : View).
    rows_with_event c.args.position (event_planned c.args.plan) u r t (list_at v.shown.unread u r t))
    c.self.view_is
