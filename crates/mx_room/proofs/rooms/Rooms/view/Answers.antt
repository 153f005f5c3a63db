use Rattle.std.proofs.Common.{◌≡◌, true, is_some, sym, ap, ◌∙◌}
use Rattle.std.specs.FinSet as set
use Rattle.std.specs.String.{string_bytes}
use Rattle.std.proofs.lemmas.Bool.{false≢true}
use Rattle.mx_room.specs.Change.{with_sets}
use Rattle.mx_room.specs.Hosted.{ready_in}
use Rattle.mx_room.specs.Rooms.{PlannedRoom, RoomsView, room_at}
use Rattle.mx_room.proofs.HostedLemmas.{ready-there, room_at-found}
use Rattle.mx_room.proofs.rooms.Rooms.view.Goals as goal

pub unreachable-requires : goal.unreachable-requires
unreachable-requires c =
    let rooms = c.self.inside.rooms.entries in
    let ready : set.contains (ready_in rooms) c.plan.inside.id ≡ true
    = ap (λ (plan : PlannedRoom). set.contains (ready_in rooms) plan.id) c.plan.view_is
    ∙ ap (λ (view : RoomsView). set.contains view.capacity c.args.plan.now.id) c.self.view_is ∙ c.requires in
    false≢true
    (ap is_some c.in-None.ensures.value
    ∙ ready-there (string_bytes c.self.inside.server) rooms c.plan.inside.id c.self.invariant ready)

pub returns : goal.returns
returns c =
    c.view.ensures.state
    ∙ ap (with_sets c.plan.inside.room)
    (sym (room_at-found (string_bytes c.self.inside.server) c.self.inside.rooms.entries c.plan.inside.id
    c.in-Some.hosted.now c.self.invariant (sym c.in-Some.ensures.value)))
    ∙ (λ i. with_sets (c.plan.view_is i).sets (room_at (c.self.view_is i).states (c.plan.view_is i).id))
