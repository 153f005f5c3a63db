use Rattle.std.proofs.Common.{sym, ap, ◌∙◌}
use Rattle.std.specs.String.{string_bytes}
use Rattle.mx_room.specs.Members.{membership_at}
use Rattle.mx_room.specs.Rooms.{RoomsView, room_at}
use Rattle.mx_room.specs.State.{RoomState}
use Rattle.mx_room.proofs.HostedLemmas.{room_at-found, room_at-none}
use Rattle.mx_room.proofs.ListingLemmas.{nobody_member}
use Rattle.mx_room.proofs.rooms.Rooms.membership.Goals as goal

pub returns-in-Some : goal.returns-in-Some
returns-in-Some c =
    let server = string_bytes c.self.inside.server in
    let rooms = c.self.inside.rooms.entries in
    c.membership.ensures
    ∙ ap (λ (room : RoomState). membership_at room c.args.user.now)
    (sym (room_at-found server rooms c.args.id.now c.in-Some.hosted.now c.self.invariant (sym c.in-Some.ensures.value)))
    ∙ ap (λ (view : RoomsView). membership_at (room_at view.states c.args.id.now) c.args.user.now) c.self.view_is

pub returns-in-None : goal.returns-in-None
returns-in-None c =
    let server = string_bytes c.self.inside.server in
    let rooms = c.self.inside.rooms.entries in
    sym (nobody_member c.args.user.now)
    ∙ ap (λ (room : RoomState). membership_at room c.args.user.now)
    (sym (room_at-none server rooms c.args.id.now c.self.invariant (sym c.in-None.ensures.value)))
    ∙ ap (λ (view : RoomsView). membership_at (room_at view.states c.args.id.now) c.args.user.now) c.self.view_is
