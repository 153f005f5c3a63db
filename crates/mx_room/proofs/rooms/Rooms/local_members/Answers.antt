use Rattle.std.proofs.Common.{sym, ap, ◌∙◌}
use Rattle.std.specs.List.{list_any}
use Rattle.std.specs.Str.{bytes_eq}
use Rattle.std.specs.String.{string_bytes}
use Rattle.mx_room.specs.Rooms.{RoomsView, is_local_member, room_at}
use Rattle.mx_room.specs.State.{RoomState}
use Rattle.mx_room.proofs.HostedLemmas.{hosted-found, room_at-found, room_at-none}
use Rattle.mx_room.proofs.ListingLemmas.{distinct-none, nobody_joined}
use Rattle.mx_room.proofs.rooms.Rooms.local_members.Goals as goal

pub returns-in-Some-clause-members : goal.returns-in-Some-clause-members
returns-in-Some-clause-members c = λ user.
    let server = string_bytes c.self.inside.server in
    let rooms = c.self.inside.rooms.entries in
    let found = sym c.in-Some.ensures.value in
    ap (list_any (bytes_eq user)) c.users.ensures.users
    ∙ (hosted-found server rooms c.args.id.now c.in-Some.hosted.now c.self.invariant found).listing user
    ∙ ap (λ (room : RoomState). is_local_member server room user)
    (sym (room_at-found server rooms c.args.id.now c.in-Some.hosted.now c.self.invariant found))
    ∙ ap (λ (view : RoomsView). is_local_member view.server (room_at view.states c.args.id.now) user) c.self.view_is

pub returns-in-None-clause-members : goal.returns-in-None-clause-members
returns-in-None-clause-members c = λ user.
    let server = string_bytes c.self.inside.server in
    let rooms = c.self.inside.rooms.entries in
    sym (nobody_joined server user)
    ∙ ap (λ (room : RoomState). is_local_member server room user)
    (sym (room_at-none server rooms c.args.id.now c.self.invariant (sym c.in-None.ensures.value)))
    ∙ ap (λ (view : RoomsView). is_local_member view.server (room_at view.states c.args.id.now) user) c.self.view_is

pub returns-in-None-clause-distinct : goal.returns-in-None-clause-distinct
returns-in-None-clause-distinct c = distinct-none
