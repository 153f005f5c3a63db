use Rattle.std.proofs.Common.{sym, ap, ◌∙◌}
use Rattle.mx_room.specs.Rooms.{is_local_member}
use Rattle.mx_room.specs.State.{RoomState}
use Rattle.mx_room.proofs.ListingLemmas.{listing-step}
use Rattle.mx_room.proofs.hosted.HostedRoom.apply.Goals as goal

pub returns-clause-listing : goal.returns-clause-listing
returns-clause-listing c = λ before user.
    listing-step c.args.server.now c.args.plan c.args.self.now.room.state c.args.user c.joins.result
    c.args.self.now.local.users c.set_user.new.local.users c.requires.user c.joins.ensures c.set_user.ensures before
    user
    ∙ ap (λ (room : RoomState). is_local_member c.args.server.now room user) (sym c.apply.ensures.change)
