use Rattle.std.proofs.Common.{sym, ap, ◌∙◌}
use Rattle.mx_room.specs.Hosted.{states_in}
use Rattle.mx_room.proofs.RoomsLemmas.{rooms_of-none}
use Rattle.mx_room.proofs.rooms.Rooms.new.Goals as goal

pub returns-clause-states : goal.returns-clause-states
returns-clause-states c = ap states_in c.new.ensures.empty ∙ sym rooms_of-none
