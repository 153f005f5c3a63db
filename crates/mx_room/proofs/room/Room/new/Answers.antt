use Rattle.mx_room.proofs.KeptLemmas.{no_joined, room_of-none}
use Rattle.mx_room.proofs.room.Room.new.Goals as goal

pub invariant_of-result : goal.invariant_of-result
invariant_of-result c = no_joined c.new.result.entries c.new.ensures.empty

pub returns : goal.returns
returns c = room_of-none c.new.result.entries c.in_ok-of.field-0 c.new.ensures.empty c.in_ok-of.ensures
