use Rattle.std.proofs.Common.{◌≡◌, ap}
use Rattle.mx_room.specs.Kept.{KeptRoom, by_text}
use Rattle.mx_room.proofs.KeptLemmas.{by_text-reordered}
use Rattle.mx_room.proofs.room.Room.prepare.Goals as goal
use Rattle.mx_room.proofs.room.Room.prepare.Goals.{After-of}

reordered : (c : After-of) → by_text c.reserve.new.self.entries ≡ by_text c.self.inside.members.entries
reordered c =
    by_text-reordered c.self.inside.members.entries c.reserve.new.self.entries (c.in_ok-reserve.ensures.entries.2)

pub invariant_of-self-2 : goal.invariant_of-self-2
invariant_of-self-2 c = rw (reordered c) c.self.invariant

pub returns-clause-same : goal.returns-clause-same
returns-clause-same c = rw (reordered c) (ap (λ (kept : KeptRoom). kept.state) c.self.view_is)
