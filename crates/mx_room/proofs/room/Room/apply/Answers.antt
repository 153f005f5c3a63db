use Rattle.std.proofs.Common.{rules}
use Rattle.mx_room.proofs.StateLemmas.{room_of-planned}
use Rattle.mx_room.proofs.room.Room.apply.Goals as goal

pub returns-clause-change : goal.returns-clause-change
returns-clause-change c = search rules

pub returns-clause-step : goal.returns-clause-step
returns-clause-step c = λ events event before planned.
    room_of-planned c.args.self.now.state _ c.args.plan events event (returns-clause-change c) before planned
