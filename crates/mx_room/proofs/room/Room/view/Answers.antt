use Rattle.std.specs.Option.{option_copied}
use Rattle.mx_room.proofs.StateLemmas.{room_of-viewed}
use Rattle.mx_room.proofs.room.Room.view.Goals as goal

pub returns-clause-step : goal.returns-clause-step
returns-clause-step c = λ events event before planned.
    room_of-viewed c.args.self.now.state c.of.result (option_copied c.args.plan) events event c.of.ensures before
    planned
