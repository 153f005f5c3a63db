use Rattle.std.proofs.Common.{ap, ◌∙◌}
use Rattle.std.specs.String.{string_bytes}
use Rattle.mx_room.specs.Rooms.{RoomsView}
use Rattle.mx_room.proofs.rooms.Rooms.prepare.Goals as goal

pub invariant_of-self : goal.invariant_of-self
invariant_of-self c = (c.enter.ensures.keeps (string_bytes c.self.inside.server) c.self.invariant).hosted

pub returns-in_err-enter-clause-states : goal.returns-in_err-enter-clause-states
returns-in_err-enter-clause-states c =
    (c.enter.ensures.keeps (string_bytes c.self.inside.server) c.self.invariant).states
    ∙ ap (λ (view : RoomsView). view.states) c.self.view_is

pub invariant_of-self-2 : goal.invariant_of-self-2
invariant_of-self-2 c =
    let server = string_bytes c.self.inside.server in
    let entered = c.enter.ensures.keeps server c.self.invariant in
    (c.prepare_in.ensures.keeps server entered.hosted).hosted

pub returns-clause-states : goal.returns-clause-states
returns-clause-states c =
    let server = string_bytes c.self.inside.server in
    let entered = c.enter.ensures.keeps server c.self.invariant in
    (c.prepare_in.ensures.keeps server entered.hosted).states ∙ entered.states
    ∙ ap (λ (view : RoomsView). view.states) c.self.view_is
