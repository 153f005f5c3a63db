-- The next step is used up.
use Rattle.std.proofs.Common.{drop, ap}
use Rattle.mx_outside.proofs.Scripts.{used_up_at}
use Rattle.mx_outside.proofs.memory.script.Script.use_up.Goals as goal

pub returns : goal.returns
returns c =
    let inside = c.self.inside in
    let some = rw (← c.self.view_is) at c.requires.some in
    let none = rw (← c.self.view_is) at c.requires.no_bytes in
    rw (← c.self.view_is) (ap (λ (steps : _). record { fails = inside.fails; steps = steps })
    (used_up_at inside.steps.items inside.used (drop inside.given inside.bytes.items) some none))
