-- The bytes are used up, all of those that come next or some.
use Rattle.std.proofs.Common.{◌≡◌, ◌<◌, ◌-◌, List, min, length, drop, ap, ◌∙◌, arith}
use Rattle.mx_outside.specs.Script.{Step}
use Rattle.mx_outside.proofs.Scripts.{used_all, used_some, fewer_than, in_range}
use Rattle.mx_outside.proofs.memory.script.Script.use_bytes.Goals as goal

pub returns-then-count-available : goal.returns-then-count-available
returns-then-count-available c =
    let inside = c.self.inside in
    let fits = rw (← c.self.view_is) at c.requires.within in
    let within : inside.used < length inside.steps.items =
    in_range inside.steps.items inside.used (drop inside.given inside.bytes.items) (omega arith) in
    let is = rw c.in-Bytes.is at c.index.ensures in
    let all : c.args.count ≡ min c.in-Bytes.planned (length inside.bytes.items - inside.given) =
    omega (arith, inside.bytes.ok.0) in
    rw (← c.self.view_is) (ap (λ (steps : List Step). record { fails = inside.fails; steps = steps })
    (used_all inside.steps.items inside.used inside.bytes.items inside.given c.in-Bytes.planned c.args.count within
    is all))

pub returns-else-count-available : goal.returns-else-count-available
returns-else-count-available c =
    let inside = c.self.inside in
    let fits = rw (← c.self.view_is) at c.requires.within in
    let within : inside.used < length inside.steps.items =
    in_range inside.steps.items inside.used (drop inside.given inside.bytes.items) (omega arith) in
    let is = rw c.in-Bytes.is at c.index.ensures in
    let fewer : c.args.count < min c.in-Bytes.planned (length inside.bytes.items - inside.given) =
    fewer_than inside.steps.items inside.used inside.bytes.items inside.given c.in-Bytes.planned c.args.count within
    is fits (λ same. c.if-count-available.false (same ∙ omega (arith, inside.bytes.ok.0))) in
    rw (← c.self.view_is) (ap (λ (steps : List Step). record { fails = inside.fails; steps = steps })
    (used_some inside.steps.items inside.used inside.bytes.items inside.given c.in-Bytes.planned c.args.count within
    is fewer))
