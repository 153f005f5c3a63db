-- A step of bytes is told by the number of those that are left of it.
use Rattle.std.proofs.Common.{◌≡◌, ◌<◌, ◌-◌, ◌∙◌, min, sym, length, drop, arith}
use Rattle.mx_outside.proofs.Scripts.{told_next, bytes_are_some}
use Rattle.mx_outside.proofs.memory.script.Script.next.Goals as goal

pub returns-in-Bytes-clause-next : goal.returns-in-Bytes-clause-next
returns-in-Bytes-clause-next c =
    let inside = c.self.inside in
    let within : inside.used < length inside.steps.items = omega (arith, inside.steps.ok.0) in
    let is = rw c.in-Bytes.is at c.index.ensures in
    let least : c.min.result ≡ min c.in-Bytes.count (length inside.bytes.items - inside.given) =
    omega (arith, inside.bytes.ok.0) in
    rw (← c.self.view_is) (told_next inside.steps.items inside.used inside.bytes.items inside.given c.in-Bytes.count
    c.min.result _ within is least c.bytes_or_wait.ensures)

pub returns-in-Bytes-clause-some : goal.returns-in-Bytes-clause-some
returns-in-Bytes-clause-some c = λ count told.
    let inside = c.self.inside in
    let within : inside.used < length inside.steps.items = omega (arith, inside.steps.ok.0) in
    let is = rw c.in-Bytes.is at c.index.ensures in
    let least : c.min.result ≡ min c.in-Bytes.count (length inside.bytes.items - inside.given) =
    omega (arith, inside.bytes.ok.0) in
    let next = told_next inside.steps.items inside.used inside.bytes.items inside.given c.in-Bytes.count c.min.result _
    within is least c.bytes_or_wait.ensures in
    rw (← c.self.view_is) (bytes_are_some (drop inside.used inside.steps.items) (drop inside.given inside.bytes.items)
    count (sym told ∙ next))
