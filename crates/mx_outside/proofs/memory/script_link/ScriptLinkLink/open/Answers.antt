-- The next exchange was opened, and a failure was counted.
use Rattle.std.proofs.Common.{ap, length, sym, ◌∙◌, arith}
use Rattle.std.proofs.lemmas.List.{length-take-le}
use Rattle.mx_outside.specs.ScriptLink.{Scripted}
use Rattle.mx_outside.proofs.Placed.{opens_counted}
use Rattle.mx_outside.proofs.memory.script_link.ScriptLinkLink.open.Goals as goal

pub returns-in-Ok-true-clause-script : goal.returns-in-Ok-true-clause-script
returns-in-Ok-true-clause-script c =
    let opens = rw (c.in-Ok-true.field-0-test, ← c.self.view_is) at (c.in-Ok-true.ensures).opens in
    let faults = ap (λ (link : Scripted). link.faults) c.self.view_is in
    let waits = ap (λ (link : Scripted). link.waits) c.self.view_is in
    let counts = c.open_next.ensures.counts in
    (opens_counted _ _ _ _ _ _ opens, omega (arith, faults, counts.0), omega (arith, waits, counts.1))

pub returns-in-Ok-false-clause-script : goal.returns-in-Ok-false-clause-script
returns-in-Ok-false-clause-script c =
    let inside = c.self.inside in
    let opens = rw c.in-Ok-false.field-0-test at (c.in-Ok-false.ensures).opens in
    let long = length-take-le inside.opened inside.places.items
    (omega (arith, inside.places.ok.0, c.self.invariant.0)) in
    let same = ap (λ (link : Scripted). length link.opened) c.self.view_is in
    (opens, sym long ∙ same, c.open_next.ensures.counts)
