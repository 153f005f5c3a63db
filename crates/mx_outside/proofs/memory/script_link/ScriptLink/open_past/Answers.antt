-- An exchange past those that have a place was opened.
use Rattle.std.proofs.Common.{◌≡◌, ◌≤◌, ◌∙◌, false, ap, length, arith}
use Rattle.mx_outside.specs.Script.{unscripted}
use Rattle.mx_outside.specs.ScriptLink.{Place, place_for}
use Rattle.mx_outside.proofs.Placed.{opens_past}
use Rattle.mx_outside.proofs.memory.script_link.ScriptLink.open_past.Goals as goal

pub returns-clause-opens : goal.returns-clause-opens
returns-clause-opens c =
    let inside = c.self.inside in
    let none = rw (← c.self.view_is) at c.requires in
    let within : inside.opened ≤ length inside.places.items = omega (arith, inside.places.ok.0, c.self.invariant.0) in
    let bare : c.in_ok-place.place ≡ place_for 0 unscripted = (c.in_ok-place.ensures)
    ∙ ap (place_for 0) c.unscripted.ensures in
    let opens = rw bare at (c.in_ok-fails.ensures).1 in
    let fails : c.in_ok-fails.fails ≡ false = (c.in_ok-fails.ensures).0 ∙ ap (λ (p : Place). p.play.fails) bare in
    rw (← c.self.view_is, (c.in_ok-push.ensures).items)
    (opens_past inside.opened inside.places.items c.open.new.self _ _ _ _ _ _ within none fails opens)
