-- One more place.
use Rattle.std.proofs.Common.{◌≡◌, ◌∙◌, ap}
use Rattle.mx_outside.specs.Script.{unscripted}
use Rattle.mx_outside.specs.ScriptLink.{place_for}
use Rattle.mx_outside.proofs.Placed.{one_more_place}
use Rattle.mx_outside.proofs.memory.script_link.add_places.Goals as goal

pub loop-preserved : goal.loop-preserved
loop-preserved c =
    let bare : c.in_ok-new.field-0 ≡ place_for c.args.room unscripted = (c.in_ok-new.ensures)
    ∙ ap (place_for c.args.room) c.unscripted.ensures in
    one_more_place c.args.places.now.items c.loop.places.items _ c.in_ok-new.field-0 (place_for c.args.room unscripted)
    c.loop.counter c.loop.invariant bare (c.in_ok-push.ensures).items
