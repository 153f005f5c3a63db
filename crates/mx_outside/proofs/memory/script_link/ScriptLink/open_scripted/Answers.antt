-- The next exchange was opened.
use Rattle.std.proofs.Common.{◌<◌, length, arith}
use Rattle.std.proofs.lemmas.List.{length-drop}
use Rattle.mx_outside.proofs.Placed.{opens_scripted}
use Rattle.mx_outside.proofs.memory.script_link.ScriptLink.open_scripted.Goals as goal

pub returns-clause-opens : goal.returns-clause-opens
returns-clause-opens c =
    let inside = c.self.inside in
    let some = rw (← c.self.view_is) at c.requires in
    let within : inside.opened < length inside.places.items = omega (arith, simp length-drop at some) in
    rw (← c.self.view_is) (opens_scripted inside.opened inside.places.items c.index_mut.result.now c.open.new.self _ _ _
    _ _ _ within c.index_mut.ensures.value (c.in_ok-fails.ensures).0 (c.in_ok-fails.ensures).1)
