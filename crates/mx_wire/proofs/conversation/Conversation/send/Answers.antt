-- Some of the request was sent.
use Rattle.std.proofs.Common.{◌≤◌, ◌∙◌, List, ℕ, ap, length, drop, arith}
use Rattle.std.proofs.lemmas.List.{take_rest}
use Rattle.mx_wire.proofs.Polling.{polls_sends}
use Rattle.mx_wire.proofs.conversation.Conversation.send.Goals as goal

pub returns-in-Moved-clause-polls : goal.returns-in-Moved-clause-polls
returns-in-Moved-clause-polls g c =
    let inside = c.self.inside in
    let going = rw (← c.self.view_is) at c.requires.going in
    let within : inside.sent ≤ length inside.request.items = omega (arith, inside.request.ok.0, c.self.invariant.0) in
    let piece = take_rest c.deref.result.now inside.sent
    ∙ ap (λ (l : List ℕ). drop inside.sent l) c.deref.ensures.value in
    rw (← c.self.view_is) (polls_sends _ _ _ c.in-Moved.count _ going within piece (c.in-Moved.ensures).sent
    (c.in-Moved.ensures).log)
