-- What the bytes received hold.
use Rattle.std.proofs.Common.{◌≡◌, ◌++◌, ◌∙◌, List, ℕ, false, length, ap, refl, sym, subst, arith}
use Rattle.mx_wire.specs.Reader.{outcome_of}
use Rattle.mx_wire.specs.Reply.{Reads}
use Rattle.mx_wire.specs.Standing.{after_bytes}
use Rattle.mx_wire.proofs.Steps.{Takes-then, has_read, found_body}
use Rattle.mx_wire.proofs.conversation.Conversation.take.Goals as goal

pub returns-clause-heard : goal.returns-clause-heard
returns-clause-heard c =
    let inside = c.self.inside in
    let reader = c.feed.new.self in
    let held = reader.held.items in
    let received = c.extend_from_slice.new.self.items in
    let o = outcome_of reader.stage reader.status held false in
    let all : received ≡ inside.received.items ++ c.args.piece.now = (c.in-Ok.ensures).items in
    let taken = Takes-then _ _ _ _ _ _ _ _ _ _ _ c.self.invariant.5 c.feed.ensures.takes in
    let reads = subst (λ (l : List ℕ). Reads l false o) (sym all)
    (has_read _ reader.stage reader.status held false taken) in
    let count : c.len.result ≡ length received = omega (arith, c.extend_from_slice.new.self.ok.0) in
    let answer = c.after_bytes-turn.ensures.answer o c.found.ensures ∙ ap (λ n. after_bytes n o) count in
    rw (← c.self.view_is) (record {
      opened_at = refl;
      number = refl;
      request = refl;
      sent = refl;
      received = all;
      answers = (o, reads, answer, found_body reader.stage reader.status held false);
      done = c.is_done-self-inside.ensures;
    })
