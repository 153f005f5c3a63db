-- What the bytes received hold at the link's end.
use Rattle.std.proofs.Common.{true, refl, sym, append-nil}
use Rattle.mx_wire.specs.Reader.{outcome_of}
use Rattle.mx_wire.proofs.Steps.{has_read, found_body}
use Rattle.mx_wire.proofs.conversation.Conversation.end.Goals as goal

pub returns-clause-heard : goal.returns-clause-heard
returns-clause-heard c =
    let inside = c.self.inside in
    let reader = inside.reader in
    let held = reader.held.items in
    let o = outcome_of reader.stage reader.status held true in
    rw (← c.self.view_is) (record {
      opened_at = refl;
      number = refl;
      request = refl;
      sent = refl;
      received = sym (append-nil inside.received.items);
      answers = (
        o,
        has_read inside.received.items reader.stage reader.status held true c.self.invariant.5,
        c.after_end.ensures.answer o c.found.ensures,
        found_body reader.stage reader.status held true,
      );
      done = sym c.after_end.ensures.done;
    })
