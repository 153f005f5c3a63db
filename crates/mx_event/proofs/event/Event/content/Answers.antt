use Rattle.std.proofs.Common.{codes, sym, ◌∙◌}
use Rattle.mx_json.proofs.JsonLemmas.{is_valid-member}
use Rattle.mx_event.proofs.EventLemmas.{content-from_event}
use Rattle.mx_event.proofs.event.Event.content.Goals as goal

pub unreachable-requires : goal.unreachable-requires
unreachable-requires c =
    let held = c.self.invariant in
    content-from_event c.self.inside.json held.event (sym (c.in-None.ensures ∙ held.places_are.content_is))

pub returns-clause-valid : goal.returns-clause-valid
returns-clause-valid c =
    let held = c.self.invariant in
    let found = sym (c.in-Some.ensures ∙ held.places_are.content_is) in
    is_valid-member (codes "content") c.self.inside.json c.in-Some.content.now held.valid found
