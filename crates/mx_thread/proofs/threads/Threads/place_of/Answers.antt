use Rattle.std.proofs.Common.{sym, ap, ◌∙◌}
use Rattle.mx_thread.specs.Place.{place_in}
use Rattle.mx_thread.specs.ThreadsView.{ThreadsView}
use Rattle.mx_thread.proofs.ViewLemmas.{get-view, place_found}
use Rattle.mx_thread.proofs.threads.Threads.place_of.Goals as goal

pub returns-in-Some : goal.returns-in-Some
returns-in-Some c =
    c.as_ref.ensures.value ∙ ap place_found c.in-Some.ensures.value
    ∙ sym (get-view c.self.inside.places.entries c.self.invariant c.args.id.now)
    ∙ ap (λ (threads : ThreadsView). place_in threads.places c.args.id.now) c.self.view_is

pub returns-in-None : goal.returns-in-None
returns-in-None c =
    ap place_found c.in-None.ensures.value
    ∙ sym (get-view c.self.inside.places.entries c.self.invariant c.args.id.now)
    ∙ ap (λ (threads : ThreadsView). place_in threads.places c.args.id.now) c.self.view_is
