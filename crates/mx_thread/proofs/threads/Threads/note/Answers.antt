use Rattle.std.proofs.Common.{◌≡◌, Some, true, is_some, IsSome, refl, subst, sym, ap, ◌∙◌}
use Rattle.std.proofs.lemmas.Bool.{false≢true}
use Rattle.std.specs.Map.{lookup}
use Rattle.std.specs.FinMap as map
use Rattle.std.specs.Str.{bytes_eq}
use Rattle.mx_thread.specs.ThreadsView.{ThreadsView, has_capacity}
use Rattle.mx_thread.proofs.ViewLemmas.{capacity-view, places-noted}
use Rattle.mx_thread.proofs.threads.Threads.note.Goals as goal

pub unreachable-requires : goal.unreachable-requires
unreachable-requires c =
    let there : is_some (lookup (bytes_eq c.args.id.now) c.self.inside.places.entries) ≡ true
    = sym (capacity-view c.self.inside.places.entries c.args.id.now)
    ∙ ap (λ (threads : ThreadsView). has_capacity threads c.args.id.now) c.self.view_is ∙ c.requires.capacity in
    false≢true (ap is_some c.in-None.ensures.value ∙ there)

pub returns-clause-places : goal.returns-clause-places
returns-clause-places c =
    let written = c.get_mut.follows.holds (Some c.args.place) in
    places-noted c.self.inside.places.entries
    (c.get_mut.follows.lender (Some c.args.place)).entries c.args.id.now c.args.place
    (written.3 (subst IsSome c.in-Some.ensures.value refl)).0 c.self.invariant written.4
    ∙ ap (λ (threads : ThreadsView). map.insert threads.places c.args.id.now c.args.place) c.self.view_is
