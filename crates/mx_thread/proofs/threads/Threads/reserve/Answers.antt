use Rattle.std.proofs.Common.{◌≡◌, ℕ, List, ◌||◌, Some, None, true, cond, is_some, sym, subst, ap, ◌∙◌}
use Rattle.std.specs.Map.{lookup}
use Rattle.std.specs.Str.{bytes_eq}
use Rattle.mx_thread.specs.ThreadsView.{ThreadsView, has_capacity}
use Rattle.mx_thread.proofs.ViewLemmas.{capacity-reserved, capacity-there, none_from, places-reserved}
use Rattle.mx_thread.proofs.threads.Threads.reserve.Goals as goal

pub returns-then-contains_key-clause-capacity : goal.returns-then-contains_key-clause-capacity
returns-then-contains_key-clause-capacity c = λ q.
    let there : is_some (lookup (bytes_eq c.args.id.now) c.self.inside.places.entries) ≡ true
    = sym c.contains_key.ensures ∙ c.if-contains_key.true in
    subst (λ (threads : ThreadsView). has_capacity threads q ≡
    (has_capacity threads q || bytes_eq c.args.id.now q)) c.self.view_is
    (capacity-there c.self.inside.places.entries c.args.id.now q there)

pub returns-clause-places : goal.returns-clause-places
returns-clause-places c =
    let old = c.self.inside.places.entries in
    let new = c.insert.new.self.entries in
    let absent : lookup (bytes_eq c.args.id.now) old ≡ None
    = none_from _ (sym c.contains_key.ensures ∙ c.if-contains_key.false) in
    let updated = subst
    (λ (key : List ℕ). (q : List ℕ)
    → lookup (bytes_eq q) new ≡ cond (bytes_eq key q) (Some None)
    (lookup (bytes_eq q) old)) c.in_ok-copied.ensures c.in_ok-insert.ensures.updates.0 in
    places-reserved old new c.args.id.now absent updated c.self.invariant c.insert.ensures.unique
    ∙ ap (λ (threads : ThreadsView). threads.places) c.self.view_is

pub returns-clause-capacity : goal.returns-clause-capacity
returns-clause-capacity c = λ q.
    let old = c.self.inside.places.entries in
    let new = c.insert.new.self.entries in
    let absent : lookup (bytes_eq c.args.id.now) old ≡ None
    = none_from _ (sym c.contains_key.ensures ∙ c.if-contains_key.false) in
    let updated = subst
    (λ (key : List ℕ). (q : List ℕ)
    → lookup (bytes_eq q) new ≡ cond (bytes_eq key q) (Some None)
    (lookup (bytes_eq q) old)) c.in_ok-copied.ensures c.in_ok-insert.ensures.updates.0 in
    capacity-reserved old new c.args.id.now absent updated q
    ∙ ap (λ (threads : ThreadsView). has_capacity threads q || bytes_eq c.args.id.now q) c.self.view_is
