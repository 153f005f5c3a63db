use Rattle.std.proofs.Common.{◌≡◌, Some, refl, sym, ◌∙◌}
use Rattle.mx_pusher.specs.Track.{IsNotBelow, last_failed}
use Rattle.mx_pusher.specs.contracts.pusher.Pusher.{the_view}
use Rattle.mx_pusher.proofs.Failing.{after_failure}
use Rattle.mx_pusher.proofs.pusher.Pusher.failed.Goals as goal

pub returns-clause-course : goal.returns-clause-course
returns-clause-course c = λ course stands.
    let kept = the_view c.self.inside in
    let position = c.unwrap-position.result in
    let inside : kept.in_flight ≡ Some position = sym c.take.ensures.value ∙ c.unwrap-position.ensures in
    let flight : c.args.self.now.in_flight ≡ Some position = rw (sym c.self.view_is) inside in
    let order : IsNotBelow (last_failed kept) position = rw inside at c.self.invariant.1 in
    rw flight (after_failure kept _ course position c.args.now c.first.result (rw c.self.view_is stands)
    order c.first.ensures.position c.first.ensures.moment c.take.ensures.after c.min-self-inside.ensures
    refl refl)
