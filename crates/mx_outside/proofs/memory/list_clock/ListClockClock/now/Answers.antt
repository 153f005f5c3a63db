-- The moment that is given is the next one.
use Rattle.mx_outside.proofs.MomentsGiven.{gives_moment}
use Rattle.mx_outside.proofs.memory.list_clock.ListClockClock.now.Goals as goal

pub returns-clause-moments : goal.returns-clause-moments
returns-clause-moments c =
    let moment = rw (← c.self.view_is) at c.next-moment.ensures in
    rw (← c.self.view_is) (gives_moment c.self.inside.moments.items c.self.inside.given _ _ moment
    c.saturating_add-self-inside.ensures)
