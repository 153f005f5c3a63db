use Rattle.std.proofs.Common.{refl}
use Rattle.mx_lines.proofs.RestingLemmas.{Next-more, Next-shown}
use Rattle.mx_lines.proofs.cutter.LineCutter.next.Goals as goal

pub returns-then-not-self : goal.returns-then-not-self
returns-then-not-self c =
    let next = Next-more c.self.inside.line c.self.inside.has_ended c.if-not-self.true in
    rw (← c.self.view_is)
    ((refl, λ _. tt, next.gives), record { after = tt; cut = next.cuts; short = tt; lines = next.lines })

pub returns : goal.returns
returns c =
    let next =
    Next-shown c.give.result c.self.inside.line c.self.inside.has_ended c.if-not-self.false c.give.ensures.shows in
    rw (← c.self.view_is, c.give.follows.holds-at-none) (
      (refl, λ _. tt, next.gives),
      record { after = tt; cut = next.cuts; short = c.give.ensures.short; lines = next.lines },
    )
