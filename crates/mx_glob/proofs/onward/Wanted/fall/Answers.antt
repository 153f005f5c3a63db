use Rattle.std.proofs.Common.{◌≡◌, ◌+◌, ◌-◌, IsTrue, inl, inr, ◌∙◌, arith}
use Rattle.std.proofs.lemmas.Bool.{cases_lt}
use Rattle.mx_glob.specs.Words.{character_before}
use Rattle.mx_glob.proofs.AutomatonLemmas.{IsReached-next, inside, before_none, before_shorter, next_short}
use Rattle.mx_glob.proofs.onward.Wanted.fall.Goals as goal

pub overflow_add-result : goal.overflow_add-result
overflow_add-result c = let room = inside c.args.value.now c.args.reached.place c.args.here c.requires.known in
    omega (arith, room, c.requires.fits)

pub returns-clause-reached : goal.returns-clause-reached
returns-clause-reached c =
    let wanted = c.args.self.now in
    let text = c.args.value.now in
    let r = c.args.reached in
    let size = c.fallen_state-size.result in
    let short = next_short wanted.segment.now r.size c.args.here size c.fallen_state-size.ensures c.requires.other in
    let before : IsTrue wanted.begins → c.before_next.result ≡ character_before text (r.place + 1 - size) =
    λ yes.
    elim (cases_lt 0 size) [
      | inl some ↦ c.before_next.ensures.some yes some ∙ before_shorter text wanted.segment.now r.place r.size
          c.args.here size (omega (arith, c.requires.reached.low)) short some c.requires.reached.stands
      | inr none ↦ c.before_next.ensures.none yes (omega arith)
          ∙ before_none text r.place c.args.here size (omega arith) c.requires.known
    ]
    in
    IsReached-next text wanted.segment.now wanted.begins wanted.ends c.args.from r.place r.size c.args.here size
    r.before c.before_next.result c.requires.reached c.requires.known c.fallen_state-size.ensures
    c.requires.not_served before
