use Rattle.std.proofs.Common.{◌≡◌, ◌+◌, Some, slice_get, sym, ap, subst, arith}
use Rattle.mx_glob.proofs.FallLemmas.{IsNext-same}
use Rattle.mx_glob.proofs.AutomatonLemmas.{IsReached-next, inside, before_same}
use Rattle.mx_glob.proofs.onward.Wanted.take.Goals as goal

pub returns-clause-taken : goal.returns-clause-taken
returns-clause-taken c =
    let wanted = c.args.self.now in
    let text = c.args.value.now in
    let r = c.args.reached in
    let same = c.goes_on.ensures.0 (cc) in
    let next = IsNext-same wanted.segment.now r.size c.in-Some.character same in
    let low = inside wanted.segment.now r.size c.in-Some.character same in (
      omega arith,
      IsReached-next text wanted.segment.now wanted.begins wanted.ends c.args.from r.place r.size c.in-Some.character
          (r.size + 1) r.before r.before c.requires.reached (cc) next (λ long. absurd (omega arith))
          (λ yes. before_same text r.place r.size r.before (c.requires.reached.known yes)),
    )
