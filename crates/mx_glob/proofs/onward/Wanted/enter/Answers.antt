use Rattle.std.proofs.Common.{◌≡◌, ◌-◌, IsTrue, ◌∙◌, ap, subst, arith}
use Rattle.mx_glob.specs.Automaton.{IsReached}
use Rattle.mx_glob.specs.Words.{character_before}
use Rattle.mx_glob.proofs.AutomatonLemmas.{IsReached-first, IsReached-nowhere}
use Rattle.mx_glob.proofs.onward.Wanted.enter.Goals as goal

pub returns-in-Some-clause-entered : goal.returns-in-Some-clause-entered
returns-in-Some-clause-entered c =
    let wanted = c.args.self.now in
    let text = c.args.value.now in
    let r = c.args.reached in
    let empty : r.size ≡ 0 = omega arith in
    let reached : IsReached text wanted.segment.now wanted.begins wanted.ends c.args.from r.place 0 r.before =
    subst (λ size. IsReached text wanted.segment.now wanted.begins wanted.ends c.args.from r.place size r.before) empty
    c.requires.reached in
    let scanned = c.in-Some.ensures {u = tt} in
    let at_place : r.place - 0 ≡ r.place = omega arith in
    let before =
    λ (yes : IsTrue wanted.begins). scanned.before (reached.known yes ∙ ap (character_before text) at_place) in (
      omega (arith, scanned.found.0),
      IsReached-first text wanted.segment.now wanted.begins wanted.ends c.args.from r.place wanted.first c.in-Some.found
          r.before c.in-Some.before wanted.first_known reached scanned.found.0 scanned.found.2 scanned.found.3 before,
    )

pub returns-in-None-clause-nowhere : goal.returns-in-None-clause-nowhere
returns-in-None-clause-nowhere c =
    let wanted = c.args.self.now in
    let text = c.args.value.now in
    let r = c.args.reached in
    let empty : r.size ≡ 0 = omega arith in
    let reached : IsReached text wanted.segment.now wanted.begins wanted.ends c.args.from r.place 0 r.before =
    subst (λ size. IsReached text wanted.segment.now wanted.begins wanted.ends c.args.from r.place size r.before) empty
    c.requires.reached in
    IsReached-nowhere text wanted.segment.now wanted.begins wanted.ends c.args.from r.place wanted.first r.before
    wanted.first_known reached (c.in-None.ensures {u = tt}).nowhere
