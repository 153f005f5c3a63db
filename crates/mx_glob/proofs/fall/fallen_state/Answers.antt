use Rattle.std.proofs.Common.{◌≡◌, ◌+◌, ◌-◌, ◌≤◌, Some, slice_get, slice_index, ap, arith}
use Rattle.mx_glob.specs.Automaton.{IsFall, StandsAt}
use Rattle.mx_glob.proofs.FallLemmas.{NoneLonger, fall_ends, fall_none, IsNext-here, IsNext-none}
use Rattle.mx_glob.proofs.fall.fallen_state.Goals as goal

pub returns-then-state-eq0 : goal.returns-then-state-eq0
returns-then-state-eq0 c =
    let none : NoneLonger c.args.segment.now c.args.state c.args.here c.args.state =
    λ t above high ends same. absurd (omega arith) in
    let at_start : c.args.state ≡ 0 = omega arith in
    IsNext-none c.args.segment.now c.args.state c.args.here c.args.state at_start none c.requires.other

pub loop-here-init : goal.loop-here-init
loop-here-init c =
    let segment = c.args.segment.now in
    let state = c.args.state in
    let next = slice_index c.args.falls.now (state - 1) in
    let fall : IsFall segment state next = c.requires.known state (omega arith) (omega arith) in
    let whole : StandsAt segment segment state (state - state) = λ i h. let e : state - state + i ≡ i = omega arith in
    ap (slice_get segment) e in
    let none : NoneLonger segment state c.args.here state = λ t above high ends same. absurd (omega arith) in (
      omega (arith, fall.below),
      fall.ends,
      fall_none segment state c.args.here state next (omega arith) whole fall none c.requires.other,
    )

pub stands_at-requires : goal.stands_at-requires
stands_at-requires c = omega (arith, c.loop-here.invariant.0, c.requires.within)

pub loop-here-preserved : goal.loop-here-preserved
loop-here-preserved c =
    let segment = c.args.segment.now in
    let shorter = c.loop-here.shorter in
    let next = slice_index c.args.falls.now (shorter - 1) in
    let short : shorter ≤ c.args.state = omega (arith, c.loop-here.invariant.0) in
    let ends = c.loop-here.invariant.1 in
    let fall : IsFall segment shorter next = c.requires.known shorter (omega arith) (omega arith) in
    let other : slice_get segment shorter ≡ Some c.args.here → ⊥ =
    λ same. absurd (let yes = c.stands_at.ensures.1 same in cc) in (
      omega (arith, fall.below),
      fall_ends segment c.args.state shorter next short ends fall,
      fall_none segment c.args.state c.args.here shorter next short ends fall c.loop-here.invariant.2 other,
    )

pub returns-then-shorter-eq0 : goal.returns-then-shorter-eq0
returns-then-shorter-eq0 c =
    let at_start : c.loop-here.shorter ≡ 0 = omega arith in
    let other : slice_get c.args.segment.now c.loop-here.shorter ≡ Some c.args.here → ⊥ =
    λ same. absurd (let yes = c.stands_at.ensures.1 same in cc) in
    IsNext-none c.args.segment.now c.args.state c.args.here c.loop-here.shorter at_start c.loop-here.invariant.2 other

pub returns : goal.returns
returns c =
    let short : c.loop-here.shorter ≤ c.args.state = omega (arith, c.loop-here.invariant.0) in
    IsNext-here c.args.segment.now c.args.state c.args.here c.loop-here.shorter short c.loop-here.invariant.1
    c.loop-here.invariant.2 (c.stands_at.ensures.0 (cc))
