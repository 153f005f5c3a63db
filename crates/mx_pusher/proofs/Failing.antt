-- What a pusher keeps after a failure is that of the course with the failure.
use Rattle.std.proofs.Common.{◌≡◌, ℕ, ◌+◌, ◌-◌, ◌*◌, ◌^◌, ◌≤◌, min, suc, length, Option, Some, None, eqb, Bool, true}
use Rattle.std.proofs.Common.{false, if◌then◌else◌, ◌∷◌, refl, ap, sym, ◌∙◌, arith}
use Rattle.std.specs.Option.{option_or}
use Rattle.std.proofs.lemmas.Bool.{eqb-true, eqb-false}
use Rattle.std.proofs.lemmas.Grind.{common_steps}
use Rattle.std.proofs.Math.Nat.{pow-succ'}
use Rattle.mx_pusher.specs.declared.failure.Failure.{Failure}
use Rattle.mx_pusher.specs.Course.{Course, failed, backoff, recent_failures, last_failed_in, first_failure}
use Rattle.mx_pusher.specs.Track.{Track, StandsFor, IsNotBelow, first_kept, position_of, last_failed}

doubles : (count : ℕ) → 2 ^ (count + 1 + 1 - 1) ≡ 2 * 2 ^ (count + 1 - 1)
doubles count =
    let more : count + 1 + 1 - 1 ≡ suc count = omega arith in
    let same : count + 1 - 1 ≡ count = omega arith in
    rw more (rw same (pow-succ' 2 count))

-- the pause doubles, up to the longest
pub backoff-next : (count : ℕ) → min 3600000 (2 * backoff (count + 1)) ≡ backoff (suc count + 1)
backoff-next count =
    let more : suc count + 1 ≡ count + 1 + 1 = omega arith in
    rw more (omega (arith, doubles count))

-- a position above the one that is kept has no first failure
pub first_kept-above : (failing : Option Failure) (position other : ℕ)
    → IsNotBelow (position_of failing) position → position + 1 ≤ other → first_kept failing other ≡ None
first_kept-above None position other below above = refl
first_kept-above (Some failure) position other below above = grind (arith, common_steps)

-- the first failure of a position is that of the course with one more failure
first_of_more : (failing : Option Failure) (position now other moment : ℕ) (earlier : Option ℕ) (same : Bool)
    → IsNotBelow (position_of failing) position
    → Some moment ≡ option_or (first_kept failing position) (Some now)
    → position ≤ other → earlier ≡ first_kept failing other → eqb position other ≡ same
    → option_or earlier (if same then Some now else None) ≡ if same then Some moment else None
first_of_more failing position now other moment earlier true below first order known test =
    let place : other ≡ position = sym (eqb-true position other test) in
    let held = rw place at known in
    sym (first ∙ ap (λ (o : Option ℕ). option_or o (Some now)) (sym held))
first_of_more failing position now other moment earlier false below first order known test =
    let apart = eqb-false position other test in
    let above : position + 1 ≤ other = omega (arith, apart) in
    let none = known ∙ first_kept-above failing position other below above in
    ap (λ (o : Option ℕ). option_or o None) none

still_not_below : (last : Option ℕ) (position other : ℕ) → IsNotBelow last position → position ≤ other
    → IsNotBelow last other
still_not_below None position other below above = tt
still_not_below (Some last) position other below above = omega arith

pub after_failure : (kept later : Track) (course : Course) (position now : ℕ) (first : Failure)
    → StandsFor kept course → IsNotBelow (last_failed kept) position
    → first.position ≡ position → Some first.moment ≡ option_or (first_kept kept.failing position) (Some now)
    → later.in_flight ≡ None → later.pause ≡ min 3600000 (2 * kept.pause)
    → later.next ≡ Some (now + kept.pause) → later.failing ≡ Some first
    → StandsFor later (failed position now ∷ course)
after_failure kept later course position now first stands order place moment idle pause next failing = record {
  in_flight = idle;
  pause = rw pause (rw stands.pause (backoff-next (length (recent_failures course))));
  next = next ∙ ap (λ n. Some (now + n)) stands.pause;
  last_failed = ap position_of failing ∙ ap Some place;
  first = λ other above.
      let below : IsNotBelow (last_failed_in course) other =
      rw (sym stands.last_failed) (still_not_below (last_failed kept) position other order above) in
      rw failing (rw place (first_of_more kept.failing position now other first.moment
      (first_failure course other) (eqb position other) order moment above (stands.first other below) refl));
}
