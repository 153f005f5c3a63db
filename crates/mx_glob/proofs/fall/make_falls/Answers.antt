use Rattle.std.proofs.Common.{◌≡◌, ℕ, ◌+◌, ◌-◌, ◌<◌, List, length, set, sym, ◌∙◌, ap, subst, inl, inr, Some, slice_get}
use Rattle.std.proofs.Common.{slice_index, arith, length-set}
use Rattle.std.proofs.lemmas.Bool.{cases_lt}
use Rattle.std.proofs.lemmas.List.{get_or-set_same, get_or-set_other}
use Rattle.std.proofs.lemmas.Option.{slice_get-get_or}
use Rattle.mx_glob.specs.Automaton.{AreFalls, IsFall}
use Rattle.mx_glob.proofs.FallLemmas.{IsFall-one, IsFall-next}
use Rattle.mx_glob.proofs.fall.make_falls.Goals as goal

-- a table with one fall more
AreFalls-more : (segment falls : List ℕ) (k next : ℕ) → k < length falls → AreFalls segment falls k
    → IsFall segment (k + 1) next → AreFalls segment (set falls k next) (k + 1)
AreFalls-more segment falls k next room known fall size some most =
    elim (cases_lt k size) [
      | inl at ↦
          let e : size ≡ k + 1 = omega arith in
          let index : size - 1 ≡ k = omega arith in
          let same : slice_index (set falls k next) (size - 1) ≡ next =
          ap (slice_index (set falls k next)) index ∙ get_or-set_same falls k next 0 room in
          subst (λ s. IsFall segment s (slice_index (set falls k next) (size - 1))) (sym e)
          (subst (IsFall segment (k + 1)) (sym same) fall)
      | inr below ↦
          let same : slice_index (set falls k next) (size - 1) ≡ slice_index falls (size - 1) =
          get_or-set_other falls k (size - 1) next 0 (λ e. absurd (omega arith)) in
          subst (IsFall segment size) (sym same) (known size some below)
    ]

pub loop-k-init : goal.loop-k-init
loop-k-init c = (
  omega arith,
  AreFalls-more c.args.segment.now c.args.falls.now 0 0 (omega arith) (λ size some most. absurd (omega arith))
      (IsFall-one c.args.segment.now),
)

pub loop-k-preserved : goal.loop-k-preserved
loop-k-preserved c =
    let segment = c.args.segment.now in
    let k = c.loop-k.k in
    let here = c.index-segment-k.result in
    let fall : IsFall segment k (slice_index c.loop-k.falls (k - 1)) =
    c.loop-k.invariant.1 k c.loop-k.auto.k (omega arith) in
    let at_k : slice_get segment k ≡ Some here =
    slice_get-get_or segment k here c.loop-k-test.true ∙ ap Some (sym c.index-segment-k.is) in
    let next : IsFall segment (k + 1) c.next_state.result = IsFall-next segment k
    (slice_index c.loop-k.falls (k - 1)) here c.next_state.result fall at_k c.next_state.ensures in
    let long = length-set c.args.falls.now 0 0 in (
      length-set c.loop-k.falls k c.next_state.result ∙ c.loop-k.invariant.0,
      AreFalls-more segment c.loop-k.falls k c.next_state.result
          (omega (arith, long, c.loop-k.invariant.0)) c.loop-k.invariant.1 next,
    )
