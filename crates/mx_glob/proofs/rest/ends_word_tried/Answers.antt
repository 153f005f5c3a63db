use Rattle.std.proofs.Common.{arith}
use Rattle.mx_glob.proofs.SegmentLemmas.{LeadsOn-end_place, LeadsOn-from_end_place}
use Rattle.mx_glob.proofs.rest.ends_word_tried.Goals as goal

pub returns-then-ends_word_at-clause-value : goal.returns-then-ends_word_at-clause-value
returns-then-ends_word_at-clause-value c =
    let here = c.ends_word_at.ensures.value.0 c.if-ends_word_at.true in
    (λ yes. LeadsOn-from_end_place _ _ _ c.loop-place.place c.requires.plain c.loop-place.invariant.0 here, λ on. cc)

pub returns-clause-value : goal.returns-clause-value
returns-clause-value c = (
  λ never. cc,
  λ on. let found = LeadsOn-end_place _ _ _ c.requires.plain on in let room = found.2.place.in_text in
      absurd (c.loop-place.invariant.3 found.0 found.1 (omega arith) found.2),
)
