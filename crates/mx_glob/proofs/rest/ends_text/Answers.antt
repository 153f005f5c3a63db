use Rattle.std.proofs.Common.{◌+◌, ◌-◌, ◌≤◌, ℕ, length, arith, subst, sym}
use Rattle.mx_glob.specs.Leads.{FitsAt}
use Rattle.mx_glob.proofs.SegmentLemmas.{LeadsOn-text, LeadsOn-from_text}
use Rattle.mx_glob.proofs.rest.ends_text.Goals as goal

pub returns-then-segment-len-clause-value : goal.returns-then-segment-len-clause-value
returns-then-segment-len-clause-value c =
    (λ never. cc, λ on. let parts = LeadsOn-text _ _ _ c.requires.plain on in absurd (omega arith))

pub returns-clause-value : goal.returns-clause-value
returns-clause-value c =
    let room : c.args.from + length c.args.segment.now ≤ length c.args.value.now = omega arith in
    let family : ℕ → Type 0 = λ v. FitsAt c.args.value.now c.args.segment.now (v - length c.args.segment.now) in (
      λ yes. LeadsOn-from_text _ _ _ c.requires.plain room
          (subst family c.len-2.ensures.len (c.agrees.ensures.value.0 yes)),
      λ on.
          c.agrees.ensures.value.1 (subst family (sym c.len-2.ensures.len) (LeadsOn-text _ _ _ c.requires.plain on).1),
    )
