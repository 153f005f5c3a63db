use Rattle.std.proofs.Common.{◌≡◌, ℕ, ◌+◌, List, ◌∷◌, ◌++◌, length, arith, ap, ◌∙◌, subst, sym, length-append}
use Rattle.mx_glob.specs.Glob.{star}
use Rattle.mx_glob.specs.Automaton.{IsExact}
use Rattle.mx_glob.specs.Leads.{LeadsOn, ends_at, IsPlain}
use Rattle.mx_glob.proofs.SegmentLemmas.{LeadsOn-first, LeadsOn-nowhere}
use Rattle.mx_glob.proofs.AutomatonLemmas.{IsExact-parts}
use Rattle.mx_glob.proofs.ReadLemmas.{rest_tried}
use Rattle.mx_glob.proofs.rest.leads_on.Goals as goal

pub returns-in-None-clause-value : goal.returns-in-None-clause-value
returns-in-None-clause-value c =
    let ends = ends_at c.args.end c.args.value.now in
    let parts : IsPlain c.in-Some.segment.now
    × (c.loop-segment.rest.now ≡ c.in-Some.segment.now ++ star ∷ c.in-Some.after.now) =
    (c.in-Some.ensures {u = tt}).parts in
    let family : List ℕ → Type 0 = λ s. LeadsOn ends c.args.value.now s c.loop-segment.reached in (
      λ never. cc,
      λ on. absurd (LeadsOn-nowhere ends c.args.value.now c.in-Some.segment.now
          (star ∷ c.in-Some.after.now) c.loop-segment.reached parts.0 c.in-None.ensures.first
          (subst family parts.1 (c.loop-segment.invariant.3.0 on))),
    )

pub returns-in-None-clause-reads : goal.returns-in-None-clause-reads
returns-in-None-clause-reads c =
    let parts : IsPlain c.in-Some.segment.now
    × (c.loop-segment.rest.now ≡ c.in-Some.segment.now ++ star ∷ c.in-Some.after.now) =
    (c.in-Some.ensures {u = tt}).parts in
    let long = ap length parts.1 ∙ length-append c.in-Some.segment.now (star ∷ c.in-Some.after.now) in
    let bound = rest_tried (length c.in-Some.segment.now) (length c.args.pattern.now) (length c.args.value.now)
    c.args.from c.loop-segment.reached (omega arith) c.loop-segment.invariant.0 c.loop-segment.invariant.1 in
    (omega (arith, c.in-None.ensures.reads), omega (arith, c.in-None.ensures.reads))

pub returns-in-None-clause-exact_reads : goal.returns-in-None-clause-exact_reads
returns-in-None-clause-exact_reads c =
    λ exact.
    let parts : IsPlain c.in-Some.segment.now
    × (c.loop-segment.rest.now ≡ c.in-Some.segment.now ++ star ∷ c.in-Some.after.now) =
    (c.in-Some.ensures {u = tt}).parts in
    let known = c.loop-segment.invariant.5 exact in
    let both = IsExact-parts c.in-Some.segment.now star c.in-Some.after.now (subst IsExact parts.1 known.0) in
    let reads = c.in-None.ensures.exact_reads both.0 in
    (omega (arith, reads, known.1), omega (arith, reads, known.1))

pub loop-segment-preserved : goal.loop-segment-preserved
loop-segment-preserved c =
    let ends = ends_at c.args.end c.args.value.now in
    let parts : IsPlain c.in-Some.segment.now
    × (c.loop-segment.rest.now ≡ c.in-Some.segment.now ++ star ∷ c.in-Some.after.now) =
    (c.in-Some.ensures {u = tt}).parts in
    let long = ap length parts.1 ∙ length-append c.in-Some.segment.now (star ∷ c.in-Some.after.now) in
    let found = c.in-Some-find.ensures.first in
    let room = found.1.in_text in
    let family : List ℕ → Type 0 = λ s. LeadsOn ends c.args.value.now s c.loop-segment.reached in
    let step = LeadsOn-first ends c.args.value.now c.in-Some.segment.now c.in-Some.after.now c.loop-segment.reached
    c.in-Some-find.place parts.0 found.0 found.1 found.2 in
    let bound = rest_tried (length c.in-Some.segment.now) (length c.args.pattern.now)
    (c.in-Some-find.place + length c.in-Some.segment.now) c.args.from c.loop-segment.reached
    (omega arith) c.loop-segment.invariant.0 (omega (arith, found.0)) in (
      omega (arith, found.0),
      room,
      omega arith,
      (
        λ on. step.0 (subst family parts.1 (c.loop-segment.invariant.3.0 on)),
        λ on. c.loop-segment.invariant.3.1 (subst family (sym parts.1) (step.1 on)),
      ),
      (omega (arith, c.in-Some-find.ensures.reads), omega (arith, c.in-Some-find.ensures.reads)),
      (λ exact.
          let known = c.loop-segment.invariant.5 exact in
          let both = IsExact-parts c.in-Some.segment.now star c.in-Some.after.now (subst IsExact parts.1 known.0) in
          let reads = c.in-Some-find.ensures.exact_reads both.0 in
          (both.1, (omega (arith, reads, known.1, found.0), omega (arith, reads, known.1, found.0)))),
      omega arith,
    )

pub returns-in-Word-clause-reads : goal.returns-in-Word-clause-reads
returns-in-Word-clause-reads c =
    let bound =
    rest_tried (length c.loop-segment.rest.now) (length c.args.pattern.now) (length c.args.value.now) c.args.from
    c.loop-segment.reached c.loop-segment.invariant.2 c.loop-segment.invariant.0 c.loop-segment.invariant.1 in
    (omega arith, omega arith)

pub returns-in-Word-clause-exact_reads : goal.returns-in-Word-clause-exact_reads
returns-in-Word-clause-exact_reads c =
    λ exact.
    let known = c.loop-segment.invariant.5 exact in
    let reads = c.ends_word.ensures.exact_reads known.0 in
    (omega (arith, reads, known.1), omega (arith, reads, known.1))

pub returns-in-Text-clause-exact_reads : goal.returns-in-Text-clause-exact_reads
returns-in-Text-clause-exact_reads c =
    λ exact.
    let known = c.loop-segment.invariant.5 exact in
    (omega (arith, c.ends_text.ensures.reads, known.1), omega (arith, c.ends_text.ensures.reads, known.1))
