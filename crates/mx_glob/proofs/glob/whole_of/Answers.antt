use Rattle.std.proofs.Common.{ℕ, List, ◌∙◌, IsTrue, arith, subst, sym}
use Rattle.mx_glob.specs.Automaton.{IsExact}
use Rattle.mx_glob.specs.Glob.{star, Matches}
use Rattle.mx_glob.proofs.AutomatonLemmas.{IsExact-parts}
use Rattle.mx_glob.proofs.SegmentLemmas.{FitsAt-in_text}
use Rattle.mx_glob.proofs.GlobLemmas.{Matches-plain, Matches-starred}
use Rattle.mx_glob.proofs.glob.whole_of.Goals as goal

pub returns-then-pattern-len-clause-matches : goal.returns-then-pattern-len-clause-matches
returns-then-pattern-len-clause-matches c =
    let plain = (c.in_default.ensures {u = tt}).plain in (
      λ never. cc,
      λ matched. absurd (c.if-pattern-len.true (((Matches-plain c.args.value.now c.args.pattern.now plain).0 matched).0
          ∙ sym c.len.ensures.len)),
    )

pub returns-in_default-clause-matches : goal.returns-in_default-clause-matches
returns-in_default-clause-matches c =
    let plain = (c.in_default.ensures {u = tt}).plain in
    let same = Matches-plain c.args.value.now c.args.pattern.now plain in (
      λ yes. same.1 (c.if-pattern-len.false ∙ c.len.ensures.len, c.agrees.ensures.value.0 yes),
      λ matched. c.agrees.ensures.value.1 (same.0 matched).1,
    )

pub returns-then-first-len-clause-matches : goal.returns-then-first-len-clause-matches
returns-then-first-len-clause-matches c =
    let parts = (c.in-Some.ensures {u = tt}).parts in
    let family : List ℕ → Type 0 = λ p. Matches p c.args.value.now in
    let same = Matches-starred c.args.value.now c.in-Some.first.now c.in-Some.rest.now parts.0 in (
      λ never. cc,
      λ matched.
          let room = FitsAt-in_text c.args.value.now c.in-Some.first.now 0 (omega arith)
          (same.0 (subst family parts.1 matched)).0 in
          absurd (omega arith),
    )

pub returns-then-not-agrees-clause-matches : goal.returns-then-not-agrees-clause-matches
returns-then-not-agrees-clause-matches c =
    let parts = (c.in-Some.ensures {u = tt}).parts in
    let family : List ℕ → Type 0 = λ p. Matches p c.args.value.now in
    let same = Matches-starred c.args.value.now c.in-Some.first.now c.in-Some.rest.now parts.0 in (
      λ never. cc,
      λ matched.
          let yes : IsTrue c.agrees-2.result = c.agrees-2.ensures.value.1 (same.0 (subst family parts.1 matched)).0 in
          cc,
    )

pub returns-clause-matches : goal.returns-clause-matches
returns-clause-matches c =
    let parts = (c.in-Some.ensures {u = tt}).parts in
    let family : List ℕ → Type 0 = λ p. Matches p c.args.value.now in
    let same = Matches-starred c.args.value.now c.in-Some.first.now c.in-Some.rest.now parts.0 in (
      λ yes. subst family (sym parts.1)
          (same.1 (c.agrees-2.ensures.value.0 c.if-not-agrees.false, c.leads_on.ensures.value.0 yes)),
      λ matched. c.leads_on.ensures.value.1 (same.0 (subst family parts.1 matched)).1,
    )

pub returns-clause-exact_reads : goal.returns-clause-exact_reads
returns-clause-exact_reads c =
    λ exact.
    let parts = (c.in-Some.ensures {u = tt}).parts in
    let both = IsExact-parts c.in-Some.first.now star c.in-Some.rest.now (subst IsExact parts.1 exact) in
    let reads = c.leads_on.ensures.exact_reads both.1 in
    (omega (arith, reads, c.agrees-2.ensures.reads), omega (arith, reads, c.agrees-2.ensures.reads))
