use Rattle.std.proofs.Common.{◌≡◌, ℕ, ◌+◌, ◌-◌, ◌*◌, List, suc, ◌∷◌, ◌++◌, ◌∙◌, true, length, length-append, arith, ap}
use Rattle.std.proofs.Common.{subst, sym}
use Rattle.mx_glob.specs.Glob.{star}
use Rattle.mx_glob.specs.Automaton.{IsExact}
use Rattle.mx_glob.specs.Leads.{IsWordPlace}
use Rattle.mx_glob.specs.Words.{WordMatches}
use Rattle.mx_glob.proofs.GlobLemmas.{WordMatches-plain, WordMatches-starred, WordMatches-star, WordMatches-nowhere}
use Rattle.mx_glob.proofs.GlobLemmas.{IsSome-first, nil_from_test, not_nil_from_test}
use Rattle.mx_glob.proofs.AutomatonLemmas.{IsExact-parts}
use Rattle.mx_glob.proofs.ReadLemmas.{starred_word}
use Rattle.mx_glob.proofs.glob.word_of.Goals as goal

pub returns-in_default-clause-matches : goal.returns-in_default-clause-matches
returns-in_default-clause-matches c =
    let plain = (c.in_default.ensures {u = tt}).plain in
    let same = WordMatches-plain c.args.value.now c.args.pattern.now plain in
    let found =
    IsSome-first (IsWordPlace c.args.value.now c.args.pattern.now true) c.find_word.result c.find_word.ensures.first in
    (λ yes. same.1 (found.0 (sym c.is_some.ensures ∙ yes)), λ matched. c.is_some.ensures ∙ found.1 (same.0 matched))

pub returns-then-is_empty-clause-matches : goal.returns-then-is_empty-clause-matches
returns-then-is_empty-clause-matches c =
    let parts = (c.in-Some.ensures {u = tt}).parts in
    let empty = nil_from_test c.in-Some.first.now (sym c.is_empty.ensures ∙ c.if-is_empty.true) in
    let e : c.args.pattern.now ≡ star ∷ c.in-Some.rest.now =
    parts.1 ∙ ap (λ first. first ++ star ∷ c.in-Some.rest.now) empty in
    let family : List ℕ → Type 0 = λ p. WordMatches p c.args.value.now in
    let same = WordMatches-star c.args.value.now c.in-Some.rest.now in (
      λ yes. subst family (sym e) (same.1 (c.leads_on.ensures.value.0 yes)),
      λ matched. c.leads_on.ensures.value.1 (same.0 (subst family e matched)),
    )

pub returns-in-None-clause-matches : goal.returns-in-None-clause-matches
returns-in-None-clause-matches c =
    let parts = (c.in-Some.ensures {u = tt}).parts in
    let family : List ℕ → Type 0 = λ p. WordMatches p c.args.value.now in
    let nowhere = (c.in-None.ensures {u = tt}).first in (
      λ never. cc,
      λ matched. absurd (WordMatches-nowhere c.args.value.now c.in-Some.first.now c.in-Some.rest.now parts.0
          (λ a here. nowhere a (omega arith) here) (subst family parts.1 matched)),
    )

pub returns-in-Some-find_word-clause-matches : goal.returns-in-Some-find_word-clause-matches
returns-in-Some-find_word-clause-matches c =
    let parts = (c.in-Some.ensures {u = tt}).parts in
    let family : List ℕ → Type 0 = λ p. WordMatches p c.args.value.now in
    let found = (c.in-Some-find_word.ensures {u = tt}).first in
    let same = WordMatches-starred c.args.value.now c.in-Some.first.now c.in-Some.rest.now c.in-Some-find_word.place
    parts.0 found.1 (λ a before here. found.2 a (omega arith) before here) in (
      λ yes. subst family (sym parts.1) (same.1 (c.leads_on-in-Some-find_word.ensures.value.0 yes)),
      λ matched. c.leads_on-in-Some-find_word.ensures.value.1 (same.0 (subst family parts.1 matched)),
    )

pub returns-in-Some-find_word-clause-reads : goal.returns-in-Some-find_word-clause-reads
returns-in-Some-find_word-clause-reads c =
    let parts = (c.in-Some.ensures {u = tt}).parts in
    let long : length c.args.pattern.now ≡ length c.in-Some.first.now + suc (length c.in-Some.rest.now) =
    ap length parts.1 ∙ length-append c.in-Some.first.now (star ∷ c.in-Some.rest.now) in
    let found = (c.in-Some-find_word.ensures {u = tt}) in
    let room = found.first.1.place.in_text in
    let some = not_nil_from_test c.in-Some.first.now (sym c.is_empty.ensures ∙ c.if-is_empty.false) in
    let bound = starred_word (length c.in-Some.first.now) (length c.in-Some.rest.now)
    (length c.args.value.now) c.in-Some-find_word.place some room in
    let steps : c.in-Some-find_word.place + length c.in-Some.first.now - 0
    ≡ c.in-Some-find_word.place + length c.in-Some.first.now = omega arith in
    let tried = ap (λ t. (length c.in-Some.first.now + 1) * t) steps in
    let product = ap (λ p. (p + 1) * length c.args.value.now) long in (
      omega (arith, found.reads, c.leads_on-in-Some-find_word.ensures.reads),
      omega (arith, found.reads, c.leads_on-in-Some-find_word.ensures.reads),
    )

pub returns-then-is_empty-clause-exact_reads : goal.returns-then-is_empty-clause-exact_reads
returns-then-is_empty-clause-exact_reads c =
    λ exact.
    let parts = (c.in-Some.ensures {u = tt}).parts in
    let both = IsExact-parts c.in-Some.first.now star c.in-Some.rest.now (subst IsExact parts.1 exact) in
    let reads = c.leads_on.ensures.exact_reads both.1 in
    (omega (arith, reads), omega (arith, reads))

pub returns-in-None-clause-exact_reads : goal.returns-in-None-clause-exact_reads
returns-in-None-clause-exact_reads c =
    λ exact.
    let parts = (c.in-Some.ensures {u = tt}).parts in
    let both = IsExact-parts c.in-Some.first.now star c.in-Some.rest.now (subst IsExact parts.1 exact) in
    let reads = (c.in-None.ensures {u = tt}).exact_reads both.0 in
    (omega (arith, reads), omega (arith, reads))

pub returns-in-Some-find_word-clause-exact_reads : goal.returns-in-Some-find_word-clause-exact_reads
returns-in-Some-find_word-clause-exact_reads c =
    λ exact.
    let parts = (c.in-Some.ensures {u = tt}).parts in
    let both = IsExact-parts c.in-Some.first.now star c.in-Some.rest.now (subst IsExact parts.1 exact) in
    let found = (c.in-Some-find_word.ensures {u = tt}) in
    let room = found.first.1.place.in_text in
    let reads = found.exact_reads both.0 in
    let after = c.leads_on-in-Some-find_word.ensures.exact_reads both.1 in
    (omega (arith, reads, after), omega (arith, reads, after))
