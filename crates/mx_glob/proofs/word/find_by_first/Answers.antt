use Rattle.std.proofs.Common.{◌≡◌, ◌+◌, ◌-◌, ◌*◌, ◌<◌, ◌==◌, ℕ, ◌∙◌, Bool, false, List, Some, length, slice_get, inl}
use Rattle.std.proofs.Common.{inr, sym, ap, arith}
use Rattle.std.proofs.lemmas.Bool.{cases_lt}
use Rattle.mx_glob.specs.Glob.{question}
use Rattle.mx_glob.specs.Leads.{IsWordPlace}
use Rattle.mx_glob.proofs.LeadsLemmas.{FitsAt-first, character_before-next, length-from_first, none_before}
use Rattle.mx_glob.proofs.LeadsLemmas.{none_below_next}
use Rattle.mx_glob.proofs.ReadLemmas.{candidate_paid}
use Rattle.mx_glob.proofs.word.find_by_first.Goals as goal

-- where a word place is, the segment's first character stands
stands : (text segment : List ℕ) (whole : Bool) (first long : ℕ) → slice_get segment 0 ≡ Some first
    → first == question ≡ false
    → long ≡ length text
    → (j : ℕ) → IsWordPlace text segment whole j
    → (j < long - length segment + 1) × (slice_get text j ≡ Some first)
stands text segment whole first long known itself e j here =
    (omega (arith, here.place.in_text), FitsAt-first text segment first j known itself here.place.agrees)

pub returns-then-is_word_place-clause-first : goal.returns-then-is_word_place-clause-first
returns-then-is_word_place-clause-first c =
    let text = c.args.value.now in
    let segment = c.args.segment.now in
    let is_place : ℕ → Type 0 = IsWordPlace text segment c.args.whole in
    let has_first : ℕ → Type 0 =
    λ k. (k < c.len.result - length segment + 1) × (slice_get text k ≡ Some c.args.first) in
    let known = c.requires.first_known in
    let needs = stands text segment c.args.whole c.args.first c.len.result known c.requires.itself c.len.ensures.len in
    let found = (c.in-Some.ensures {u = tt}).first in (
      omega arith,
      c.is_word_place.ensures.serves.0 c.if-is_word_place.true,
      none_before is_place has_first c.loop-place.from c.in-Some.place c.loop-place.invariant.2 found.2 needs,
    )

pub returns-then-is_word_place-clause-reads : goal.returns-then-is_word_place-clause-reads
returns-then-is_word_place-clause-reads c =
    let some = length-from_first c.args.segment.now c.args.first c.requires.first_known in
    let found = c.in-Some.ensures {u = tt} in
    let paid = candidate_paid (length c.args.segment.now) c.loop-place.from c.in-Some.place some found.first.0 in
    let e : c.in-Some.place + 1 - 0 ≡ c.in-Some.place + 1 = omega arith in
    let product = ap (λ t. (length c.args.segment.now + 1) * t) e in
    let before_reads = c.before_place-previous.ensures.reads in (
      omega (arith, found.reads, before_reads, c.is_word_place.ensures.reads),
      omega (arith, found.reads, before_reads, c.is_word_place.ensures.reads),
    )

pub loop-place-preserved : goal.loop-place-preserved
loop-place-preserved c =
    let text = c.args.value.now in
    let segment = c.args.segment.now in
    let is_place : ℕ → Type 0 = IsWordPlace text segment c.args.whole in
    let has_first : ℕ → Type 0 =
    λ k. (k < c.len.result - length segment + 1) × (slice_get text k ≡ Some c.args.first) in
    let known = c.requires.first_known in
    let needs = stands text segment c.args.whole c.args.first c.len.result known c.requires.itself c.len.ensures.len in
    let some = length-from_first segment c.args.first c.requires.first_known in
    let found = c.in-Some.ensures {u = tt} in
    let paid = candidate_paid (length segment) c.loop-place.from c.in-Some.place some found.first.0 in
    let before_reads = c.before_place-previous.ensures.reads in
    let fails : is_place c.in-Some.place → ⊥ =
    λ here. absurd (let yes = c.is_word_place.ensures.serves.1 here in cc) in
    let low_none = c.loop-place.invariant.2 in
    let below = none_before is_place has_first c.loop-place.from c.in-Some.place low_none found.first.2 needs in (
      sym (character_before-next text c.in-Some.place ∙ found.first.1.1),
      (
        omega (arith, found.reads, before_reads, c.is_word_place.ensures.reads),
        omega (arith, found.reads, before_reads, c.is_word_place.ensures.reads),
      ),
      (λ j low. none_below_next is_place c.in-Some.place (λ k before. below k (omega arith) before) fails j),
      omega (arith, found.first.1.0),
    )

pub returns-clause-first : goal.returns-clause-first
returns-clause-first c =
    λ j low here.
    let none = (c.in_default.ensures {u = tt}).first in
    let text = c.args.value.now in
    let segment = c.args.segment.now in
    let known = c.requires.first_known in
    let needs = stands text segment c.args.whole c.args.first c.len.result known c.requires.itself c.len.ensures.len in
    elim (cases_lt j c.loop-place.from) [
      | inl before ↦ c.loop-place.invariant.2 j low before here
      | inr at ↦ none j at (needs j here)
    ]
