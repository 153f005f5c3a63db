use Rattle.std.proofs.Common.{ℕ, List, false, true, Option, Some, None, IsTrue, is_some, ◌↔◌, ◌∙◌, refl, sym, subst}
use Rattle.std.proofs.Common.{arith}
use Rattle.mx_glob.specs.Leads.{IsPlain, LeadsOn, ends_at, IsFirstFrom}
use Rattle.mx_glob.specs.declared.rest.End.TheVariants.{Word}
use Rattle.mx_glob.specs.Automaton.{IsExact, IsEdged}
use Rattle.mx_glob.proofs.AutomatonLemmas.{StandsAt-from_fits, IsPlace-from_edged}
use Rattle.mx_glob.proofs.SegmentLemmas.{LeadsOn-end_place, LeadsOn-from_end_place}
use Rattle.mx_glob.proofs.rest.ends_word.Goals as goal

-- the segment leads on exactly where a place is found at which it ends a word
LeadsOn-found : (text segment : List ℕ) (from : ℕ) (found : Option ℕ) → IsPlain segment → IsExact segment
    → IsFirstFrom (IsEdged text segment false true) from found
    → IsTrue (is_some found) ↔ LeadsOn (ends_at Word text) text segment from
LeadsOn-found text segment from None plain exact first = (
  λ never. cc,
  λ on.
      let some = LeadsOn-end_place text segment from plain on in
      absurd (first some.0 some.1 (record {
        in_text = some.2.place.in_text;
        stands = StandsAt-from_fits text segment some.0 exact some.2.place.agrees;
        begins_word = λ never. cc;
        ends_word = λ yes. some.2.ends;
      })),
)
LeadsOn-found text segment from (Some k) plain exact first = (
  λ yes. LeadsOn-from_end_place text segment from k plain first.0
      (record { place = IsPlace-from_edged text segment false true k first.1; ends = first.1.ends_word refl }),
  λ on. refl,
)

pub returns-then-segment-len-clause-value : goal.returns-then-segment-len-clause-value
returns-then-segment-len-clause-value c = (
  λ never. cc,
  λ on. let found = LeadsOn-end_place _ _ _ c.requires.plain on in let room = found.2.place.in_text in
      absurd (omega (arith, found.1)),
)

pub returns-in-Some-clause-value : goal.returns-in-Some-clause-value
returns-in-Some-clause-value c =
    let wanted = c.in-Some.wanted in
    let told = (c.in-Some.ensures {u = tt}).some in
    let text = c.args.value.now in
    let found = c.find_onward.result in
    let first_segment : IsFirstFrom (IsEdged text c.args.segment.now wanted.begins wanted.ends) c.args.from found =
    subst (λ s. IsFirstFrom (IsEdged text s wanted.begins wanted.ends) c.args.from found) told.0
    c.find_onward.ensures.first in
    let first_begins : IsFirstFrom (IsEdged text c.args.segment.now false wanted.ends) c.args.from found =
    subst (λ b. IsFirstFrom (IsEdged text c.args.segment.now b wanted.ends) c.args.from found) told.1 first_segment in
    let first : IsFirstFrom (IsEdged text c.args.segment.now false true) c.args.from found =
    subst (λ e. IsFirstFrom (IsEdged text c.args.segment.now false e) c.args.from found) told.2 first_begins in
    let same = LeadsOn-found text c.args.segment.now c.args.from found c.requires.plain told.4 first in
    (λ yes. same.0 (sym c.is_some.ensures ∙ yes), λ on. c.is_some.ensures ∙ same.1 on)
