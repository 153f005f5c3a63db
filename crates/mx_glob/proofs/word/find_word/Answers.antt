use Rattle.std.proofs.Common.{true, refl, subst}
use Rattle.mx_glob.specs.Leads.{IsWordPlace, IsFirstFrom}
use Rattle.mx_glob.specs.Automaton.{IsEdged}
use Rattle.mx_glob.proofs.AutomatonLemmas.{StandsAt-from_fits, IsPlace-from_edged, IsFirstFrom-same}
use Rattle.mx_glob.proofs.word.find_word.Goals as goal

pub returns-in-Some-clause-first : goal.returns-in-Some-clause-first
returns-in-Some-clause-first c =
    let wanted = c.in-Some.wanted in
    let told = (c.in-Some.ensures {u = tt}).some in
    let text = c.args.value.now in
    let segment = c.args.segment.now in
    let whole = c.args.whole in
    let found = c.find_onward.result in
    let first_segment : IsFirstFrom (IsEdged text segment wanted.begins wanted.ends) 0 found =
    subst (λ s. IsFirstFrom (IsEdged text s wanted.begins wanted.ends) 0 found) told.0 c.find_onward.ensures.first in
    let first_begins : IsFirstFrom (IsEdged text segment true wanted.ends) 0 found =
    subst (λ b. IsFirstFrom (IsEdged text segment b wanted.ends) 0 found) told.1 first_segment in
    let first : IsFirstFrom (IsEdged text segment true whole) 0 found =
    subst (λ e. IsFirstFrom (IsEdged text segment true e) 0 found) told.2 first_begins in
    IsFirstFrom-same (IsEdged text segment true whole) (IsWordPlace text segment whole) 0 found
    (λ k edged. record {
      place = IsPlace-from_edged text segment true whole k edged;
      begins = edged.begins_word refl;
      ends = edged.ends_word;
    })
    (λ k here. record {
      in_text = here.place.in_text;
      stands = StandsAt-from_fits text segment k told.4 here.place.agrees;
      begins_word = λ yes. here.begins;
      ends_word = here.ends;
    })
    first
