use Rattle.std.proofs.Common.{false, subst}
use Rattle.mx_glob.specs.Leads.{IsPlace, IsFirstFrom}
use Rattle.mx_glob.specs.Automaton.{IsEdged}
use Rattle.mx_glob.proofs.AutomatonLemmas.{StandsAt-from_fits, IsPlace-from_edged, IsFirstFrom-same}
use Rattle.mx_glob.proofs.place.find.Goals as goal

pub returns-in-Some-clause-first : goal.returns-in-Some-clause-first
returns-in-Some-clause-first c =
    let wanted = c.in-Some.wanted in
    let told = (c.in-Some.ensures {u = tt}).some in
    let text = c.args.value.now in
    let segment = c.args.segment.now in
    let found = c.find_onward.result in
    let first_segment : IsFirstFrom (IsEdged text segment wanted.begins wanted.ends) c.args.from found = subst (λ s.
    IsFirstFrom (IsEdged text s wanted.begins wanted.ends) c.args.from found) told.0 c.find_onward.ensures.first in
    let first_begins : IsFirstFrom (IsEdged text segment false wanted.ends) c.args.from found =
    subst (λ b. IsFirstFrom (IsEdged text segment b wanted.ends) c.args.from found) told.1 first_segment in
    let first : IsFirstFrom (IsEdged text segment false false) c.args.from found =
    subst (λ e. IsFirstFrom (IsEdged text segment false e) c.args.from found) told.2 first_begins in
    IsFirstFrom-same (IsEdged text segment false false) (IsPlace text segment) c.args.from found
    (λ k. IsPlace-from_edged text segment false false k)
    (λ k here. record {
      in_text = here.in_text;
      stands = StandsAt-from_fits text segment k told.4 here.agrees;
      begins_word = λ never. cc;
      ends_word = λ never. cc;
    })
    first
