use Rattle.std.proofs.Common.{◌≡◌, ℕ, List, length, Option, IsTrue, true, is_some, ◌↔◌, ◌∙◌, refl, sym, arith, eqb-true}
use Rattle.mx_glob.specs.Automaton.{IsExact, IsEdged}
use Rattle.mx_glob.specs.Leads.{IsWordPlace, IsFirstFrom}
use Rattle.mx_glob.specs.Words.{HasWord}
use Rattle.mx_glob.proofs.AutomatonLemmas.{StandsAt-from_fits, IsPlace-from_edged, IsFirstFrom-same, inside}
use Rattle.mx_glob.proofs.SearchLemmas.{HasWord-found}
use Rattle.mx_glob.proofs.word.held_word.Goals as goal

HasWord-empty : (text name : List ℕ) (found : Option ℕ) → length name ≡ 0
    → IsFirstFrom (IsWordPlace text name true) 0 found → IsTrue (is_some found) ↔ HasWord name text
HasWord-empty text name found empty first =
    let exact : IsExact name = λ i e. let some = inside name i _ e in absurd (omega arith) in
    HasWord-found text name 0 found (λ j low here. absurd (omega arith)) (
    IsFirstFrom-same (IsWordPlace text name true) (IsEdged text name true true) 0 found
    (λ k here. record {
      in_text = here.place.in_text;
      stands = StandsAt-from_fits text name k exact here.place.agrees;
      begins_word = λ yes. here.begins;
      ends_word = here.ends;
    })
    (λ k edged. record {
      place = IsPlace-from_edged text name true true k edged;
      begins = edged.begins_word refl;
      ends = edged.ends_word;
    })
    first)

pub returns-then-is_empty-clause-word : goal.returns-then-is_empty-clause-word
returns-then-is_empty-clause-word c =
    let empty : length c.args.name.now ≡ 0 = eqb-true _ _ (sym c.is_empty.ensures ∙ c.if-is_empty.true) in
    let same = HasWord-empty c.args.value.now c.args.name.now c.find_word.result empty c.find_word.ensures.first in
    (λ yes. same.0 (sym c.is_some.ensures ∙ yes), λ word. c.is_some.ensures ∙ same.1 word)
