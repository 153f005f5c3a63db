-- What a match is, whole or of a word, in terms of segments.
use Rattle.std.proofs.Common.{◌≡◌, ℕ, ◌+◌, ◌-◌, ◌<◌, ◌≤◌, ◌==◌, Bool, true, false, List, [], ◌∷◌, ◌++◌, length}
use Rattle.std.proofs.Common.{slice_range, Option, Some, None, IsTrue, is_some, ◌↔◌, inl, inr, refl, sym, ap, ◌∙◌}
use Rattle.std.proofs.Common.{subst, arith, eq-eqb, eqb-true}
use Rattle.std.proofs.lemmas.Bool.{cases_lt}
use Rattle.std.proofs.lemmas.List.{take_all, nil_from_length}
use Rattle.mx_glob.specs.Glob.{star, Matches}
use Rattle.mx_glob.specs.Words.{is_outside, character_before, IsWordAt, WordMatches}
use Rattle.mx_glob.specs.declared.rest.End.TheVariants.{Text, Word}
use Rattle.mx_glob.specs.Leads.{FitsAt, IsPlain, IsWordPlace, Leads, LeadsOn, ends_at, IsFirstFrom}
use Rattle.mx_glob.proofs.MatchLemmas.{MatchesFrom-leads, Leads-from_matches}
use Rattle.mx_glob.proofs.SegmentLemmas.{Leads-plain, Leads-from_plain, Leads-segment, Leads-from_segment}
use Rattle.mx_glob.proofs.SegmentLemmas.{FitsAt-in_text, LeadsOn-later}

all_of : (text : List ℕ) → slice_range text 0 (length text) ≡ text
all_of text =
    let e : length text ≤ length text - 0 = omega arith in
    take_all (length text - 0) text e

pub Matches-leads : (text pattern : List ℕ) → Matches pattern text ↔ Leads (ends_at Text text) text pattern 0
Matches-leads text pattern = (
  λ matched. Leads-from_matches (ends_at Text text) text pattern 0 (length text) (omega arith) (omega arith)
      (eq-eqb _ _ refl) (subst (Matches pattern) (sym (all_of text)) matched),
  λ leads.
      let part = MatchesFrom-leads (ends_at Text text) text pattern 0 (omega arith) leads in
      let e : part.0 ≡ length text = eqb-true _ _ part.3 in
      subst (Matches pattern) (ap (slice_range text 0) e ∙ all_of text) part.4,
)

-- without a star
pub Matches-plain : (text pattern : List ℕ) → IsPlain pattern
    → Matches pattern text ↔ ((length pattern ≡ length text) × FitsAt text pattern 0)
Matches-plain text pattern plain = (
  λ matched.
      let parts = Leads-segment (ends_at Text text) text pattern 0 plain ((Matches-leads text pattern).0 matched) in
      let e : 0 + length pattern ≡ length text = eqb-true _ _ parts.1 in
      (omega arith, parts.0),
  λ parts.
      let e : 0 + length pattern ≡ length text = omega (arith, parts.0) in
      (Matches-leads text pattern).1
      (Leads-from_segment (ends_at Text text) text pattern 0 plain parts.1 (eq-eqb _ _ e)),
)

-- with one
pub Matches-starred : (text first rest : List ℕ) → IsPlain first
    → Matches (first ++ star ∷ rest) text ↔ (FitsAt text first 0 × LeadsOn (ends_at Text text) text rest (length first))
Matches-starred text first rest plain =
    let e : 0 + length first ≡ length first = omega arith in (
      λ matched.
          let parts = Leads-plain (ends_at Text text) text first (star ∷ rest) 0 plain
          ((Matches-leads text (first ++ star ∷ rest)).0 matched) in
          (parts.0, subst (LeadsOn (ends_at Text text) text rest) e parts.1),
      λ parts. (Matches-leads text (first ++ star ∷ rest)).1 (Leads-from_plain (ends_at Text text) text first
          (star ∷ rest) 0 plain parts.0 (subst (LeadsOn (ends_at Text text) text rest) (sym e) parts.1)),
    )

before : (text : List ℕ) (a b : ℕ) → IsWordAt text a b → a ≤ length text
before text a b word = omega (arith, word.in_order, word.in_text)

in_text : (text segment : List ℕ) (whole : Bool) (k : ℕ) → IsWordPlace text segment whole k → k ≤ length text
in_text text segment whole k here = omega (arith, here.place.in_text)

abbrev LeadsFromWord : List ℕ → List ℕ → Type 0
LeadsFromWord text pattern = (a : ℕ) × (a ≤ length text) × IsTrue (is_outside (character_before text a))
    × Leads (ends_at Word text) text pattern a

WordMatches-leads : (text pattern : List ℕ) → WordMatches pattern text ↔ LeadsFromWord text pattern
WordMatches-leads text pattern = (
  λ matched. (
    matched.0,
    before text matched.0 matched.1 matched.2,
    matched.2.begins,
    Leads-from_matches (ends_at Word text) text pattern matched.0 matched.1 matched.2.in_order matched.2.in_text
        matched.2.ends matched.3,
  ),
  λ leads.
      let part = MatchesFrom-leads (ends_at Word text) text pattern leads.0 leads.1 leads.3 in
      (leads.0, part.0, record { in_order = part.1; in_text = part.2; begins = leads.2; ends = part.3 }, part.4),
)

pub WordMatches-plain : (text pattern : List ℕ) → IsPlain pattern
    → WordMatches pattern text ↔ ((a : ℕ) × IsWordPlace text pattern true a)
WordMatches-plain text pattern plain = (
  λ matched.
      let leads = (WordMatches-leads text pattern).0 matched in
      let parts = Leads-segment (ends_at Word text) text pattern leads.0 plain leads.3 in (
        leads.0,
        record {
          place = record { in_text = FitsAt-in_text text pattern leads.0 leads.1 parts.0; agrees = parts.0 };
          begins = leads.2;
          ends = λ _. parts.1;
        },
      ),
  λ found. (WordMatches-leads text pattern).1 (
    found.0,
    in_text text pattern true found.0 found.1,
    found.1.begins,
    Leads-from_segment (ends_at Word text) text pattern found.0 plain found.1.place.agrees (found.1.ends refl),
  ),
)

-- the part of a pattern before its first star, at a place where a word begins
word_place : (text first rest : List ℕ) → IsPlain first → LeadsFromWord text (first ++ star ∷ rest)
    → (a : ℕ) × IsWordPlace text first false a × LeadsOn (ends_at Word text) text rest (a + length first)
word_place text first rest plain leads =
    let parts = Leads-plain (ends_at Word text) text first (star ∷ rest) leads.0 plain leads.3 in (
      leads.0,
      record {
        place = record { in_text = FitsAt-in_text text first leads.0 leads.1 parts.0; agrees = parts.0 };
        begins = leads.2;
        ends = λ never. cc;
      },
      parts.1,
    )

pub WordMatches-nowhere : (text first rest : List ℕ) → IsPlain first → ((a : ℕ) → IsWordPlace text first false a → ⊥)
    → WordMatches (first ++ star ∷ rest) text → ⊥
WordMatches-nowhere text first rest plain nowhere matched =
    let found = word_place text first rest plain ((WordMatches-leads text (first ++ star ∷ rest)).0 matched) in
    nowhere found.0 found.1

pub WordMatches-starred : (text first rest : List ℕ) (place : ℕ) → IsPlain first → IsWordPlace text first false place
    → ((a : ℕ) → a < place → IsWordPlace text first false a → ⊥)
    → WordMatches (first ++ star ∷ rest) text ↔ LeadsOn (ends_at Word text) text rest (place + length first)
WordMatches-starred text first rest place plain here none = (
  λ matched.
      let found = word_place text first rest plain ((WordMatches-leads text (first ++ star ∷ rest)).0 matched) in
      let later : place ≤ found.0 =
      elim (cases_lt found.0 place) [ inl before ↦ absurd (none found.0 before found.1) | inr at ↦ at ] in
      LeadsOn-later (ends_at Word text) text rest (place + length first) (found.0 + length first) (omega arith) found.2,
  λ on. (WordMatches-leads text (first ++ star ∷ rest)).1 (
    place,
    in_text text first false place here,
    here.begins,
    Leads-from_plain (ends_at Word text) text first (star ∷ rest) place plain here.place.agrees on,
  ),
)

pub WordMatches-star : (text rest : List ℕ) → WordMatches (star ∷ rest) text ↔ LeadsOn (ends_at Word text) text rest 0
WordMatches-star text rest =
    WordMatches-starred text [] rest 0 tt (record {
      place = record { in_text = omega arith; agrees = tt };
      begins = refl;
      ends = λ never. cc;
    }) (λ a before. absurd (omega arith))

pub IsSome-first : (P : ℕ → Type 0) (found : Option ℕ) → IsFirstFrom P 0 found
    → IsTrue (is_some found) ↔ ((a : ℕ) × P a)
IsSome-first P None first = (λ never. cc, λ some. absurd (first some.0 (omega arith) some.1))
IsSome-first P (Some k) first = (λ yes. (k, first.1), λ some. refl)

pub nil_from_test : (xs : List ℕ) → (length xs == 0) ≡ true → xs ≡ []
nil_from_test xs h = nil_from_length xs (eqb-true _ _ h)

pub not_nil_from_test : (xs : List ℕ) → (length xs == 0) ≡ false → 1 ≤ length xs
not_nil_from_test [] h = cc
not_nil_from_test (x ∷ xs) h = omega arith
