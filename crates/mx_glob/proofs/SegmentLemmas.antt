-- A segment at the front of a pattern, and the first place of a segment.
use Rattle.std.proofs.Common.{◌≡◌, ℕ, zero, suc, ◌+◌, ◌-◌, ◌<◌, ◌≤◌, Bool, List, [], ◌∷◌, ◌++◌, length, IsTrue}
use Rattle.std.proofs.Common.{MatchBool, ◌↔◌, inl, inr, sym, subst, arith, eq-eqb, eqb-true}
use Rattle.std.proofs.lemmas.Bool.{cases_lt}
use Rattle.std.proofs.lemmas.List.{append-nil}
use Rattle.mx_glob.specs.Glob.{star}
use Rattle.mx_glob.specs.declared.rest.End.TheVariants.{Text, Word}
use Rattle.mx_glob.specs.Leads.{TakesAt, FitsAt, IsPlain, IsPlace, IsEndPlace, Leads, LeadsOn, ends_at}

-- a segment consumes as many characters as it has
pub Leads-plain : (ends : ℕ → Bool) (text segment rest : List ℕ) (k : ℕ) → IsPlain segment
    → Leads ends text (segment ++ rest) k → FitsAt text segment k × Leads ends text rest (k + length segment)
Leads-plain ends text [] rest k plain leads = (tt, subst (Leads ends text rest) (omega arith) leads)
Leads-plain ends text (c ∷ segment) rest k plain leads =
    let both : TakesAt text c k × Leads ends text (segment ++ rest) (k + 1) =
    subst (λ b. MatchBool b ((j : ℕ) × (k ≤ j) × (j ≤ length text) × Leads ends text (segment ++ rest) j)
    (TakesAt text c k × Leads ends text (segment ++ rest) (k + 1))) plain.0 leads
    in
    let next = Leads-plain ends text segment rest (k + 1) plain.1 both.1 in
    ((both.0, next.0), subst (Leads ends text rest) (omega arith) next.1)

pub Leads-from_plain : (ends : ℕ → Bool) (text segment rest : List ℕ) (k : ℕ) → IsPlain segment → FitsAt text segment k
    → Leads ends text rest (k + length segment) → Leads ends text (segment ++ rest) k
Leads-from_plain ends text [] rest k plain agrees leads = subst (Leads ends text rest) (omega arith) leads
Leads-from_plain ends text (c ∷ segment) rest k plain agrees leads =
    let next = Leads-from_plain ends text segment rest (k + 1) plain.1 agrees.1
    (subst (Leads ends text rest) (omega arith) leads) in
    subst (λ b. MatchBool b ((j : ℕ) × (k ≤ j) × (j ≤ length text) × Leads ends text (segment ++ rest) j)
    (TakesAt text c k × Leads ends text (segment ++ rest) (k + 1))) (sym plain.0) (agrees.0, next)

-- the same where the segment is the whole pattern
pub Leads-segment : (ends : ℕ → Bool) (text segment : List ℕ) (k : ℕ) → IsPlain segment → Leads ends text segment k
    → FitsAt text segment k × IsTrue (ends (k + length segment))
Leads-segment ends text segment k plain leads =
    Leads-plain ends text segment [] k plain (subst (λ s. Leads ends text s k) (sym (append-nil segment)) leads)

pub Leads-from_segment : (ends : ℕ → Bool) (text segment : List ℕ) (k : ℕ) → IsPlain segment → FitsAt text segment k
    → IsTrue (ends (k + length segment)) → Leads ends text segment k
Leads-from_segment ends text segment k plain agrees ended =
    subst (λ s. Leads ends text s k) (append-nil segment) (Leads-from_plain ends text segment [] k plain agrees ended)

pub within : (text : List ℕ) (c k : ℕ) → TakesAt text c k → k < length text
within [] c k h = absurd h
within (x ∷ text) c zero h = omega arith
within (x ∷ text) c (suc k) h = let next = within text c k h in omega arith

-- a segment that agrees stays in the text
pub FitsAt-in_text : (text segment : List ℕ) (k : ℕ) → k ≤ length text → FitsAt text segment k
    → k + length segment ≤ length text
FitsAt-in_text text [] k h agrees = omega arith
FitsAt-in_text text (c ∷ segment) k h agrees =
    let here = within text c k agrees.0 in
    let next = FitsAt-in_text text segment (k + 1) (omega arith) agrees.1 in
    omega arith

pub LeadsOn-later : (ends : ℕ → Bool) (text pattern : List ℕ) (a b : ℕ) → a ≤ b → LeadsOn ends text pattern b
    → LeadsOn ends text pattern a
LeadsOn-later ends text pattern a b h on = (on.0, omega arith, on.2, on.3)

-- where a segment that agrees nowhere comes first, nothing is led to
pub LeadsOn-nowhere : (ends : ℕ → Bool) (text segment rest : List ℕ) (from : ℕ) → IsPlain segment
    → ((j : ℕ) → from ≤ j → IsPlace text segment j → ⊥) → LeadsOn ends text (segment ++ rest) from → ⊥
LeadsOn-nowhere ends text segment rest from plain nowhere on =
    let agrees = (Leads-plain ends text segment rest on.0 plain on.3).0 in
    nowhere on.0 on.1 (record { in_text = FitsAt-in_text text segment on.0 on.2 agrees; agrees = agrees })

pub LeadsOn-segment_nowhere : (ends : ℕ → Bool) (text segment : List ℕ) (from : ℕ) → IsPlain segment
    → ((j : ℕ) → from ≤ j → IsPlace text segment j → ⊥) → LeadsOn ends text segment from → ⊥
LeadsOn-segment_nowhere ends text segment from plain nowhere on =
    LeadsOn-nowhere ends text segment [] from plain nowhere
    (subst (λ s. LeadsOn ends text s from) (sym (append-nil segment)) on)

in_text : (text segment : List ℕ) (place : ℕ) → IsPlace text segment place → place ≤ length text
in_text text segment place here = omega (arith, here.in_text)

-- the first place of a segment serves as well as any later one
pub LeadsOn-first : (ends : ℕ → Bool) (text segment after : List ℕ) (from place : ℕ) → IsPlain segment → from ≤ place
    → IsPlace text segment place → ((j : ℕ) → from ≤ j → j < place → IsPlace text segment j → ⊥)
    → LeadsOn ends text (segment ++ star ∷ after) from ↔ LeadsOn ends text after (place + length segment)
LeadsOn-first ends text segment after from place plain reached here first = (
  λ on.
      let parts = Leads-plain ends text segment (star ∷ after) on.0 plain on.3 in
      let found : IsPlace text segment on.0 =
      record { in_text = FitsAt-in_text text segment on.0 on.2 parts.0; agrees = parts.0 } in
      let later : place ≤ on.0 =
      elim (cases_lt on.0 place) [ inl before ↦ absurd (first on.0 on.1 before found) | inr at ↦ at ] in
      LeadsOn-later ends text after (place + length segment) (on.0 + length segment) (omega arith) parts.1,
  λ on. (
    place,
    reached,
    in_text text segment place here,
    Leads-from_plain ends text segment (star ∷ after) place plain here.agrees on,
  ),
)

-- at the end of the text there is one place for a segment
pub LeadsOn-text : (text segment : List ℕ) (from : ℕ) → IsPlain segment → LeadsOn (ends_at Text text) text segment from
    → (from + length segment ≤ length text) × FitsAt text segment (length text - length segment)
LeadsOn-text text segment from plain on =
    let parts = Leads-segment (ends_at Text text) text segment on.0 plain on.3 in
    let ended : on.0 + length segment ≡ length text = eqb-true _ _ parts.1 in
    (omega arith, subst (FitsAt text segment) (omega arith) parts.0)

pub LeadsOn-from_text : (text segment : List ℕ) (from : ℕ) → IsPlain segment → from + length segment ≤ length text
    → FitsAt text segment (length text - length segment) → LeadsOn (ends_at Text text) text segment from
LeadsOn-from_text text segment from plain room agrees =
    let ended : length text - length segment + length segment ≡ length text = omega arith in (
      length text - length segment,
      omega arith,
      omega arith,
      Leads-from_segment (ends_at Text text) text segment _ plain agrees (eq-eqb _ _ ended),
    )

-- a place that serves, and one that doesn't
-- the segment leads to an end of a word exactly where it stands at one
pub LeadsOn-end_place : (text segment : List ℕ) (from : ℕ) → IsPlain segment
    → LeadsOn (ends_at Word text) text segment from → (place : ℕ) × (from ≤ place) × IsEndPlace text segment place
LeadsOn-end_place text segment from plain on =
    let parts = Leads-segment (ends_at Word text) text segment on.0 plain on.3 in
    let here : IsPlace text segment on.0 =
    record { in_text = FitsAt-in_text text segment on.0 on.2 parts.0; agrees = parts.0 } in
    (on.0, on.1, record { place = here; ends = parts.1 })

pub LeadsOn-from_end_place : (text segment : List ℕ) (from place : ℕ) → IsPlain segment → from ≤ place
    → IsEndPlace text segment place → LeadsOn (ends_at Word text) text segment from
LeadsOn-from_end_place text segment from place plain reached here = (
  place,
  reached,
  in_text text segment place here.place,
  Leads-from_segment (ends_at Word text) text segment place plain here.place.agrees here.ends,
)
