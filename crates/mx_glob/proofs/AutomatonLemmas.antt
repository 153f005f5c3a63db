-- A search that goes through the text once: what it has ruled out, character by character.
use Rattle.std.proofs.Common.{◌≡◌, ℕ, zero, suc, ◌+◌, ◌-◌, ◌<◌, ◌≤◌, Bool, List, [], ◌∷◌, ◌++◌, length, slice_get}
use Rattle.std.proofs.Common.{Option, Some, None, IsTrue, inl, inr, sym, ap, ◌∙◌, subst, arith}
use Rattle.std.proofs.lemmas.Bool.{cases_lt}
use Rattle.std.proofs.lemmas.Option.{slice_get-get_or}
use Rattle.mx_glob.specs.Glob.{question}
use Rattle.mx_glob.specs.Leads.{FitsAt, IsPlace, IsFirstFrom}
use Rattle.mx_glob.specs.Words.{is_outside, character_before}
use Rattle.mx_glob.specs.Automaton.{IsExact, StandsAt, IsNext, IsEdged, IsReached, IsNowhere}
use Rattle.mx_glob.proofs.LeadsLemmas.{TakesAt-found, TakesAt-other, character_before-next}
use Rattle.mx_glob.proofs.SegmentLemmas.{within}
use Rattle.mx_glob.proofs.FallLemmas.{StandsAt-overlap}

pub StandsAt-from_fits : (text segment : List ℕ) (k : ℕ) → IsExact segment → FitsAt text segment k
    → StandsAt text segment (length segment) k
StandsAt-from_fits text [] k exact fits i h = absurd (omega arith)
StandsAt-from_fits text (c ∷ rest) k exact fits zero h =
    let at_place : k + 0 ≡ k = omega arith in
    ap (slice_get text) at_place ∙ TakesAt-other text c k (λ same. exact 0 (ap Some same)) fits.0
StandsAt-from_fits text (c ∷ rest) k exact fits (suc i) h =
    let at_place : k + suc i ≡ k + 1 + i = omega arith in
    ap (slice_get text) at_place ∙ StandsAt-from_fits text rest (k + 1) (λ n. exact (suc n)) fits.1 i (omega arith)

pub FitsAt-from_stands : (text segment : List ℕ) (k : ℕ) → StandsAt text segment (length segment) k
    → FitsAt text segment k
FitsAt-from_stands text [] k stands = tt
FitsAt-from_stands text (c ∷ rest) k stands =
    let at_place : k ≡ k + 0 = omega arith in
    let tail : StandsAt text rest (length rest) (k + 1) =
    λ i h.
    let at_next : k + 1 + i ≡ k + suc i = omega arith in
    ap (slice_get text) at_next ∙ stands (suc i) (omega arith)
    in (
      TakesAt-found text c k (ap (slice_get text) at_place ∙ stands 0 (omega arith)),
      FitsAt-from_stands text rest (k + 1) tail,
    )

pub inside : (text : List ℕ) (k c : ℕ) → slice_get text k ≡ Some c → k < length text
inside text k c e = within text c k (TakesAt-found text c k e)

next_within : (segment : List ℕ) (size here next : ℕ) → IsNext segment size here next → next ≤ length segment
next_within segment size here zero step = omega arith
next_within segment size here (suc i) step = let low = inside segment i here (step.last i (omega arith)) in omega arith

next_stands : (text segment : List ℕ) (place size here next : ℕ) → size ≤ place
    → StandsAt text segment size (place - size) → slice_get text place ≡ Some here → IsNext segment size here next
    → StandsAt text segment next (place + 1 - next)
next_stands text segment place size here next low stands e step i h =
    elim (cases_lt (i + 1) next) [
      | inl before ↦
          let at_place : place + 1 - next + i ≡ place - size + (size + 1 - next + i) = omega (arith, step.most) in
          ap (slice_get text) at_place ∙ stands (size + 1 - next + i) (omega (arith, step.most)) ∙ step.others i before
      | inr at ↦
          let last : i + 1 ≡ next = omega arith in
          let at_place : place + 1 - next + i ≡ place = omega (arith, step.most) in
          ap (slice_get text) at_place ∙ e ∙ sym (step.last i last)
    ]

next_none : (text segment : List ℕ) (begins ends : Bool) (from place size here next : ℕ) (before : Option ℕ)
    → IsReached text segment begins ends from place size before → slice_get text place ≡ Some here
    → IsNext segment size here next → (size ≡ length segment → IsEdged text segment begins ends (place - size) → ⊥)
    → (j : ℕ) → from ≤ j → j + next < place + 1 → IsEdged text segment begins ends j → ⊥
next_none text segment begins ends from place size here next before reached e step other j low high served =
    elim (cases_lt (j + size) place) [
      | inl earlier ↦ reached.none j low earlier served
      | inr later ↦
          let all = served.stands in
          elim (cases_lt (place - j) (length segment)) [
            | inl inner ↦
                let outer : StandsAt text segment (place - j) j = λ i h. all i (omega arith) in
                let part = StandsAt-overlap text segment size (place - j) (place - size) j (omega arith)
                (omega (arith, reached.low)) reached.stands outer in
                let at_place : place ≡ j + (place - j) = omega arith in
                let same : slice_get segment (place - j) ≡ Some here =
                sym (all (place - j) inner) ∙ ap (slice_get text) (sym at_place) ∙ e in
                step.longest (place - j) (omega arith) (omega arith) part same
            | inr whole ↦
                let long : size ≡ length segment = omega (arith, reached.most) in
                let at_place : j ≡ place - size = omega (arith, reached.most) in
                other long (subst (IsEdged text segment begins ends) at_place served)
          ]
    ]

-- one character of the text more
pub IsReached-next : (text segment : List ℕ) (begins ends : Bool) (from place size here next : ℕ)
    (before after : Option ℕ) → IsReached text segment begins ends from place size before
    → slice_get text place ≡ Some here → IsNext segment size here next
    → (size ≡ length segment → IsEdged text segment begins ends (place - size) → ⊥)
    → (IsTrue begins → after ≡ character_before text (place + 1 - next))
    → IsReached text segment begins ends from (place + 1) next after
IsReached-next text segment begins ends from place size here next before after reached e step other known = record {
  low = omega (arith, reached.low, step.most);
  high = let low = inside text place here e in omega arith;
  most = next_within segment size here next step;
  stands = next_stands text segment place size here next (omega (arith, reached.low)) reached.stands e step;
  none = next_none text segment begins ends from place size here next before reached e step other;
  known = known;
}

-- where the next character isn't the segment's, the one before what still stands is known from the segment
pub before_shorter : (text segment : List ℕ) (place size here next : ℕ) → size ≤ place → next ≤ size → 1 ≤ next
    → StandsAt text segment size (place - size)
    → slice_get segment (size - next) ≡ character_before text (place + 1 - next)
before_shorter text segment place size here next low short some stands =
    let e : place + 1 - next ≡ place - next + 1 = omega arith in
    let at_place : place - next ≡ place - size + (size - next) = omega arith in
    sym (ap (character_before text) e ∙ character_before-next text (place - next) ∙ ap (slice_get text) at_place
    ∙ stands (size - next) (omega arith))

pub before_none : (text : List ℕ) (place here next : ℕ) → next ≡ 0 → slice_get text place ≡ Some here
    → Some here ≡ character_before text (place + 1 - next)
before_none text place here next none e =
    let at_place : place + 1 - next ≡ place + 1 = omega arith in
    sym (ap (character_before text) at_place ∙ character_before-next text place ∙ e)

pub before_same : (text : List ℕ) (place size : ℕ) (before : Option ℕ) → before ≡ character_before text (place - size)
    → before ≡ character_before text (place + 1 - (size + 1))
before_same text place size before known =
    let at_place : place - size ≡ place + 1 - (size + 1) = omega arith in
    known ∙ ap (character_before text) at_place

-- the next character isn't the segment's
pub next_short : (segment : List ℕ) (size here next : ℕ) → IsNext segment size here next
    → (slice_get segment size ≡ Some here → ⊥) → next ≤ size
next_short segment size here next step other =
    elim (cases_lt size next) [
      | inl above ↦ absurd (other (step.last size (omega (arith, step.most))))
      | inr below ↦ below
    ]

first_there : (text segment : List ℕ) (begins ends : Bool) (first j : ℕ) → slice_get segment 0 ≡ Some first
    → IsEdged text segment begins ends j → slice_get text j ≡ Some first
first_there text segment begins ends first j known served =
    let at_place : j ≡ j + 0 = omega arith in
    ap (slice_get text) at_place ∙ served.stands 0 (inside segment 0 first known) ∙ known

-- where nothing stands, the next place of the segment's first character
pub IsReached-first : (text segment : List ℕ) (begins ends : Bool) (from place first found : ℕ)
    (before previous : Option ℕ) → slice_get segment 0 ≡ Some first
    → IsReached text segment begins ends from place 0 before → place ≤ found → slice_get text found ≡ Some first
    → ((j : ℕ) → place ≤ j → j < found → slice_get text j ≡ Some first → ⊥)
    → (IsTrue begins → previous ≡ character_before text found)
    → IsReached text segment begins ends from (found + 1) 1 previous
IsReached-first text segment begins ends from place first found before previous known reached on e none_between
    before_known = record {
      low = omega (arith, reached.low);
      high = let low = inside text found first e in omega arith;
      most = let low = inside segment 0 first known in omega arith;
      stands = λ i h. let at_place : found + 1 - 1 + i ≡ found = omega arith in let at_first : i ≡ 0 = omega arith in
          ap (slice_get text) at_place ∙ e ∙ sym known ∙ ap (slice_get segment) (sym at_first);
      none = λ j low high served.
          elim (cases_lt j place) [
            | inl earlier ↦ reached.none j low (omega arith) served
            | inr later ↦ none_between j later (omega arith) (first_there text segment begins ends first j known served)
          ];
      known = λ yes. let at_place : found ≡ found + 1 - 1 = omega arith in
          before_known yes ∙ ap (character_before text) at_place;
    }

-- it isn't there any more
pub IsReached-nowhere : (text segment : List ℕ) (begins ends : Bool) (from place first : ℕ) (before : Option ℕ)
    → slice_get segment 0 ≡ Some first → IsReached text segment begins ends from place 0 before
    → ((j : ℕ) → place ≤ j → slice_get text j ≡ Some first → ⊥) → (j : ℕ) → from ≤ j
    → IsEdged text segment begins ends j → ⊥
IsReached-nowhere text segment begins ends from place first before known reached none_after j low served =
    elim (cases_lt j place) [
      | inl earlier ↦ reached.none j low (omega arith) served
      | inr later ↦ none_after j later (first_there text segment begins ends first j known served)
    ]

-- the text is at its end
pub IsReached-end : (text segment : List ℕ) (begins ends : Bool) (from place size : ℕ) (before : Option ℕ)
    → IsReached text segment begins ends from place size before → length text ≤ place
    → (size ≡ length segment → IsEdged text segment begins ends (place - size) → ⊥) → (j : ℕ) → from ≤ j
    → IsEdged text segment begins ends j → ⊥
IsReached-end text segment begins ends from place size before reached past other j low served =
    elim (cases_lt (j + size) place) [
      | inl earlier ↦ reached.none j low earlier served
      | inr later ↦
          let room = served.in_text in
          let long : size ≡ length segment = omega (arith, reached.most, reached.high) in
          let at_place : j ≡ place - size = omega (arith, reached.most, reached.high) in
          other long (subst (IsEdged text segment begins ends) at_place served)
    ]

past_end : (text : List ℕ) (k : ℕ) (here : Option ℕ) → here ≡ None → here ≡ slice_get text k → length text ≤ k
past_end text k here none e =
    elim (cases_lt k (length text)) [
      | inl within_text ↦ let some = slice_get-get_or text k 0 within_text in cc
      | inr past ↦ past
    ]

behind : (text segment : List ℕ) (place size : ℕ) → size ≤ place → size ≡ length segment
    → slice_get text (place - size + length segment) ≡ slice_get text place
behind text segment place size low long =
    let at_place : place - size + length segment ≡ place = omega arith in
    ap (slice_get text) at_place

-- what has to stand beside the segment, in terms of what is known there
abbrev pub IsServed : List ℕ → Bool → Bool → ℕ → Option ℕ → Option ℕ → Type 0
IsServed segment begins ends size before here =
    (size ≡ length segment) × (IsTrue begins → IsTrue (is_outside before)) × (IsTrue ends → IsTrue (is_outside here))

pub IsEdged-from_served : (text segment : List ℕ) (begins ends : Bool) (from place size : ℕ) (before here : Option ℕ)
    → IsReached text segment begins ends from place size before → here ≡ slice_get text place
    → IsServed segment begins ends size before here → IsEdged text segment begins ends (place - size)
IsEdged-from_served text segment begins ends from place size before here reached e served = record {
  in_text = omega (arith, reached.low, reached.high, served.0);
  stands = λ i h. reached.stands i (omega (arith, served.0));
  begins_word = λ yes. subst (λ o. IsTrue (is_outside o)) (reached.known yes) (served.1 yes);
  ends_word = λ yes. subst (λ o. IsTrue (is_outside o))
      (e ∙ sym (behind text segment place size (omega (arith, reached.low)) served.0)) (served.2 yes);
}

pub IsServed-from_edged : (text segment : List ℕ) (begins ends : Bool) (from place size : ℕ) (before here : Option ℕ)
    → IsReached text segment begins ends from place size before → here ≡ slice_get text place → size ≡ length segment
    → IsEdged text segment begins ends (place - size) → IsServed segment begins ends size before here
IsServed-from_edged text segment begins ends from place size before here reached e long edged = (
  long,
  λ yes. subst (λ o. IsTrue (is_outside o)) (sym (reached.known yes)) (edged.begins_word yes),
  λ yes. subst (λ o. IsTrue (is_outside o))
      (sym (e ∙ sym (behind text segment place size (omega (arith, reached.low)) long))) (edged.ends_word yes),
)

-- where it isn't served, and the text is at its end, there is no such place
pub IsNowhere-end : (text segment : List ℕ) (begins ends : Bool) (from place size : ℕ) (before here : Option ℕ)
    → IsReached text segment begins ends from place size before → here ≡ None → here ≡ slice_get text place
    → (IsServed segment begins ends size before here → ⊥) → IsNowhere text segment begins ends from
IsNowhere-end text segment begins ends from place size before here reached none e unserved =
    IsReached-end text segment begins ends from place size before reached (past_end text place here none e)
    (λ long edged.
    unserved (IsServed-from_edged text segment begins ends from place size before here reached e long edged))

-- where no '?' stands in a segment, it agrees where it stands
pub IsPlace-from_edged : (text segment : List ℕ) (begins ends : Bool) (k : ℕ) → IsEdged text segment begins ends k
    → IsPlace text segment k
IsPlace-from_edged text segment begins ends k edged =
    record { in_text = edged.in_text; agrees = FitsAt-from_stands text segment k edged.stands }

pub IsFirstFrom-same : (P Q : ℕ → Type 0) (from : ℕ) (found : Option ℕ) → ((k : ℕ) → P k → Q k) → ((k : ℕ) → Q k → P k)
    → IsFirstFrom P from found → IsFirstFrom Q from found
IsFirstFrom-same P Q from None to back first = λ j low here. first j low (back j here)
IsFirstFrom-same P Q from (Some k) to back first =
    (first.0, to k first.1, λ j low high here. first.2 j low high (back j here))

IsExact-cons : (x : ℕ) (segment : List ℕ) → (Some x ≡ Some question → ⊥) → IsExact segment → IsExact (x ∷ segment)
IsExact-cons x segment first rest zero e = first e
IsExact-cons x segment first rest (suc i) e = rest i e

-- the parts of a pattern without '?'
pub IsExact-parts : (segment : List ℕ) (c : ℕ) (rest : List ℕ) → IsExact (segment ++ c ∷ rest)
    → IsExact segment × IsExact rest
IsExact-parts [] c rest exact = (λ i e. cc, λ i. exact (suc i))
IsExact-parts (x ∷ segment) c rest exact =
    let parts = IsExact-parts segment c rest (λ i. exact (suc i)) in
    (IsExact-cons x segment (exact 0) parts.0, parts.1)
