-- The beginnings of a segment with which other beginnings end, and the steps from one to the next.
use Rattle.std.proofs.Common.{◌≡◌, ℕ, zero, suc, ◌+◌, ◌-◌, ◌<◌, ◌≤◌, List, slice_get, Some, inl, inr, sym, ap, ◌∙◌}
use Rattle.std.proofs.Common.{arith}
use Rattle.std.proofs.lemmas.Bool.{cases_lt}
use Rattle.mx_glob.specs.Automaton.{StandsAt, IsFall, IsNext}

-- a part that is known ends with a beginning that its own ends with
pub StandsAt-inner : (text segment : List ℕ) (size shorter k m : ℕ) → shorter ≤ size → m ≡ k + (size - shorter)
    → StandsAt text segment size k → StandsAt segment segment shorter (size - shorter) → StandsAt text segment shorter m
StandsAt-inner text segment size shorter k m short e outer inner i h =
    let at_place : m + i ≡ k + (size - shorter + i) = omega arith in
    ap (slice_get text) at_place ∙ outer (size - shorter + i) (omega arith) ∙ inner i h

-- of two that end at the same place the longer one ends with the shorter
pub StandsAt-overlap : (text segment : List ℕ) (size shorter k m : ℕ) → shorter ≤ size → m ≡ k + (size - shorter)
    → StandsAt text segment size k → StandsAt text segment shorter m → StandsAt segment segment shorter (size - shorter)
StandsAt-overlap text segment size shorter k m short e outer inner i h =
    let at_place : m + i ≡ k + (size - shorter + i) = omega arith in
    sym (outer (size - shorter + i) (omega arith)) ∙ ap (slice_get text) (sym at_place) ∙ inner i h

-- the next character of the segment
pub IsNext-same : (segment : List ℕ) (size here : ℕ) → slice_get segment size ≡ Some here
    → IsNext segment size here (size + 1)
IsNext-same segment size here e = record {
  most = omega arith;
  last = λ i same. let at_end : i ≡ size = omega arith in ap (slice_get segment) at_end ∙ e;
  others = λ i h. let at_place : size + 1 - (size + 1) + i ≡ i = omega arith in ap (slice_get segment) at_place;
  longest = λ t low high ends same. absurd (omega arith);
}

-- the beginnings that are longer than this one don't go on with the character
abbrev pub NoneLonger : List ℕ → ℕ → ℕ → ℕ → Type 0
NoneLonger segment size here shorter = (t : ℕ) → shorter < t → t ≤ size → StandsAt segment segment t (size - t)
    → slice_get segment t ≡ Some here → ⊥

-- one fall more
pub fall_ends : (segment : List ℕ) (size shorter next : ℕ) → shorter ≤ size
    → StandsAt segment segment shorter (size - shorter) → IsFall segment shorter next
    → StandsAt segment segment next (size - next)
fall_ends segment size shorter next short ends fall =
    StandsAt-inner segment segment shorter next (size - shorter) (size - next) (omega (arith, fall.below))
    (omega (arith, fall.below)) ends fall.ends

pub fall_none : (segment : List ℕ) (size here shorter next : ℕ) → shorter ≤ size
    → StandsAt segment segment shorter (size - shorter) → IsFall segment shorter next
    → NoneLonger segment size here shorter → (slice_get segment shorter ≡ Some here → ⊥)
    → NoneLonger segment size here next
fall_none segment size here shorter next short ends fall none other t low high stands same =
    elim (cases_lt shorter t) [
      | inl above ↦ none t above high stands same
      | inr below ↦
          elim (cases_lt t shorter) [
            | inr at ↦ let e : shorter ≡ t = omega arith in other (ap (slice_get segment) e ∙ same)
            | inl under ↦
                let inner = StandsAt-overlap segment segment shorter t (size - shorter) (size - t) (omega arith)
                (omega arith) ends stands in
                let most = fall.longest t under inner in
                omega arith
          ]
    ]

-- the longest beginning that goes on with the character
pub IsNext-here : (segment : List ℕ) (size here shorter : ℕ) → shorter ≤ size
    → StandsAt segment segment shorter (size - shorter) → NoneLonger segment size here shorter
    → slice_get segment shorter ≡ Some here → IsNext segment size here (shorter + 1)
IsNext-here segment size here shorter short ends none e = record {
  most = omega arith;
  last = λ i same. let at_end : i ≡ shorter = omega arith in ap (slice_get segment) at_end ∙ e;
  others = λ i h.
      let at_place : size + 1 - (shorter + 1) + i ≡ size - shorter + i = omega arith in
      ap (slice_get segment) at_place ∙ ends i (omega arith);
  longest = λ t low high stands. none t (omega arith) high stands;
}

-- none goes on with it
pub IsNext-none : (segment : List ℕ) (size here shorter : ℕ) → shorter ≡ 0 → NoneLonger segment size here shorter
    → (slice_get segment shorter ≡ Some here → ⊥) → IsNext segment size here 0
IsNext-none segment size here shorter start none other = record {
  most = omega arith;
  last = λ i same. absurd (omega arith);
  others = λ i h. absurd (omega arith);
  longest = λ t low high stands same.
      elim (cases_lt shorter t) [
        | inl above ↦ none t above high stands same
        | inr below ↦ let e : shorter ≡ t = omega arith in other (ap (slice_get segment) e ∙ same)
      ];
}

-- the fall of a beginning of one character
pub IsFall-one : (segment : List ℕ) → IsFall segment 1 0
IsFall-one segment = record {
  below = omega arith;
  ends = λ i h. absurd (omega arith);
  longest = λ t h ends. omega arith;
}

-- no longer beginning ends the next one
longest_next : (segment : List ℕ) (size shorter here next t : ℕ) → IsFall segment size shorter
    → slice_get segment size ≡ Some here → IsNext segment shorter here next → t < size + 1
    → StandsAt segment segment t (size + 1 - t) → t ≤ next
longest_next segment size shorter here next zero fall e step h stands = omega arith
longest_next segment size shorter here next (suc u) fall e step h stands =
    let outer : StandsAt segment segment u (size - u) =
    λ i small.
    let at_place : size - u + i ≡ size + 1 - suc u + i = omega arith in
    ap (slice_get segment) at_place ∙ stands i (omega arith)
    in
    let low : u ≤ shorter = fall.longest u (omega arith) outer in
    let inner = StandsAt-overlap segment segment shorter u (size - shorter) (size - u) low
    (omega (arith, fall.below)) fall.ends outer in
    let at_place : size ≡ size + 1 - suc u + u = omega arith in
    let same : slice_get segment u ≡ Some here =
    sym (stands u (omega arith)) ∙ ap (slice_get segment) (sym at_place) ∙ e in
    elim (cases_lt u next) [
      | inl below ↦ omega arith
      | inr at ↦ absurd (step.longest u at low inner same)
    ]

-- the fall of the next beginning
pub IsFall-next : (segment : List ℕ) (size shorter here next : ℕ) → IsFall segment size shorter
    → slice_get segment size ≡ Some here → IsNext segment shorter here next → IsFall segment (size + 1) next
IsFall-next segment size shorter here next fall e step = record {
  below = omega (arith, fall.below, step.most);
  ends = λ i h.
      elim (cases_lt (i + 1) next) [
        | inl inside ↦
            let at_place : size + 1 - next + i ≡ size - shorter + (shorter + 1 - next + i) =
            omega (arith, fall.below, step.most) in
            ap (slice_get segment) at_place ∙ fall.ends (shorter + 1 - next + i) (omega (arith, step.most))
            ∙ step.others i inside
        | inr at ↦
            let last : i + 1 ≡ next = omega arith in
            let at_place : size + 1 - next + i ≡ size = omega (arith, fall.below, step.most) in
            ap (slice_get segment) at_place ∙ e ∙ sym (step.last i last)
      ];
  longest = λ t h stands. longest_next segment size shorter here next t fall e step h stands;
}
