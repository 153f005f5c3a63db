-- How a script goes through its steps and its bytes.
use Rattle.std.proofs.Common.{◌≡◌, ℕ, zero, suc, ◌+◌, ◌-◌, ◌<◌, ◌≤◌, min, List, [], ◌∷◌, length, get_or, take, drop}
use Rattle.std.proofs.Common.{Some, refl, ap, sym, ◌∙◌, arith}
use Rattle.std.proofs.Math.ListN.{set}
use Rattle.std.proofs.lemmas.List.{drop_more, drop-drop, drop_min, drop-take, drop-set, drop_all, length-take}
use Rattle.std.proofs.lemmas.List.{length-drop}
use Rattle.mx_outside.specs.Script.{Step, bytes_step, steps_of, next_of, step_for, next_bytes, with_bytes}
use Rattle.mx_outside.specs.declared.memory.script.LinkStep.{LinkStep}
use Rattle.mx_outside.specs.declared.memory.script.LinkStep.TheVariants as step

-- From a place on, the step there comes first.
pub steps_at : (steps : List LinkStep) (used : ℕ) (s : LinkStep) → used < length steps → s ≡ get_or steps used s
    → drop used steps ≡ s ∷ drop (used + 1) steps
steps_at steps used s within is =
    drop_more steps used s within ∙ ap (λ (x : LinkStep). x ∷ drop (used + 1) steps) (sym is)

-- Bytes that come next are told by their number.
pub next_bytes_step : (bytes : List ℕ) (rest : List Step)
    → next_of (bytes_step bytes ∷ rest) ≡ Some (step_for (length bytes))
next_bytes_step [] rest = refl
next_bytes_step (b ∷ bytes) rest = refl

-- A step of bytes is as long as is planned, or as what is left.
pub next_at_bytes : (steps : List LinkStep) (used : ℕ) (bytes : List ℕ) (given count : ℕ) → used < length steps
    → step.Bytes count ≡ get_or steps used (step.Bytes count)
    → next_of (steps_of (drop used steps) (drop given bytes)) ≡ Some (step_for (min count (length bytes - given)))
next_at_bytes steps used bytes given count within is =
    let long : length (take count (drop given bytes)) ≡ min count (length bytes - given) =
    simp (length-take, length-drop) in
    ap (λ (l : List LinkStep). next_of (steps_of l (drop given bytes)))
    (steps_at steps used (step.Bytes count) within is)
    ∙ next_bytes_step (take count (drop given bytes)) (steps_of (drop (used + 1) steps) (drop count (drop given bytes)))
    ∙ ap (λ n. Some (step_for n)) long

-- Where bytes come next, they are some.
pub bytes_are_some : (steps : List LinkStep) (bytes : List ℕ) (count : ℕ)
    → Some (step.Bytes count) ≡ next_of (steps_of steps bytes) → 0 < length (next_bytes (steps_of steps bytes))
bytes_are_some [] bytes count is = cc
bytes_are_some (step.Bytes zero ∷ steps) bytes count is = cc
bytes_are_some (step.Bytes (suc n) ∷ steps) [] count is = cc
bytes_are_some (step.Bytes (suc n) ∷ steps) (b ∷ bytes) count is = omega arith
bytes_are_some (step.Wait ∷ steps) bytes count is = cc
bytes_are_some (step.End ∷ steps) bytes count is = cc
bytes_are_some (step.Fail ∷ steps) bytes count is = cc

-- A step that gives no bytes is used up.
pub used_up : (steps : List LinkStep) (bytes : List ℕ) → 0 < length (steps_of steps bytes)
    → next_bytes (steps_of steps bytes) ≡ [] → steps_of (drop 1 steps) bytes ≡ drop 1 (steps_of steps bytes)
used_up [] bytes some none = absurd (omega arith)
used_up (step.Bytes zero ∷ steps) bytes some none = refl
used_up (step.Bytes (suc n) ∷ steps) [] some none = refl
used_up (step.Bytes (suc n) ∷ steps) (b ∷ bytes) some none = cc
used_up (step.Wait ∷ steps) bytes some none = refl
used_up (step.End ∷ steps) bytes some none = refl
used_up (step.Fail ∷ steps) bytes some none = refl

-- The same, by places.
pub used_up_at : (steps : List LinkStep) (used : ℕ) (bytes : List ℕ) → 0 < length (steps_of (drop used steps) bytes)
    → next_bytes (steps_of (drop used steps) bytes) ≡ []
    → steps_of (drop (used + 1) steps) bytes ≡ drop 1 (steps_of (drop used steps) bytes)
used_up_at steps used bytes some none =
    ap (λ (l : List LinkStep). steps_of l bytes) (sym (drop-drop 1 used steps))
    ∙ used_up (drop used steps) bytes some none

-- Some bytes and then steps.
pub with_some_bytes : (bytes : List ℕ) (rest : List Step) → 0 < length bytes
    → bytes_step bytes ∷ rest ≡ with_bytes bytes rest
with_some_bytes [] rest some = absurd (omega arith)
with_some_bytes (b ∷ bytes) rest some = refl

-- What is left of a step of bytes once some of them were used up.
abbrev pub bytes_left : List Step → ℕ → List Step
bytes_left steps count = with_bytes (drop count (next_bytes steps)) (drop 1 steps)

-- The first step is one of bytes, of which there are some.
next_of_bytes_step : (bytes : List ℕ) (rest : List Step) → next_bytes (bytes_step bytes ∷ rest) ≡ bytes
next_of_bytes_step [] rest = refl
next_of_bytes_step (b ∷ bytes) rest = refl

-- All bytes of a step are used up.
pub used_all : (steps : List LinkStep) (used : ℕ) (bytes : List ℕ) (given planned count : ℕ) → used < length steps
    → step.Bytes planned ≡ get_or steps used (step.Bytes planned) → count ≡ min planned (length bytes - given)
    → steps_of (drop (used + 1) steps) (drop (given + count) bytes)
    ≡ bytes_left (steps_of (drop used steps) (drop given bytes)) count
used_all steps used bytes given planned count within is all =
    let left = drop given bytes in
    let rest = drop (used + 1) steps in
    let whole : length left ≡ length bytes - given = length-drop given bytes in
    let piece = take planned left in
    let long : length piece ≤ count = simp (length-take, length-drop) (omega arith) in
    let least : count ≡ min planned (length left) = omega arith in
    let on : drop (given + count) bytes ≡ drop planned left = sym (drop-drop count given bytes)
    ∙ ap (λ n. drop n left) least ∙ drop_min planned left in
    let none : drop count (next_bytes (bytes_step piece ∷ steps_of rest (drop planned left))) ≡ [] =
    ap (λ (l : List ℕ). drop count l) (next_of_bytes_step piece (steps_of rest (drop planned left)))
    ∙ drop_all count piece long in
    ap (λ (l : List ℕ). steps_of rest l) on
    ∙ ap (λ (l : List ℕ). with_bytes l (steps_of rest (drop planned left))) (sym none)
    ∙ ap (λ (l : List LinkStep). bytes_left (steps_of l left) count)
    (sym (steps_at steps used (step.Bytes planned) within is))

-- Some bytes of a step are used up, and the rest stays.
pub used_some : (steps : List LinkStep) (used : ℕ) (bytes : List ℕ) (given planned count : ℕ) → used < length steps
    → step.Bytes planned ≡ get_or steps used (step.Bytes planned) → count < min planned (length bytes - given)
    → steps_of (drop used (set steps used (step.Bytes (planned - count)))) (drop (given + count) bytes)
    ≡ bytes_left (steps_of (drop used steps) (drop given bytes)) count
used_some steps used bytes given planned count within is fewer =
    let left = drop given bytes in
    let rest = drop (used + 1) steps in
    let whole : length left ≡ length bytes - given = length-drop given bytes in
    let piece = take planned left in
    let back = planned - count in
    let sum : count + back ≡ planned = omega arith in
    let on : drop (given + count) bytes ≡ drop count left = sym (drop-drop count given bytes) in
    let front : drop count piece ≡ take back (drop count left) = ap (λ n. drop count (take n left)) (sym sum)
    ∙ drop-take count back left in
    let far : drop back (drop count left) ≡ drop planned left = drop-drop back count left ∙ ap (λ n. drop n left) sum in
    let some : 0 < length (take back (drop count left)) = simp (length-take, length-drop) (omega arith) in
    ap (λ (l : List LinkStep). steps_of l (drop (given + count) bytes)) (drop-set steps used (step.Bytes back) within)
    ∙ ap (λ (l : List ℕ). bytes_step (take back l) ∷ steps_of rest (drop back l)) on
    ∙ ap (λ (l : List ℕ). bytes_step (take back (drop count left)) ∷ steps_of rest l) far
    ∙ with_some_bytes (take back (drop count left)) (steps_of rest (drop planned left)) some
    ∙ ap (λ (l : List ℕ). with_bytes l (steps_of rest (drop planned left))) (sym front)
    ∙ ap (λ (l : List ℕ). with_bytes (drop count l) (steps_of rest (drop planned left)))
    (sym (next_of_bytes_step piece (steps_of rest (drop planned left))))
    ∙ ap (λ (l : List LinkStep). bytes_left (steps_of l left) count)
    (sym (steps_at steps used (step.Bytes planned) within is))

-- A place from which bytes come next is one of a step.
pub in_range : (steps : List LinkStep) (used : ℕ) (bytes : List ℕ)
    → 0 < length (next_bytes (steps_of (drop used steps) bytes)) → used < length steps
in_range [] zero bytes some = absurd (omega arith)
in_range [] (suc used) bytes some = absurd (omega arith)
in_range (s ∷ steps) zero bytes some = omega arith
in_range (s ∷ steps) (suc used) bytes some =
    let before : used < length steps = in_range steps used bytes some in
    omega arith

-- What is told of a step of bytes is the step that comes next.
pub told_next : (steps : List LinkStep) (used : ℕ) (bytes : List ℕ) (given count size : ℕ) (result : LinkStep)
    → used < length steps → step.Bytes count ≡ get_or steps used (step.Bytes count)
    → size ≡ min count (length bytes - given) → result ≡ step_for size
    → Some result ≡ next_of (steps_of (drop used steps) (drop given bytes))
told_next steps used bytes given count size result within is least told =
    ap (λ (s : LinkStep). Some s) told
    ∙ ap (λ n. Some (step_for n)) least
    ∙ sym (next_at_bytes steps used bytes given count within is)

-- What is within the bytes that come next, and isn't all of them, is less.
pub fewer_than : (steps : List LinkStep) (used : ℕ) (bytes : List ℕ) (given planned count : ℕ) → used < length steps
    → step.Bytes planned ≡ get_or steps used (step.Bytes planned)
    → count ≤ length (next_bytes (steps_of (drop used steps) (drop given bytes)))
    → (count ≡ min planned (length bytes - given) → ⊥) → count < min planned (length bytes - given)
fewer_than steps used bytes given planned count within is fits other =
    let piece = take planned (drop given bytes) in
    let rest = steps_of (drop (used + 1) steps) (drop planned (drop given bytes)) in
    let next : next_bytes (steps_of (drop used steps) (drop given bytes)) ≡ piece =
    ap (λ (l : List LinkStep). next_bytes (steps_of l (drop given bytes)))
    (steps_at steps used (step.Bytes planned) within is) ∙ next_of_bytes_step piece rest in
    let long : length piece ≡ min planned (length bytes - given) = simp (length-take, length-drop) in
    let same : length (next_bytes (steps_of (drop used steps) (drop given bytes))) ≡ length piece = ap length next in
    omega (arith, other)
