-- Marks that are put one by one.
use Rattle.std.proofs.Common.{◌≡◌, ℕ, ◌+◌, ◌<◌, ◌≤◌, Bool, true, List, [], ◌∷◌, ◌++◌, length, set, ap, subst, ◌-◌}
use Rattle.std.proofs.Common.{arith, rules}
use Rattle.std.specs.Prelude.{replicate}
use Rattle.std.proofs.lemmas.List.{places, same_lists, get_or-set_same, length-replicate}
use Rattle.std.proofs.lemmas.Bool.{cases_eq}
use Rattle.mx_outside.specs.Disk.{put_at}
use Rattle.mx_outside.proofs.Torn.{length-put_at}

-- Before any.
pub put_none : (at : ℕ) (marks : List Bool) → at ≤ length marks → put_at at (replicate 0 true) marks ≡ marks
put_none at marks within = search (rules, places)

-- One more over a mark that was there.
pub put_over : (at count : ℕ) (marks : List Bool) → at + count < length marks
    → set (put_at at (replicate count true) marks) (at + count) true ≡ put_at at (replicate (count + 1) true) marks
put_over at count marks below =
    same_lists _ _ (search (rules, places)) (λ k d h. grind (arith, places, get_or-set_same, cases_eq k (at + count)))

-- One more at the end.
pub put_end : (at count : ℕ) (marks : List Bool) → at ≤ length marks → length marks ≤ at + count
    → put_at at (replicate count true) marks ++ true ∷ [] ≡ put_at at (replicate (count + 1) true) marks
put_end at count marks within past =
    same_lists _ _ (search (rules, places)) (λ k d h. grind (arith, places, cases_eq k (at + count)))

-- The same of marks that were put up to an index.
pub marked_over : (at index : ℕ) (first marks : List Bool) → at ≤ length first → at ≤ index
    → marks ≡ put_at at (replicate (index - at) true) first → index < length marks
    → set marks index true ≡ put_at at (replicate (index + 1 - at) true) first
marked_over at index first marks within from is below =
    let count : ℕ = index - at in
    let place : at + count ≡ index = omega arith in
    let more : count + 1 ≡ index + 1 - at = omega arith in
    let long : length marks ≡ length (put_at at (replicate count true) first) = ap length is in
    let spans = length-put_at at (replicate count true) first within in
    let counts : length (replicate count true) ≡ count = length-replicate count true in
    let short : at + count < length first = omega arith in
    let step = put_over at count first short in
    rw is
    (subst (λ (k : ℕ). set (put_at at (replicate count true) first) k true
    ≡ put_at at (replicate (index + 1 - at) true) first) place
    (subst (λ (k : ℕ). set (put_at at (replicate count true) first) (at + count) true
    ≡ put_at at (replicate k true) first) more step))

pub marked_end : (at index : ℕ) (first marks : List Bool) → at ≤ length first → at ≤ index
    → marks ≡ put_at at (replicate (index - at) true) first → length marks ≤ index
    → marks ++ true ∷ [] ≡ put_at at (replicate (index + 1 - at) true) first
marked_end at index first marks within from is past =
    let count : ℕ = index - at in
    let more : count + 1 ≡ index + 1 - at = omega arith in
    let long : length marks ≡ length (put_at at (replicate count true) first) = ap length is in
    let spans = length-put_at at (replicate count true) first within in
    let step = put_end at count first within (omega arith) in
    rw is (subst (λ (k : ℕ). put_at at (replicate count true) first ++ true ∷ [] ≡ put_at at (replicate k true) first)
    more step)
