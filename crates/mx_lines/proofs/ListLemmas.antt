-- Lemmas on the elements of lists that grow at the end.
use Rattle.std.proofs.Common.{◌≡◌, ℕ, ◌<◌, ◌⊎◌, List, [], ◌∷◌, ◌++◌, Some, length, refl, inl, inr, suc, zero, arith}
use Rattle.std.specs.List.{slice_get}

-- an element stays where it is as the list grows
pub slice_get-more : {A : Type 0} (xs ys : List A) (k : ℕ) (x : A) → slice_get xs k ≡ Some x
    → slice_get (xs ++ ys) k ≡ Some x
slice_get-more [] ys k x h = cc
slice_get-more (y ∷ xs) ys zero x h = h
slice_get-more (y ∷ xs) ys (suc k) x h = slice_get-more xs ys k x h

-- each element left of a seam
pub slice_get-left : {A : Type 0} (xs ys : List A) (k : ℕ) → k < length xs → slice_get (xs ++ ys) k ≡ slice_get xs k
slice_get-left [] ys k h = absurd (omega arith)
slice_get-left (y ∷ xs) ys zero h = refl
slice_get-left (y ∷ xs) ys (suc k) h = slice_get-left xs ys k (omega arith)

-- the element right of a seam
pub slice_get-seam : {A : Type 0} (xs : List A) (y : A) (ys : List A) → slice_get (xs ++ y ∷ ys) (length xs) ≡ Some y
slice_get-seam [] y ys = refl
slice_get-seam (x ∷ xs) y ys = slice_get-seam xs y ys

-- an element of a list with one more at its end is an old one or that one
pub slice_get-push_cases : {A : Type 0} (xs : List A) (y : A) (k : ℕ) (x : A) → slice_get (xs ++ y ∷ []) k ≡ Some x
    → ((k < length xs) × (slice_get xs k ≡ Some x)) ⊎ ((k ≡ length xs) × (x ≡ y))
slice_get-push_cases [] y zero x h = inr (refl, cc)
slice_get-push_cases [] y (suc k) x h = cc
slice_get-push_cases (z ∷ xs) y zero x h = inl (omega arith, h)
slice_get-push_cases (z ∷ xs) y (suc k) x h =
    elim (slice_get-push_cases xs y k x h) [ inl l ↦ inl (omega arith, l.1) | inr r ↦ inr (omega arith, r.1) ]
