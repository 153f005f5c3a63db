-- A clock that gives the moments of a list: ours.
use Rattle.std.specs.Prelude.{ℕ, ◌-◌, min, List, [], ◌∷◌, ◌++◌, length, slice_index, zero, suc}

-- The moments of the list, and how many were given.
pub record Moments : Type 0 where
  pub moments : List ℕ
  pub given : ℕ

-- The moment that is given after so many: past the last of the list it is the last for ever, and 0
-- where the list is empty.
abbrev pub moment_after : List ℕ → ℕ → ℕ
moment_after moments given = slice_index moments (min given (length moments - 1))

-- The first so many moments that are given.
abbrev pub moments_given : List ℕ → ℕ → List ℕ
moments_given moments zero = []
moments_given moments (suc given) = moments_given moments given ++ moment_after moments given ∷ []
