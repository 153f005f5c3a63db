-- A source of given bytes in pieces of stated sizes: ours.
use Rattle.std.specs.Prelude.{◌≡◌, ℕ, min, max, List, [], ◌∷◌, length, drop}
use Rattle.mx_outside.specs.declared.source.Got.{Got}
use Rattle.mx_outside.specs.declared.source.Got.TheVariants as got

-- The bytes that are left, and the sizes that are stated for the next pieces.
pub record Pieces : Type 0 where
  pub left : List ℕ
  pub sizes : List ℕ

-- How many bytes the next piece is to have: a stated 0 counts as 1, and past the last size it is as many as fit.
abbrev pub wanted : List ℕ → ℕ → ℕ
wanted [] capacity = capacity
wanted (size ∷ sizes) capacity = max size 1

-- How many bytes the next piece has.
abbrev pub piece_len : Pieces → ℕ → ℕ
piece_len pieces capacity = min (wanted pieces.sizes capacity) (min capacity (length pieces.left))

-- The next piece was given, and its size was used up; at the end nothing changes, and no call fails.
abbrev pub GivesPiece : Got → Pieces → Pieces → ℕ → Type 0
GivesPiece (got.Bytes count) old new capacity =
    (count ≡ piece_len old capacity) × (new ≡ record { left = drop count old.left; sizes = drop 1 old.sizes })
GivesPiece got.End old new capacity = (old.left ≡ []) × (new ≡ old)
GivesPiece got.Failed old new capacity = ⊥
