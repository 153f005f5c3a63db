-- What a walk over a block finds; for private clauses.
use Rattle.std.specs.Prelude.{◌≡◌, ℕ, ◌+◌, ◌^◌, if◌then◌else◌, true, nat_le, nat_lt, List, [], ◌∷◌, ◌++◌, length}
use Rattle.std.specs.List.{list_all}
use Rattle.mx_rows.specs.declared.row.Row.{Row}
use Rattle.mx_blocks.specs.Block.{mark_at}

-- the first of some positions, and past every position where there is none
abbrev pub first_or_end : List ℕ → ℕ
first_or_end [] = 2 ^ 64
first_or_end (position ∷ more) = position

-- the positions are `passed` ones at or below a position, and then others above it that begin at `next`
pub record IsSplit (position passed next : ℕ) (all : List ℕ) : Type 0 where
  pub done : List ℕ
  pub rest : List ℕ
  pub parts : all ≡ done ++ rest
  pub count : length done ≡ passed
  pub upto : list_all (λ p. nat_le p position) done ≡ true
  pub above : list_all (λ p. nat_lt position p) rest ≡ true
  pub begins : next ≡ first_or_end rest

-- the rows at these positions that aren't gone, the first position being that of the row of this number
abbrev pub rows_left : List ℕ → ℕ → ℕ → List ℕ → List Row
rows_left marks gone row [] = []
rows_left marks gone row (position ∷ more) =
    if nat_lt row gone then rows_left marks gone (row + 1) more
    else record { position = position; highlight = mark_at marks row } ∷ rows_left marks gone (row + 1) more
