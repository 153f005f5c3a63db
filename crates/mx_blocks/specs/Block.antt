-- A block of packed rows: what it keeps, and which rows it stands for. Ours.
use Rattle.std.specs.Prelude.{ℕ, ◌+◌, ◌/◌, ◌%◌, nat_eq, Bool, List, [], ◌∷◌, ◌++◌, drop, slice_index}
use Rattle.std.specs.Int.{bit_at}
use Rattle.mx_rows.specs.declared.counts.Counts.{Counts}
use Rattle.mx_rows.specs.declared.row.Row.{Row}
use Rattle.mx_blocks.specs.Differences.{differences, positions}

-- what a block keeps: the first position, the differences of neighbours as bytes, the highlights as
-- bits, how many rows are cut off its front, and the counts of the others
pub record Kept : Type 0 where
  pub first : ℕ
  pub packed : List ℕ
  pub highlights : List ℕ
  pub gone : ℕ
  pub sums : Counts

-- whether a row of a block, counted from 0, is highlighted: bit `row % 8` of byte `row / 8`
unfoldable pub mark_at : List ℕ → ℕ → Bool
mark_at marks row = nat_eq (bit_at (slice_index marks (row / 8)) (row % 8)) 1

-- the rows at these positions, of which the first is the row of the block of this number
abbrev pub rows_from : List ℕ → ℕ → List ℕ → List Row
rows_from marks row [] = []
rows_from marks row (position ∷ more) =
    record { position = position; highlight = mark_at marks row } ∷ rows_from marks (row + 1) more

-- the positions of all rows of a block, those that are gone included
abbrev pub packed_positions : Kept → List ℕ
packed_positions kept = positions kept.first (differences kept.packed)

-- the rows that a block stands for: those that it decodes to, without the ones that are gone
abbrev pub block_rows : Kept → List Row
block_rows kept = rows_from kept.highlights kept.gone (drop kept.gone (packed_positions kept))

-- the rows of blocks, one block after another
abbrev pub packed_rows : List Kept → List Row
packed_rows [] = []
packed_rows (kept ∷ more) = block_rows kept ++ packed_rows more
