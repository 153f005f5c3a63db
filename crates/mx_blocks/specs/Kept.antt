-- The threads of `Blocks` with their rows, in the order of these; for private clauses.
use Rattle.std.specs.Prelude.{ℕ, ◌+◌, nat_le, Bool, false, List, [], ◌∷◌, ◌++◌}
use Rattle.std.specs.List.{list_all}
use Rattle.mx_rows.specs.declared.row.Row.{Row}
use Rattle.mx_rows.specs.Rows.{has_rows}
use Rattle.mx_blocks.specs.Block.{block_rows, Kept, packed_rows}
use Rattle.mx_blocks.specs.Differences.{differences, total}

-- the rows of a thread: those of its blocks, and then the hot ones
abbrev pub rows_of_parts : List Kept → List Row → List Row
rows_of_parts blocks hot = packed_rows blocks ++ hot

-- each of these blocks has rows left
abbrev pub are_alive : List Kept → Bool
are_alive blocks = list_all (λ block. has_rows (block_rows block)) blocks

-- the position of the last row of a block
abbrev pub last_of : Kept → ℕ
last_of block = block.first + total (differences block.packed)

-- the first of these blocks ends at or below a position
abbrev pub first_ends_upto : ℕ → List Kept → Bool
first_ends_upto position [] = false
first_ends_upto position (block ∷ more) = nat_le (last_of block) position
