-- The fields of a block, and what holds of them.
use Rattle.std.specs.Prelude.{◌≡◌, ◌+◌, ◌<◌, ◌≤◌, ◌^◌, length}
use Rattle.mx_rows.specs.Rows.{counts_in, start_of}
use Rattle.mx_blocks.specs.declared.block.Block.TheInside.{Inside}
use Rattle.mx_blocks.specs.Block.{block_rows, Kept, packed_positions}
use Rattle.mx_blocks.specs.Differences.{differences, IsPacked, total}

-- what the fields of a block show
abbrev pub kept_of : Inside → Kept
kept_of block = record {
  first = block.first;
  packed = block.packed.items;
  highlights = block.highlights;
  gone = block.gone;
  sums = block.sums;
}

-- 256 rows are packed, the last of them fits a u64, and the sums, the start and the last position are
-- those of its rows
pub record IsBlock (block : Inside) : Type 0 where
  pub packed : IsPacked block.packed.items
  pub count : length (packed_positions (kept_of block)) ≡ 256
  pub last : block.first + total (differences block.packed.items) ≡ block.last
  pub small : block.last < 2 ^ 64
  pub gone : block.gone ≤ 256
  pub sums : block.sums ≡ counts_in (block_rows (kept_of block))
  pub start : block.start ≡ start_of (block_rows (kept_of block))
