-- What a disk in memory holds, and what it held at the last sync: ours.
use Rattle.std.specs.Prelude.{◌≡◌, ℕ, ◌≤◌, Bool, true, false, List, length, take, replicate}
use Rattle.mx_outside.specs.Disk.{put_at}

-- What a read gives, what it gave after the last sync, for each byte whether it was written since then,
-- and for how many bytes there is memory.
pub record Image : Type 0 where
  pub content : List ℕ
  pub synced : List ℕ
  pub fresh : List Bool
  pub capacity : ℕ

-- A piece was written at a place.
abbrev pub image_written : Image → ℕ → List ℕ → Image
image_written image at piece =
    record image {
      content = put_at at piece image.content;
      fresh = put_at at (replicate (length piece) true) image.fresh;
    }

-- It was cut to n bytes.
abbrev pub image_cut : Image → ℕ → Image
image_cut image n = record image { content = take n image.content; fresh = take n image.fresh }

-- It was synced.
abbrev pub image_synced : Image → Image
image_synced image =
    record image { synced = image.content; fresh = replicate (length image.content) false }

-- There is a mark for each byte, and memory for all of it.
pub record IsWhole (image : Image) : Type 0 where
  pub marks : length image.fresh ≡ length image.content
  pub content : length image.content ≤ image.capacity

-- The capacity is within what was taken for each of the three.
pub record Capacities (capacity content_capacity synced_capacity fresh_capacity : ℕ) : Type 0 where
  pub content : capacity ≤ content_capacity
  pub synced : capacity ≤ synced_capacity
  pub fresh : capacity ≤ fresh_capacity

-- This content, all of it synced, with memory for so many bytes.
abbrev pub image_first : List ℕ → ℕ → Image
image_first content capacity =
    record { content = content; synced = content; fresh = replicate (length content) false; capacity = capacity }
