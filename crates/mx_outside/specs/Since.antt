-- Which images a crash may leave, told from what happened since the last sync: ours.
use Rattle.std.specs.Prelude.{◌≡◌, ℕ, ◌+◌, ◌<◌, ◌≤◌, max, min, List, [], ◌∷◌, length, slice_index, ◌⊎◌, ◌↔◌}
use Rattle.mx_outside.specs.Changes.{Change, content_of, MayLeave}
use Rattle.mx_outside.specs.Changes.Change.{written, cut_to, synced}

-- What a read gave at the last sync, the least and the greatest length since then, and the place and
-- the length of each range that was written since.
pub record Since : Type 0 where
  pub kept : List ℕ
  pub least : ℕ
  pub greatest : ℕ
  pub ranges : List (ℕ × ℕ)

-- Just after a sync.
abbrev pub since_now : List ℕ → Since
since_now content =
    record { kept = content; least = length content; greatest = length content; ranges = [] }

-- After these changes, the newest first, of a disk that had this content first.
abbrev pub since_sync : List Change → List ℕ → Since
since_sync [] first = since_now first
since_sync (written at piece ∷ earlier) first =
    record (since_sync earlier first) {
      greatest = max (since_sync earlier first).greatest (at + length piece);
      ranges = (at, length piece) ∷ (since_sync earlier first).ranges;
    }
since_sync (cut_to n ∷ earlier) first =
    record (since_sync earlier first) { least = min (since_sync earlier first).least n }
since_sync (synced ∷ earlier) first = since_now (content_of earlier first)

-- No range has the byte at this place.
abbrev pub IsUntouched : List (ℕ × ℕ) → ℕ → Type 0
IsUntouched [] place = Unit {0}
IsUntouched (range ∷ ranges) place =
    ((place < range.0) ⊎ (range.0 + range.1 ≤ place)) × IsUntouched ranges place

-- Any length from the least to the greatest. Each byte that was always there and was in no range that
-- was written is as at the last sync; every other byte is any.
pub record IsImage (since : Since) (image : List ℕ) : Type 0 where
  pub no_shorter : since.least ≤ length image
  pub no_longer : length image ≤ since.greatest
  pub same : (place : ℕ) → place < since.least → IsUntouched since.ranges place
      → slice_index image place ≡ slice_index since.kept place

-- The images that a crash may leave are exactly these.
abbrev pub LeavesImages : List Change → List ℕ → Type 0
LeavesImages changes first =
    (image : List ℕ) → MayLeave changes first image ↔ IsImage (since_sync changes first) image
