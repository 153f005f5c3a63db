-- What the calls of a disk in memory changed, and which images a crash may leave then: ours.
use Rattle.std.specs.Prelude.{◌≡◌, ℕ, ◌≤◌, Bool, true, false, List, [], ◌∷◌, length, take, replicate, if◌then◌else◌}
use Rattle.mx_outside.specs.Disk.{put_at, Torn, Shortened}

-- A call that changed the disk: a piece was written at a place, the disk was cut to a length, or it was synced.
pub data Change : Type 0 where
  written : ℕ → List ℕ → Change
  cut_to : ℕ → Change
  synced : Change

-- In each list of changes below the newest stands first.

-- What a read gives after these changes of a disk that had this content first.
abbrev pub content_of : List Change → List ℕ → List ℕ
content_of [] first = first
content_of (written at piece ∷ earlier) first = put_at at piece (content_of earlier first)
content_of (cut_to n ∷ earlier) first = take n (content_of earlier first)
content_of (synced ∷ earlier) first = content_of earlier first

-- What a read gave after the last sync, or at the start where there was none.
abbrev pub synced_of : List Change → List ℕ → List ℕ
synced_of [] first = first
synced_of (written at piece ∷ earlier) first = synced_of earlier first
synced_of (cut_to n ∷ earlier) first = synced_of earlier first
synced_of (synced ∷ earlier) first = content_of earlier first

-- For each byte that a read gives, whether it was written since the last sync.
abbrev pub fresh_of : List Change → List ℕ → List Bool
fresh_of [] first = replicate (length first) false
fresh_of (written at piece ∷ earlier) first =
    put_at at (replicate (length piece) true) (fresh_of earlier first)
fresh_of (cut_to n ∷ earlier) first = take n (fresh_of earlier first)
fresh_of (synced ∷ earlier) first = replicate (length (content_of earlier first)) false

-- The content with this value in the place of each byte that is fresh.
abbrev pub filled : ℕ → List Bool → List ℕ → List ℕ
filled value (fresh ∷ marks) (byte ∷ content) =
    (if fresh then value else byte) ∷ filled value marks content
filled value [] content = []
filled value (fresh ∷ marks) [] = []

-- Each write begins within what was there, and no cut makes the disk longer.
abbrev pub AreChanges : List Change → List ℕ → Type 0
AreChanges [] first = Unit {0}
AreChanges (written at piece ∷ earlier) first =
    (at ≤ length (content_of earlier first)) × AreChanges earlier first
AreChanges (cut_to n ∷ earlier) first =
    (n ≤ length (content_of earlier first)) × AreChanges earlier first
AreChanges (synced ∷ earlier) first = AreChanges earlier first

-- A crash after these changes may leave this image: one that it might have left before the newest of
-- them, with that torn; after a sync, what a read gave.
abbrev pub MayLeave : List Change → List ℕ → List ℕ → Type 0
MayLeave [] first image = image ≡ first
MayLeave (written at piece ∷ earlier) first image =
    (before : List ℕ) × MayLeave earlier first before × Torn at (length piece) before image
MayLeave (cut_to n ∷ earlier) first image =
    (before : List ℕ) × MayLeave earlier first before × Shortened n before image
MayLeave (synced ∷ earlier) first image = image ≡ content_of earlier first
