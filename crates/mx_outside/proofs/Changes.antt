-- What a crash may leave after changes of a disk.
use Rattle.std.proofs.Common.{◌≡◌, ℕ, ◌≤◌, true, false, List, [], ◌∷◌, length, take, refl, sym, subst, arith}
use Rattle.std.specs.Prelude.{replicate}
use Rattle.std.proofs.lemmas.List.{length-take, length-replicate}
use Rattle.mx_outside.specs.Disk.{put_at, Torn, Shortened}
use Rattle.mx_outside.specs.Changes.{Change, content_of, synced_of, fresh_of, filled, AreChanges, MayLeave}
use Rattle.mx_outside.specs.Changes.Change.{written, cut_to, synced}
use Rattle.mx_outside.proofs.Torn.{length-put_at, torn_put, torn_same, shortened_take, shortened_same}
use Rattle.mx_outside.proofs.Filled.{length-filled, filled-put_at, filled-take, filled-settled}

-- What a read gives is one of the images.
pub leaves_content : (changes : List Change) (first : List ℕ) → AreChanges changes first
    → MayLeave changes first (content_of changes first)
leaves_content [] first are = refl
leaves_content (written at piece ∷ earlier) first are = (
  content_of earlier first,
  leaves_content earlier first are.1,
  torn_put at (length piece) piece (content_of earlier first) are.0 refl,
)
leaves_content (cut_to n ∷ earlier) first are =
    (content_of earlier first, leaves_content earlier first are.1, shortened_take n (content_of earlier first))
leaves_content (synced ∷ earlier) first are = refl

-- What a read gave after the last sync is one of them.
pub leaves_synced : (changes : List Change) (first : List ℕ) → MayLeave changes first (synced_of changes first)
leaves_synced [] first = refl
leaves_synced (written at piece ∷ earlier) first =
    (synced_of earlier first, leaves_synced earlier first, torn_same at (length piece) (synced_of earlier first))
leaves_synced (cut_to n ∷ earlier) first =
    (synced_of earlier first, leaves_synced earlier first, shortened_same n (synced_of earlier first))
leaves_synced (synced ∷ earlier) first = refl

-- There is a mark for each byte.
pub length-fresh_of : (changes : List Change) (first : List ℕ) → AreChanges changes first
    → length (fresh_of changes first) ≡ length (content_of changes first)
length-fresh_of [] first are = length-replicate (length first) false
length-fresh_of (written at piece ∷ earlier) first are =
    let same : length (fresh_of earlier first) ≡ length (content_of earlier first) =
    length-fresh_of earlier first are.1 in
    let within : at ≤ length (fresh_of earlier first) = omega (arith, are.0) in
    let marks = length-put_at at (replicate (length piece) true) (fresh_of earlier first) within in
    let bytes = length-put_at at piece (content_of earlier first) are.0 in
    let long : length (replicate (length piece) true) ≡ length piece = length-replicate (length piece) true in
    omega (arith, marks, bytes)
length-fresh_of (cut_to n ∷ earlier) first are =
    let same : length (fresh_of earlier first) ≡ length (content_of earlier first) =
    length-fresh_of earlier first are.1 in
    simp length-take (omega arith)
length-fresh_of (synced ∷ earlier) first are = length-replicate (length (content_of earlier first)) false

-- The content with any value in the place of each fresh byte is one of them.
pub leaves_filled : (value : ℕ) (changes : List Change) (first : List ℕ) → AreChanges changes first
    → MayLeave changes first (filled value (fresh_of changes first) (content_of changes first))
leaves_filled value [] first are = filled-settled value first
leaves_filled value (written at piece ∷ earlier) first are =
    let content = content_of earlier first in
    let marks = fresh_of earlier first in
    let same : length marks ≡ length content = length-fresh_of earlier first are.1 in
    let before = filled value marks content in
    let long : length before ≡ length content = length-filled value marks content same in
    let within : at ≤ length before = omega (arith, are.0) in
    let is : filled value (put_at at (replicate (length piece) true) marks) (put_at at piece content)
    ≡ put_at at (replicate (length piece) value) before = filled-put_at value at piece marks content are.0 same in
    let torn : Torn at (length piece) before (put_at at (replicate (length piece) value) before) =
    torn_put at (length piece) (replicate (length piece) value) before within
    (length-replicate (length piece) value) in (
      before,
      leaves_filled value earlier first are.1,
      subst (λ (image : List ℕ). Torn at (length piece) before image) (sym is) torn,
    )
leaves_filled value (cut_to n ∷ earlier) first are =
    let content = content_of earlier first in
    let marks = fresh_of earlier first in
    let same : length marks ≡ length content = length-fresh_of earlier first are.1 in
    let before = filled value marks content in
    let is : filled value (take n marks) (take n content) ≡ take n before = filled-take value n marks content same in (
      before,
      leaves_filled value earlier first are.1,
      subst (λ (image : List ℕ). Shortened n before image) (sym is) (shortened_take n before),
    )
leaves_filled value (synced ∷ earlier) first are = filled-settled value (content_of earlier first)
