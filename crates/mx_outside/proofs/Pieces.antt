-- How a source of given bytes goes through its bytes and its sizes.
use Rattle.std.proofs.Common.{◌≡◌, ℕ, ◌+◌, ◌<◌, ◌≤◌, List, ◌∷◌, ◌++◌, length, get_or, take, drop, ap, ◌∙◌, add-one}
use Rattle.std.proofs.Common.{drop-cons}
use Rattle.std.proofs.lemmas.List.{take_at, take-append-drop, drop-drop, length-take-le}

-- The next bytes were written to the front of a buffer, and the rest is left.
pub next_piece : (bytes piece rest : List ℕ) (given count size : ℕ) → size ≡ count
    → piece ≡ take size (drop given bytes) → count ≤ length (drop given bytes)
    → drop given bytes ≡ take count (piece ++ rest) ++ drop (given + count) bytes
next_piece bytes piece rest given count size same is fits =
    let taken : piece ≡ take count (drop given bytes) = cc in
    let long : length piece ≡ count = ap length taken ∙ length-take-le count (drop given bytes) fits in
    let front : take count (piece ++ rest) ≡ piece = take_at piece rest count long in
    let back : drop count (drop given bytes) ≡ drop (given + count) bytes = drop-drop count given bytes in
    let both : take count (drop given bytes) ++ drop count (drop given bytes) ≡ drop given bytes =
    take-append-drop count (drop given bytes) in
    cc

-- The size at a place is the first of those from there on.
pub next_size_is : (sizes : List ℕ) (place : ℕ) → place < length sizes
    → drop place sizes ≡ get_or sizes place 0 ∷ drop (place + 1) sizes
next_size_is sizes place within = rw add-one (drop-cons sizes place 0 within)
