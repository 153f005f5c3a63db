-- Lemmas for a loop that feeds a cutter the rest of a piece and takes the next cut.
use Rattle.std.proofs.Common.{◌≡◌, ℕ, ◌+◌, ◌-◌, Bool, true, false, List, ◌++◌, length, take, drop, Option, refl, ap}
use Rattle.std.proofs.Common.{◌∙◌, append_assoc, arith}
use Rattle.std.proofs.Math.Seq.{take-add}
use Rattle.std.proofs.lemmas.List.{take_all, length-drop, length-take-le}
use Rattle.mx_lines.specs.Lines.{lines_of}
use Rattle.mx_lines.specs.Cutting.{Held, after_next, HasGiven, shown_count}
use Rattle.mx_lines.specs.Resting.{GivesNext}
use Rattle.mx_lines.specs.declared.cut.Cut.{Cut}

-- the rest of this piece, as a slice `&piece[at..]` is seen
abbrev pub rest_of : List ℕ → ℕ → List ℕ
rest_of piece at = take (length piece - at) (drop at piece)

pub length_rest : (piece : List ℕ) (at : ℕ) → length (rest_of piece at) ≡ length piece - at
length_rest piece at = length-take-le (length piece - at) (drop at piece) (omega (arith, length-drop at piece))

-- the front of a piece, and what is taken of its rest
pub take_further : (bytes piece : List ℕ) (at n : ℕ)
    → (bytes ++ take at piece) ++ take n (rest_of piece at) ≡ bytes ++ take (at + n) piece
take_further bytes piece at n =
    let whole : rest_of piece at ≡ drop at piece =
    take_all (length piece - at) (drop at piece) (omega (arith, length-drop at piece)) in
    rw (whole, take-add at n piece) (append_assoc bytes (take at piece) (take n (drop at piece)))

open_after : (kept : Option (List ℕ)) (ended : Bool)
    → (after_next (record { kept = kept; ended = ended })).ended ≡ false
open_after kept true = refl
open_after kept false = refl

-- no ended line is held after a call of next
pub GivesNext-open : (cut : Cut) (old new : Held) → GivesNext cut old new → new.ended ≡ false
GivesNext-open cut old new gave = ap (λ (h : Held). h.ended) gave.held ∙ open_after old.kept old.ended

-- what a feed of the rest of a piece promises
abbrev pub FeedsRest : Held → List ℕ → ℕ → ℕ → Held → Type 0
FeedsRest old piece at n fed =
    (bytes : List ℕ) (count : ℕ) → HasGiven old (lines_of bytes) count
    → HasGiven fed (lines_of (bytes ++ take n (rest_of piece at))) count

-- after the feed
pub HasGiven-fed : (old fed : Held) (bytes piece : List ℕ) (at n count : ℕ) → FeedsRest old piece at n fed
    → HasGiven old (lines_of (bytes ++ take at piece)) count
    → HasGiven fed (lines_of (bytes ++ take (at + n) piece)) count
HasGiven-fed old fed bytes piece at n count feeds had =
    rw (← take_further bytes piece at n) (feeds (bytes ++ take at piece) count had)

-- after the feed and the cut
pub HasGiven-turn : (old fed new : Held) (cut : Cut) (bytes piece : List ℕ) (at n count : ℕ)
    → FeedsRest old piece at n fed → GivesNext cut fed new
    → HasGiven old (lines_of (bytes ++ take at piece)) count
    → HasGiven new (lines_of (bytes ++ take (at + n) piece)) (count + shown_count cut)
HasGiven-turn old fed new cut bytes piece at n count feeds gave had =
    gave.lines (lines_of (bytes ++ take (at + n) piece)) count (HasGiven-fed old fed bytes piece at n count feeds had)
