-- Lemmas on what a cutter holds.
use Rattle.std.proofs.Common.{◌≡◌, ℕ, ◌+◌, ◌<◌, ◌≤◌, Bool, true, false, List, [], ◌∷◌, ◌++◌, length, map, take, drop}
use Rattle.std.proofs.Common.{get_or, Option, None, Some, nat_le, if◌then◌else◌, ◌==◌, refl, sym, ap, ◌∙◌, suc, zero}
use Rattle.std.proofs.Common.{arith}
use Rattle.std.specs.List.{slice_get}
use Rattle.std.proofs.Math.Seq.{drop-append_seam}
use Rattle.std.proofs.lemmas.Bool.{lt-leb, leb-false, leb-true, eqb-true}
use Rattle.std.proofs.lemmas.List.{length-append, take_more, take_all, drop_all, length-take-le}
use Rattle.memchr.specs.Find.{NoneBefore, Nowhere, Passes, is_byte}
use Rattle.mx_lines.specs.Lines.{Lines, lines_of, IsOneLine, with_feed}
use Rattle.mx_lines.specs.Cutting.{longest_line, kept_of, kept_with, Held, nothing_held, taken_count, after_feed}
use Rattle.mx_lines.specs.Cutting.{HasGiven, CutsNext, IsNextLine, shown_count}
use Rattle.mx_lines.specs.Buffers.{Shows}
use Rattle.mx_lines.specs.declared.cut.Cut.{Cut}
use Rattle.mx_lines.specs.declared.cut.Cut.TheVariants.{Line, TooLong, More}
use Rattle.mx_lines.proofs.LinesLemmas.{lines_of-one, lines_of-part, lines_of-line, IsOneLine-take_none}

none_kept : (line : List ℕ) → longest_line < length line → kept_of line ≡ None
none_kept line long = rw (lt-leb (length line) longest_line long) refl

kept_with-too_long : (a b : List ℕ) (t : Bool) → nat_le (length a) longest_line ≡ t
    → kept_with (if t then Some a else None) b ≡ kept_of (a ++ b)
kept_with-too_long a b true h = refl
kept_with-too_long a b false h =
    let long = leb-false (length a) longest_line h in
    sym (none_kept (a ++ b) (omega (arith, length-append a b)))

-- what is kept of a line is the same in one part or two
pub kept_with-kept_of : (a b : List ℕ) → kept_with (kept_of a) b ≡ kept_of (a ++ b)
kept_with-kept_of a b = kept_with-too_long a b (nat_le (length a) longest_line) refl

abbrev pub held : Option (List ℕ) → Bool → Held
held kept ended = record { kept = kept; ended = ended }

pub HasGiven-start : HasGiven nothing_held (lines_of []) 0
unfolding lines_of
HasGiven-start = record { within = omega arith; ended = refl; rest = refl }

no_more : (lines : List (List ℕ)) (count : ℕ) → count ≤ length lines → map kept_of (drop count lines) ≡ []
    → length lines ≡ count
no_more [] count within h = omega arith
no_more (line ∷ lines) zero within h = cc
no_more (line ∷ lines) (suc count) within h = let l = no_more lines count (omega arith) h in omega arith

-- more bytes of the line that is held
HasGiven-part : (kept : Option (List ℕ)) (bytes part : List ℕ) (count : ℕ) → IsOneLine part
    → HasGiven (held kept false) (lines_of bytes) count
    → HasGiven (held (kept_with kept part) false) (lines_of (bytes ++ part)) count
HasGiven-part kept bytes part count one had =
    rw (lines_of-part bytes part one) (record {
      within = had.within;
      ended = had.ended;
      rest =
          sym (kept_with-kept_of (lines_of bytes).rest part) ∙ ap (λ (k : Option (List ℕ)). kept_with k part) had.rest;
    })

-- the end of the line that is held
HasGiven-line : (kept : Option (List ℕ)) (bytes line : List ℕ) (count : ℕ) → IsOneLine line
    → HasGiven (held kept false) (lines_of bytes) count
    → HasGiven (held (kept_with kept line) true) (lines_of (bytes ++ with_feed line)) count
HasGiven-line kept bytes line count one had =
    let all : length (lines_of bytes).whole ≡ count = no_more (lines_of bytes).whole count had.within had.ended in
    let last : kept_of ((lines_of bytes).rest ++ line) ≡ kept_with kept line =
    sym (kept_with-kept_of (lines_of bytes).rest line) ∙ ap (λ (k : Option (List ℕ)). kept_with k line) had.rest in
    rw (lines_of-line bytes line one) (record {
      within = omega (arith, length-append (lines_of bytes).whole (((lines_of bytes).rest ++ line) ∷ []));
      ended = rw (← all, drop-append_seam (lines_of bytes).whole (((lines_of bytes).rest ++ line) ∷ []), last) refl;
      rest = refl;
    })

-- the first line feed of this piece is at this place
abbrev pub FirstFeed : List ℕ → ℕ → Type 0
FirstFeed piece end = NoneBefore (Passes (is_byte 10) piece) 0 (length piece) end × Passes (is_byte 10) piece end

-- no line feed stands in this piece
abbrev pub NoFeed : List ℕ → Type 0
NoFeed piece = Nowhere (Passes (is_byte 10) piece) 0 (length piece)

-- what stands before the first line feed is one line
pub IsOneLine-first : (piece : List ℕ) (end : ℕ) → FirstFeed piece end → IsOneLine (take end piece)
IsOneLine-first piece end first = IsOneLine-take_none end piece (λ k below is. first.0.before k (omega arith) below is)

pub IsOneLine-none : (piece : List ℕ) → NoFeed piece → IsOneLine piece
IsOneLine-none piece none =
    let one = IsOneLine-take_none (length piece) piece (λ k below is. none k (omega arith) below is) in
    rw (take_all (length piece) piece (omega arith)) at one

lines_of-first : (piece : List ℕ) (end : ℕ) → end < length piece → IsOneLine (take end piece)
    → (get_or piece end 0 == 10) ≡ true
    → (later : List (List ℕ)) × ((lines_of piece).whole ≡ take end piece ∷ later)
unfolding lines_of
lines_of-first [] end within one at = absurd (omega arith)
lines_of-first (b ∷ piece) zero within one at = rw at ((lines_of piece).whole, refl)
lines_of-first (b ∷ piece) (suc end) within one at =
    let later = lines_of-first piece end (omega arith) one.1 at in
    rw (one.0, later.1) (later.0, refl)

-- the bytes up to the first line feed are the first line
pub first_line : (piece : List ℕ) (end : ℕ) → FirstFeed piece end
    → (later : List (List ℕ)) × ((lines_of piece).whole ≡ take end piece ∷ later)
first_line piece end first = lines_of-first piece end first.0.high (IsOneLine-first piece end first) first.1

-- what is taken of a piece whose first line feed is at this place, and what is held after
pub taken_count-first : (kept : Option (List ℕ)) (ended : Bool) (piece : List ℕ) (end : ℕ) → ended ≡ false
    → FirstFeed piece end
    → taken_count (held kept ended) piece ≡ end + 1
taken_count-first kept ended piece end going first =
    let within = first.0.high in
    rw (going, (first_line piece end first).1) (ap (λ (n : ℕ). n + 1) (length-take-le end piece (omega arith)))

pub after_feed-first : (kept : Option (List ℕ)) (ended : Bool) (piece : List ℕ) (end : ℕ) → ended ≡ false
    → FirstFeed piece end
    → after_feed (held kept ended) piece ≡ held (kept_with kept (take end piece)) true
after_feed-first kept ended piece end going first = rw (going, (first_line piece end first).1) refl

-- the same of a piece without a line feed
pub taken_count-none : (kept : Option (List ℕ)) (ended : Bool) (piece : List ℕ) → ended ≡ false → NoFeed piece
    → taken_count (held kept ended) piece ≡ length piece
taken_count-none kept ended piece going none = rw (going, lines_of-one piece (IsOneLine-none piece none)) refl

pub after_feed-none : (kept : Option (List ℕ)) (ended : Bool) (piece : List ℕ) → ended ≡ false → NoFeed piece
    → after_feed (held kept ended) piece ≡ held (kept_with kept piece) ended
after_feed-none kept ended piece going none = rw (going, lines_of-one piece (IsOneLine-none piece none)) refl

-- a line and its line feed stand at the front of the piece
take-first : (piece : List ℕ) (end : ℕ) → FirstFeed piece end → take (end + 1) piece ≡ with_feed (take end piece)
take-first piece end first =
    take_more piece end 0 first.0.high
    ∙ ap (λ (b : ℕ). take end piece ++ b ∷ []) (eqb-true (get_or piece end 0) 10 first.1)

-- the same lines are given after a feed
pub HasGiven-first : (kept : Option (List ℕ)) (ended : Bool) (piece bytes : List ℕ) (count : ℕ) (end : ℕ)
    → ended ≡ false → FirstFeed piece end → HasGiven (held kept ended) (lines_of bytes) count
    → HasGiven (held (kept_with kept (take end piece)) true) (lines_of (bytes ++ take (end + 1) piece)) count
HasGiven-first kept ended piece bytes count end going first had =
    rw (take-first piece end first)
    (HasGiven-line kept bytes (take end piece) count (IsOneLine-first piece end first) (rw going at had))

pub HasGiven-none : (kept : Option (List ℕ)) (ended : Bool) (piece bytes : List ℕ) (count : ℕ)
    → ended ≡ false → NoFeed piece → HasGiven (held kept ended) (lines_of bytes) count
    → HasGiven (held (kept_with kept piece) ended) (lines_of (bytes ++ take (length piece) piece)) count
HasGiven-none kept ended piece bytes count going none had =
    rw (take_all (length piece) piece (omega arith), going)
    (HasGiven-part kept bytes piece count (IsOneLine-none piece none) (rw going at had))

kept_in_full : (line bytes : List ℕ) (t : Bool) → nat_le (length line) longest_line ≡ t
    → (if t then Some line else None) ≡ Some bytes
    → (line ≡ bytes) × (length bytes ≤ longest_line)
kept_in_full line bytes true test is =
    let same : line ≡ bytes = cc in
    let short = leb-true (length line) longest_line test in
    (same, rw same at short)
kept_in_full line bytes false test is = cc

not_kept : (line : List ℕ) (t : Bool) → nat_le (length line) longest_line ≡ t → (if t then Some line else None) ≡ None
    → longest_line < length line
not_kept line true test is = cc
not_kept line false test is = leb-false (length line) longest_line test

-- what is kept tells the line where it has not too many bytes
pub kept_of-some : (line bytes : List ℕ) → kept_of line ≡ Some bytes → (line ≡ bytes) × (length bytes ≤ longest_line)
kept_of-some line bytes is = kept_in_full line bytes (nat_le (length line) longest_line) refl is

-- and else that it has
pub kept_of-none : (line : List ℕ) → kept_of line ≡ None → longest_line < length line
kept_of-none line is = not_kept line (nat_le (length line) longest_line) refl is

-- the line of which this is kept
record Next (lines : List (List ℕ)) (count : ℕ) (kept : Option (List ℕ)) : Type 0 where
  line : List ℕ
  at : slice_get lines count ≡ Some line
  kept_is : kept_of line ≡ kept
  last : length lines ≡ count + 1

next_line : (lines : List (List ℕ)) (count : ℕ) (kept : Option (List ℕ)) → map kept_of (drop count lines) ≡ kept ∷ []
    → Next lines count kept
next_line [] zero kept h = cc
next_line [] (suc count) kept h = cc
next_line (line ∷ lines) zero kept h =
    let none : map kept_of (drop 0 lines) ≡ [] = cc in
    let l = no_more lines 0 (omega arith) none in
    record { line = line; at = refl; kept_is = cc; last = omega arith }
next_line (line ∷ lines) (suc count) kept h =
    let next = next_line lines count kept h in
    let l = next.last in
    record { line = next.line; at = next.at; kept_is = next.kept_is; last = omega arith }

-- the line that a cut shows is the next one
pub IsNextLine-shown : (cut : Cut) (kept : Option (List ℕ)) (lines : Lines) (count : ℕ) → Shows cut kept
    → HasGiven (held kept true) lines count → IsNextLine cut lines.whole count
IsNextLine-shown (Line bytes) kept lines count shows had =
    let next = next_line lines.whole count kept had.ended in
    let is = kept_of-some next.line bytes.now (next.kept_is ∙ shows) in
    (next.at ∙ ap (λ (line : List ℕ). Some line) is.0, is.1)
IsNextLine-shown TooLong kept lines count shows had =
    let next = next_line lines.whole count kept had.ended in
    (next.line, next.at, kept_of-none next.line (next.kept_is ∙ shows))
IsNextLine-shown More kept lines count shows had = absurd shows

one_more : (kept : Option (List ℕ)) (lines : Lines) (count : ℕ) → HasGiven (held kept true) lines count
    → HasGiven nothing_held lines (count + 1)
one_more kept lines count had =
    let l = (next_line lines.whole count kept had.ended).last in
    record {
      within = omega arith;
      ended = rw (drop_all (count + 1) lines.whole (omega arith)) refl;
      rest = had.rest;
    }

-- one more line is given after it
pub HasGiven-shown : (cut : Cut) (kept : Option (List ℕ)) (lines : Lines) (count : ℕ) → Shows cut kept
    → HasGiven (held kept true) lines count → HasGiven nothing_held lines (count + shown_count cut)
HasGiven-shown (Line bytes) kept lines count shows had = one_more kept lines count had
HasGiven-shown TooLong kept lines count shows had = one_more kept lines count had
HasGiven-shown More kept lines count shows had = absurd shows

pub CutsNext-shown : (cut : Cut) (kept : Option (List ℕ)) → Shows cut kept → CutsNext cut (held kept true)
CutsNext-shown (Line bytes) kept shows = (refl, shows)
CutsNext-shown TooLong kept shows = (refl, shows)
CutsNext-shown More kept shows = absurd shows

-- a cutter that holds no ended line has given them all
pub HasGiven-all : (kept : Option (List ℕ)) (lines : Lines) (count : ℕ) → HasGiven (held kept false) lines count
    → length lines.whole ≡ count
HasGiven-all kept lines count had = no_more lines.whole count had.within had.ended
