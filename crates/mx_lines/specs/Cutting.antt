-- How lines are cut from bytes that come in pieces, and what a cutter holds in between: ours.
use Rattle.std.specs.Prelude.{◌≡◌, ℕ, ◌+◌, ◌<◌, ◌≤◌, Bool, true, false, List, [], ◌∷◌, ◌++◌, length, map, drop}
use Rattle.std.specs.Prelude.{slice_get, nat_le, Option, None, Some, if◌then◌else◌}
use Rattle.mx_lines.specs.Lines.{Lines, lines_of}
use Rattle.mx_lines.specs.declared.cut.Cut.{Cut}
use Rattle.mx_lines.specs.declared.cut.Cut.TheVariants.{Line, TooLong, More}

-- as many bytes as a line may have
abbrev pub longest_line : ℕ
longest_line = 131072

-- what is kept of a line: its bytes, or none of them where they are too many
abbrev pub kept_of : List ℕ → Option (List ℕ)
kept_of line = if nat_le (length line) longest_line then Some line else None

-- what is kept of a line after more of its bytes
abbrev pub kept_with : Option (List ℕ) → List ℕ → Option (List ℕ)
kept_with None more = None
kept_with (Some part) more = kept_of (part ++ more)

-- what a cutter holds: the line that it hasn't given, as far as it came
pub record Held : Type 0 where
  -- what is kept of the line's bytes
  pub kept : Option (List ℕ)
  -- whether the line's end came
  pub ended : Bool

-- no byte of the next line came
abbrev pub nothing_held : Held
nothing_held = record { kept = Some []; ended = false }

-- how many bytes of a piece with these lines belong to the first one and its end
abbrev pub first_size : List (List ℕ) → List ℕ → ℕ
first_size [] rest = length rest
first_size (line ∷ later) rest = length line + 1

-- how many bytes of this piece are taken: none while an ended line waits,
-- else up to and with the first line feed, or all
abbrev pub taken_count : Held → List ℕ → ℕ
taken_count held piece = if held.ended then 0 else first_size (lines_of piece).whole (lines_of piece).rest

-- what is held after the first line of a piece with these lines
abbrev pub after_first : Option (List ℕ) → List (List ℕ) → List ℕ → Held
after_first kept [] rest = record { kept = kept_with kept rest; ended = false }
after_first kept (line ∷ later) rest = record { kept = kept_with kept line; ended = true }

-- what is held after this piece was fed
abbrev pub after_feed : Held → List ℕ → Held
after_feed held piece = if held.ended then held else after_first held.kept (lines_of piece).whole (lines_of piece).rest

-- what is held after the ended line, if there is one, was given
abbrev pub after_next : Held → Held
after_next held = if held.ended then nothing_held else held

-- the next cut: the line that is held where its end came, else that more is wanted
abbrev pub CutsNext : Cut → Held → Type 0
CutsNext (Line bytes) held = (held.ended ≡ true) × (held.kept ≡ Some bytes.now)
CutsNext TooLong held = (held.ended ≡ true) × (held.kept ≡ None)
CutsNext More held = held.ended ≡ false

-- the last cut: the line that is held, without its end, unless no byte of it came
abbrev pub CutsLast : Cut → Held → Type 0
CutsLast (Line bytes) held = (held.kept ≡ Some bytes.now) × (0 < length bytes.now)
CutsLast TooLong held = held.kept ≡ None
CutsLast More held = held.kept ≡ Some []

-- a line that a cut shows has no more bytes than a line may have
abbrev pub IsShort : Cut → Type 0
IsShort (Line bytes) = length bytes.now ≤ longest_line
IsShort TooLong = Unit {0}
IsShort More = Unit {0}

-- the ended line that is held, as far as it is kept
abbrev pub ended_line : Held → List (Option (List ℕ))
ended_line held = if held.ended then held.kept ∷ [] else []

-- what is kept of the line whose end hasn't come
abbrev pub open_line : Held → Option (List ℕ)
open_line held = if held.ended then Some [] else held.kept

-- Of these lines the first ones were given, so many, and what follows is held:
-- one line that ended, or what has no end yet.
pub record HasGiven (held : Held) (lines : Lines) (count : ℕ) : Type 0 where
  pub within : count ≤ length lines.whole
  pub ended : map kept_of (drop count lines.whole) ≡ ended_line held
  pub rest : kept_of lines.rest ≡ open_line held

-- how many lines a cut shows
abbrev pub shown_count : Cut → ℕ
shown_count (Line bytes) = 1
shown_count TooLong = 1
shown_count More = 0

-- the cut shows the line after the first of these lines, so many; that more is wanted, where there is none
abbrev pub IsNextLine : Cut → List (List ℕ) → ℕ → Type 0
IsNextLine (Line bytes) lines count = (slice_get lines count ≡ Some bytes.now) × (length bytes.now ≤ longest_line)
IsNextLine TooLong lines count = (line : List ℕ) × (slice_get lines count ≡ Some line) × (longest_line < length line)
IsNextLine More lines count = length lines ≡ count

-- the cut shows what follows the last line feed; that more is wanted, where no byte does
abbrev pub IsLastLine : Cut → List ℕ → Type 0
IsLastLine (Line bytes) rest = (rest ≡ bytes.now) × (0 < length bytes.now) × (length bytes.now ≤ longest_line)
IsLastLine TooLong rest = longest_line < length rest
IsLastLine More rest = rest ≡ []
