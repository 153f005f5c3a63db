-- The block of lines in which a head comes: RFC 9112, 'Message Parsing', whose lines end with a line
-- feed here, with or without a carriage return before it.
use Rattle.std.specs.Prelude.{ℕ, Bool, true, false, ◌==◌, ◌&&◌, ◌||◌, List, [], ◌∷◌, ◌++◌, Option, Some, None}
use Rattle.std.specs.Prelude.{if◌then◌else◌}
use Rattle.mx_wire.specs.Reading.{Reading}
use Rattle.mx_wire.specs.Reading.Reading.{Got, Lacking}
use Rattle.mx_wire.specs.declared.line.InLine.{InLine}
use Rattle.mx_wire.specs.declared.line.InLine.TheVariants.{Start, BehindCr, Inside}

-- Where in a line one stands behind this byte, unless it ends the line.
abbrev pub within_line : InLine → ℕ → InLine
within_line Start b = if b == 13 then BehindCr else Inside
within_line BehindCr b = Inside
within_line Inside b = Inside

-- Where in a line one stands behind this byte.
abbrev pub place_after : InLine → ℕ → InLine
place_after place b = if b == 10 then Start else within_line place b

-- The byte ends a line that isn't empty.
abbrev pub ends_full : InLine → ℕ → Bool
ends_full Start b = false
ends_full BehindCr b = false
ends_full Inside b = b == 10

-- The byte ends a line that is empty: a line feed alone, or CR LF.
abbrev pub ends_empty : InLine → ℕ → Bool
ends_empty Start b = b == 10
ends_empty BehindCr b = b == 10
ends_empty Inside b = false

-- The rest of a block of which these bytes were read, behind a line that isn't empty or not.
unfoldable pub block_from : List ℕ → Bool → InLine → List ℕ → Reading (List ℕ)
block_from held behind place [] = Lacking
block_from held behind place (b ∷ u) =
    elim (behind && ends_empty place b) [
      | true ↦ Got (held ++ b ∷ []) u
      | false ↦ block_from (held ++ b ∷ []) (behind || ends_full place b) (place_after place b) u
    ]

-- A block: the bytes up to and with the first empty line that stands behind a line that isn't empty.
abbrev pub block_at : List ℕ → Reading (List ℕ)
block_at bytes = block_from [] false Start bytes

-- Where in a block one stands behind this byte, behind a line that isn't empty or not; none where
-- it ends the block.
abbrev pub next_in_block : Bool → InLine → ℕ → Option (Bool × InLine)
next_in_block behind place b =
    if behind && ends_empty place b then None
    else Some (behind || ends_full place b, place_after place b)
