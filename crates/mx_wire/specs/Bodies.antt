-- The body of a reply: RFC 9112, 'Chunked Transfer Coding' and 'Message Body Length'.
use Rattle.std.specs.Prelude.{ℕ, zero, suc, ◌+◌, ◌-◌, ◌*◌, Bool, true, false, ◌==◌, ◌||◌, ◌&&◌, nat_lt, nat_le, List}
use Rattle.std.specs.Prelude.{[], ◌∷◌, length, Option, Some, None, if◌then◌else◌}
use Rattle.mx_wire.specs.Reading.{Reading, ◌>>=◌, with_front}
use Rattle.mx_wire.specs.Reading.Reading.{Got, Refused, Lacking}
use Rattle.mx_wire.specs.declared.line.InLine.{InLine}
use Rattle.mx_wire.specs.declared.line.InLine.TheVariants.{Start, BehindCr, Inside}

-- The value of a hexadecimal digit.
abbrev pub hex_value : ℕ → Option ℕ
hex_value b =
    if nat_le 48 b && nat_le b 57 then Some (b - 48)
    else if nat_le 65 b && nat_le b 70 then Some (b - 55)
    else if nat_le 97 b && nat_le b 102 then Some (b - 87)
    else None

-- An extension of a size line begins with a semicolon, a blank or a tab.
abbrev pub begins_extension : ℕ → Bool
begins_extension b = b == 59 || b == 32 || b == 9

-- A line feed, behind which this was read.
abbrev pub feed : {A : Type 0} → A → List ℕ → Reading A
feed a [] = Lacking
feed a (b ∷ u) = elim (b == 10) [ true ↦ Got a u | false ↦ Refused ]

-- CR LF.
abbrev pub crlf : List ℕ → Reading (List ℕ)
crlf [] = Lacking
crlf (b ∷ u) = let none : List ℕ = [] in elim (b == 13) [ true ↦ feed none u | false ↦ Refused ]

-- The rest of an extension, which holds neither CR nor LF, and CR LF.
unfoldable pub extension : ℕ → List ℕ → Reading ℕ
extension n [] = Lacking
extension n (b ∷ u) =
    elim (b == 13) [
      | true ↦ feed n u
      | false ↦ elim (b == 10) [ true ↦ Refused | false ↦ extension n u ]
    ]

-- What stands behind the digits of a size line, from this byte on.
abbrev pub after_digits : ℕ → ℕ → List ℕ → Reading ℕ
after_digits n b u =
    elim (b == 13) [
      | true ↦ feed n u
      | false ↦ elim (begins_extension b) [ true ↦ extension n u | false ↦ Refused ]
    ]

-- The rest of a size line of which so many digits were read, with this value so far.
unfoldable pub digits : ℕ → ℕ → List ℕ → Reading ℕ
digits count n [] = Lacking
digits count n (b ∷ u) =
    elim (hex_value b) [
      | Some d ↦ elim (nat_lt count 8) [ true ↦ digits (count + 1) (16 * n + d) u | false ↦ Refused ]
      | None ↦ elim (nat_lt 0 count) [ true ↦ after_digits n b u | false ↦ Refused ]
    ]

-- A size line: 1 to 8 hexadecimal digits, perhaps an extension, and CR LF.
abbrev pub size_line : List ℕ → Reading ℕ
size_line bytes = digits 0 0 bytes

-- So many bytes.
unfoldable pub counted : ℕ → List ℕ → Reading (List ℕ)
counted zero u = Got [] u
counted (suc n) [] = Lacking
counted (suc n) (b ∷ u) = with_front (b ∷ []) (counted n u)

-- The rest of a trailer from this place of a line on: lines of at least one byte, none of them CR or
-- LF, each ended by CR LF, and then CR LF.
unfoldable pub trailer : InLine → List ℕ → Reading (List ℕ)
trailer place [] = Lacking
trailer Start (b ∷ u) =
    let none : List ℕ = [] in
    elim (b == 13) [
      | true ↦ feed none u
      | false ↦ elim (b == 10) [ true ↦ Refused | false ↦ trailer Inside u ]
    ]
trailer BehindCr (b ∷ u) = elim (b == 10) [ true ↦ trailer Start u | false ↦ Refused ]
trailer Inside (b ∷ u) =
    elim (b == 13) [
      | true ↦ trailer BehindCr u
      | false ↦ elim (b == 10) [ true ↦ Refused | false ↦ trailer Inside u ]
    ]

-- What stands behind a size line: after a size of 0 the trailer, and else so many bytes, CR LF, and
-- what follows.
abbrev pub after_size : (List ℕ → Reading (List ℕ)) → ℕ → List ℕ → Reading (List ℕ)
after_size more zero rest = trailer Start rest
after_size more (suc n) rest =
    counted (suc n) rest >>= (λ piece. crlf piece.1 >>= (λ end. with_front piece.0 (more end.1)))

-- At most so many chunks.
unfoldable pub chunks : ℕ → List ℕ → Reading (List ℕ)
chunks zero bytes = Lacking
chunks (suc k) bytes = size_line bytes >>= (λ size. after_size (chunks k) size.0 size.1)

-- A body in chunks: a size line, that many bytes, CR LF, up to the size line of a size of 0, then the
-- trailer. Each chunk has at least one byte.
unfoldable pub chunked : List ℕ → Reading (List ℕ)
chunked bytes = chunks (length bytes + 1) bytes
