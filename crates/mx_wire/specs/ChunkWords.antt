-- How bodies in chunks are spelled, in the words of the standard: RFC 9112, 'Chunked Transfer Coding',
-- in our profile.
use Rattle.std.specs.Prelude.{◌≡◌, ℕ, suc, ◌+◌, ◌*◌, ◌<◌, ◌≤◌, true, false, ◌==◌, List, [], ◌∷◌, ◌++◌, length, Some}
use Rattle.mx_wire.specs.Reading.Reading.{Got}
use Rattle.mx_wire.specs.Bodies.{hex_value, begins_extension, chunked}

-- A text with neither CR nor LF.
abbrev pub IsPlain : List ℕ → Type 0
IsPlain [] = Unit {0}
IsPlain (b ∷ text) = ((b == 13) ≡ false) × ((b == 10) ≡ false) × IsPlain text

-- Hexadecimal digits that take a number so far to this one.
abbrev pub Write : ℕ → List ℕ → ℕ → Type 0
Write so_far [] n = so_far ≡ n
Write so_far (b ∷ text) n = (d : ℕ) × (hex_value b ≡ Some d) × Write (16 * so_far + d) text n

-- Nothing, or a semicolon, a blank or a tab and then neither CR nor LF.
abbrev pub IsExtension : List ℕ → Type 0
IsExtension [] = Unit {0}
IsExtension (b ∷ text) = (begins_extension b ≡ true) × IsPlain text

-- A size line of this size: 1 to 8 hexadecimal digits, perhaps an extension, and CR LF.
pub record WritesSize (line : List ℕ) (n : ℕ) : Type 0 where
  pub text : List ℕ
  pub extension : List ℕ
  pub some : 0 < length text
  pub few : length text ≤ 8
  pub digits : Write 0 text n
  pub extended : IsExtension extension
  pub is : line ≡ text ++ (extension ++ 13 ∷ 10 ∷ [])

-- A trailer: lines of at least one byte, none of them CR or LF, each ended by CR LF, and then CR LF.
pub data IsTrailer : List ℕ → Type 0 where
  trailer_end : {text : List ℕ} → text ≡ 13 ∷ 10 ∷ [] → IsTrailer text
  trailer_line : {text : List ℕ} (line rest : List ℕ) → 0 < length line → IsPlain line → IsTrailer rest
      → text ≡ line ++ (13 ∷ 10 ∷ rest) → IsTrailer text

-- A body in chunks: size lines, each followed by that many bytes and CR LF, up to the size line of a
-- size of 0, which the trailer follows.
pub data IsChunked : List ℕ → List ℕ → Type 0 where
  last_chunk : {coded body : List ℕ} (line rest : List ℕ) → WritesSize line 0 → IsTrailer rest → coded ≡ line ++ rest
      → body ≡ [] → IsChunked coded body
  one_chunk : {coded body : List ℕ} (line piece rest others : List ℕ) (n : ℕ) → WritesSize line (suc n)
      → length piece ≡ suc n → IsChunked rest others → coded ≡ line ++ (piece ++ (13 ∷ 10 ∷ rest))
      → body ≡ piece ++ others → IsChunked coded body

-- A body in chunks is read, whatever comes behind it.
abbrev pub ChunksAreRead : Type 0
ChunksAreRead = (coded body rest : List ℕ) → IsChunked coded body → chunked (coded ++ rest) ≡ Got body rest

-- These bytes stand at the front, and are a body in chunks.
pub record SpellsChunks (bytes body rest : List ℕ) : Type 0 where
  pub coded : List ℕ
  pub front : bytes ≡ coded ++ rest
  pub is : IsChunked coded body

-- What is read as a body in chunks is one, and stands at the front of the bytes.
abbrev pub ChunksAreSpelled : Type 0
ChunksAreSpelled = (bytes body rest : List ℕ) → chunked bytes ≡ Got body rest → SpellsChunks bytes body rest
