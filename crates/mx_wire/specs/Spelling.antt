-- How blocks are spelled, in the words of the standard: RFC 9112, 'Message Parsing'.
use Rattle.std.specs.Prelude.{◌≡◌, ◌≢◌, ℕ, Bool, true, false, ◌==◌, List, [], ◌∷◌, ◌++◌, ◌⊎◌}
use Rattle.mx_wire.specs.Reading.Reading.{Got}
use Rattle.mx_wire.specs.Blocks.{block_at}

-- A text without a line feed.
abbrev pub IsOneLine : List ℕ → Type 0
IsOneLine [] = Unit {0}
IsOneLine (b ∷ text) = ((b == 10) ≡ false) × IsOneLine text

-- A line that is empty: a line feed alone, or CR LF.
abbrev pub IsEmptyLine : List ℕ → Type 0
IsEmptyLine line = (line ≡ 10 ∷ []) ⊎ (line ≡ 13 ∷ 10 ∷ [])

-- A line that isn't empty: a text and a line feed, where the text has more than a CR.
pub record IsFullLine (line : List ℕ) : Type 0 where
  pub text : List ℕ
  pub one : IsOneLine text
  pub some : text ≢ []
  pub other : text ≢ 13 ∷ []
  pub is : line ≡ text ++ 10 ∷ []

-- Lines up to and with the first empty one that stands behind a line that isn't empty, where such a
-- line came before or not.
pub data IsBlockRest : Bool → List ℕ → Type 0 where
  end_line : {block : List ℕ} → IsEmptyLine block → IsBlockRest true block
  blank_line : {block : List ℕ} (line rest : List ℕ) → IsEmptyLine line → IsBlockRest false rest → block ≡ line ++ rest
      → IsBlockRest false block
  full_line : {behind : Bool} {block : List ℕ} (line rest : List ℕ) → IsFullLine line → IsBlockRest true rest
      → block ≡ line ++ rest → IsBlockRest behind block

-- A block: the lines up to and with the first empty one behind a line that isn't empty.
abbrev pub IsBlock : List ℕ → Type 0
IsBlock block = IsBlockRest false block

-- A block is read, whatever comes behind it.
abbrev pub BlocksAreRead : Type 0
BlocksAreRead = (block rest : List ℕ) → IsBlock block → block_at (block ++ rest) ≡ Got block rest

-- What is read as a block is one, and stands at the front of the bytes.
abbrev pub BlocksAreSpelled : Type 0
BlocksAreSpelled =
    (bytes block rest : List ℕ) → block_at bytes ≡ Got block rest → (bytes ≡ block ++ rest) × IsBlock block
