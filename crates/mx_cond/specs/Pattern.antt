-- When a pattern is spelled by an ASCII text, with which an ASCII value is compared as it stands: ours.
use Rattle.std.specs.Prelude.{◌≡◌, ℕ, List, IsAscii}
use Rattle.std.specs.Str.{str_to_ascii_lowercase}
use Rattle.mx_glob.specs.Search.{IsLiteral}

-- an ASCII text spells a folded pattern that has no `*` and no `?`; for private clauses
pub record Spells (text pattern : List ℕ) : Type 0 where
  pub ascii : IsAscii text
  pub literal : IsLiteral pattern
  pub same : str_to_ascii_lowercase text ≡ pattern
