-- What a pattern is kept as: ours.
use Rattle.std.specs.Prelude.{ℕ, List, length, nat_lt, Result, Ok, Err, if◌then◌else◌}
use Rattle.mx_json.specs.Folded.{folded}
use Rattle.mx_glob.specs.declared.error.GlobError.{GlobError}
use Rattle.mx_glob.specs.declared.error.GlobError.TheVariants.{PatternTooLong}

-- Above 1,024 bytes a pattern is too long; else it is its folded characters.
abbrev pub folded_pattern : List ℕ → Result (List ℕ) GlobError
folded_pattern pattern = if nat_lt 1024 (length pattern) then Err PatternTooLong else Ok (folded pattern)
