-- Where the reader of a path stands: ours. Only private clauses cite it.
use Rattle.std.specs.Prelude.{ℕ, List, ◌++◌, string_bytes}
use Rattle.mx_json.specs.declared.path.PathReader.{PathReader}
use Rattle.mx_json.specs.Path.{in_front, segments_left}

-- the segments of a text of which these bytes are left
abbrev pub segments_with : PathReader → List ℕ → List (List ℕ)
segments_with reader rest =
    reader.ended ++ in_front (string_bytes reader.segment) (segments_left reader.backslash_waits rest)
