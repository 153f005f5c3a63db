-- The canonical text of a value: the Matrix specification's appendix 'Canonical JSON',
-- with the escapes of RFC 8259 that it asks for.
use Rattle.std.specs.Prelude.{ℕ, if◌then◌else◌, List, ◌∷◌, ◌++◌, map, codes}
use Rattle.std.specs.Fmt.{signed_decimal}
use Rattle.std.specs.List.{join_with_byte}
use Rattle.json.specs.Print.{quoted}
use Rattle.mx_json.specs.declared.value.Json.{Json, fold-Json}
use Rattle.mx_json.specs.declared.value.Json.TheOpen.{Json-F, JsonList-F, JsonObject-F}

-- the byte `,`
abbrev pub comma : ℕ
comma = 44

-- the byte `:`
abbrev pub colon : ℕ
colon = 58

-- A text is quoted: `"` and `\` stand behind a backslash, U+0008, U+000C, U+000A, U+000D and U+0009 are `\b`, `\f`,
-- `\n`, `\r` and `\t`, other characters below U+0020 are `\u00` and two lower-case hexadecimal digits, and all else
-- stands as itself. What stands between the brackets of a list or the braces of an object is told below.
abbrev pub value_text : Json-F (List ℕ) (List ℕ) (List ℕ) → List ℕ
value_text Json-F.Null = codes "null"
value_text (Json-F.Truth truth) = if truth then codes "true" else codes "false"
value_text (Json-F.Whole number) = signed_decimal number
value_text (Json-F.Text text) = quoted text
value_text (Json-F.List text) = text
value_text (Json-F.Object text) = text

-- the members' texts between brackets, with a comma between each two
abbrev pub list_text : JsonList-F (List ℕ) (List ℕ) (List ℕ) → List ℕ
list_text list = codes "[" ++ (join_with_byte comma list.items ++ codes "]")

-- a key, a colon and the value's text
abbrev pub pair_text : List ℕ × List ℕ → List ℕ
pair_text pair = quoted pair.0 ++ colon ∷ pair.1

-- the pairs' texts between braces, with a comma between each two
abbrev pub object_text : JsonObject-F (List ℕ) (List ℕ) (List ℕ) → List ℕ
object_text object = codes "{" ++ (join_with_byte comma (map pair_text object.pairs) ++ codes "}")

-- the canonical text of a value, which for a valid value has the keys in order
abbrev pub canonical : Json → List ℕ
canonical = fold-Json (List ℕ) (List ℕ) (List ℕ) value_text list_text object_text
