-- Whether the texts of a value are UTF-8, as those that a program holds are: RFC 8259, section 8.1.
use Rattle.std.specs.Prelude.{Bool, true, ◌&&◌}
use Rattle.std.specs.List.{list_all}
use Rattle.std.specs.Str.{is_utf8}
use Rattle.mx_json.specs.declared.value.Json.{Json, fold-Json}
use Rattle.mx_json.specs.declared.value.Json.TheOpen.{Json-F, JsonList-F, JsonObject-F}

-- a text is UTF-8, and so are the keys of an object
abbrev pub value_has_utf8 : Json-F Bool Bool Bool → Bool
value_has_utf8 (Json-F.Text text) = is_utf8 text
value_has_utf8 (Json-F.List members_have) = members_have
value_has_utf8 (Json-F.Object members_have) = members_have
value_has_utf8 other = true

-- a list has UTF-8 alone where each of its items has
abbrev pub list_has_utf8 : JsonList-F Bool Bool Bool → Bool
list_has_utf8 list = list_all (λ member_has. member_has) list.items

-- an object has UTF-8 alone where each of its keys and values has
abbrev pub object_has_utf8 : JsonObject-F Bool Bool Bool → Bool
object_has_utf8 whole = list_all (λ pair. is_utf8 pair.0 && pair.1) whole.pairs

-- each text and each key in the value is UTF-8
abbrev pub has_utf8 : Json → Bool
has_utf8 = fold-Json Bool Bool Bool value_has_utf8 list_has_utf8 object_has_utf8
