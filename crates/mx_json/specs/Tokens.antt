-- The tokens that a writer of JSON is handed for a value: ours. Only private clauses cite them.
use Rattle.std.specs.Prelude.{ℕ, List, [], ◌∷◌, map}
use Rattle.json.specs.Token.{Token}
use Rattle.json.specs.Tree.{json_tokens, items_tokens, members_tokens}
use Rattle.serde_json.specs.Data.{Data, null, boolean, number, string, array, object, Items, Members, no_members}
use Rattle.serde_json.specs.Data.{member}
use Rattle.serde_json.specs.Find.{of_integer}
use Rattle.serde_json.specs.View.{items_of}
use Rattle.serde_json.specs.Written.{outline, items_outline, members_outline}
use Rattle.mx_json.specs.declared.value.Json.{Json, fold-Json}
use Rattle.mx_json.specs.declared.value.Json.TheOpen.{Json-F, JsonList-F, JsonObject-F}

-- what `serde_json` would read a value as

-- the members of an object that has these keys and values
abbrev pub members_from : List (List ℕ × Data) → Members
members_from [] = no_members
members_from (pair ∷ pairs) = member pair.0 pair.1 (members_from pairs)

-- what `serde_json` would read the top of a value as
abbrev pub value_data : Json-F Data Items Members → Data
value_data Json-F.Null = null
value_data (Json-F.Truth truth) = boolean truth
value_data (Json-F.Whole n) = number (of_integer n)
value_data (Json-F.Text text) = string text
value_data (Json-F.List items) = array items
value_data (Json-F.Object members) = object members

-- what `serde_json` would read the items of a list as
abbrev pub list_data : JsonList-F Data Items Members → Items
list_data list = items_of list.items

-- what `serde_json` would read the members of an object as
abbrev pub object_data : JsonObject-F Data Items Members → Members
object_data whole = members_from whole.pairs

-- what `serde_json` would read a value as
abbrev pub data_of : Json → Data
data_of = fold-Json Data Items Members value_data list_data object_data

-- what `serde_json` would read these items as
abbrev pub items_data : List Json → Items
items_data items = items_of (map data_of items)

-- a key, and what `serde_json` would read its value as
abbrev pub pair_data : List ℕ × Json → List ℕ × Data
pair_data pair = (pair.0, data_of pair.1)

-- what `serde_json` would read these members as
abbrev pub pairs_data : List (List ℕ × Json) → Members
pairs_data pairs = members_from (map pair_data pairs)

-- the tokens of a value; those of items and of pairs, with the closing bracket

-- the tokens of a value
abbrev pub tokens_of : Json → List Token
tokens_of json = json_tokens (outline (data_of json))

-- the tokens of the items of a list that are left, with the closing bracket
abbrev pub items_left : List Json → List Token
items_left items = items_tokens (items_outline (items_data items))

-- the tokens of the members of an object that are left, with the closing bracket
abbrev pub pairs_left : List (List ℕ × Json) → List Token
pairs_left pairs = members_tokens (members_outline (pairs_data pairs))
