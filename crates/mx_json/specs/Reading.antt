-- What bytes are read as a JSON value: RFC 8259 as `serde_json` reads it,
-- with numbers that are whole; the rest is ours.
use Rattle.std.specs.Prelude.{ℕ, ℤ, pos, nat_le, Bool, true, ◌&&◌, if◌then◌else◌, List, [], ◌∷◌, ◌++◌, Option, Some}
use Rattle.std.specs.Prelude.{None, is_some, option_and_then, unwrap_or, Result, Ok, Err}
use Rattle.std.specs.Option.{option_map_or}
use Rattle.std.specs.Str.{is_utf8}
use Rattle.serde_json.specs.Data.{Num, Data, null, boolean, number, string, array, object, Items, no_items, item}
use Rattle.serde_json.specs.Data.{Members, no_members, member, depth}
use Rattle.serde_json.specs.Find.{as_i64}
use Rattle.serde_json.specs.Read.{read}
use Rattle.mx_json.specs.declared.reading.JsonError.{JsonError}
use Rattle.mx_json.specs.declared.reading.JsonError.TheVariants.{BadJson, NotWhole}
use Rattle.mx_json.specs.declared.value.Json.{Json, Null, Truth, Whole, Text, List as ListOf, Object}
use Rattle.mx_json.specs.Json.{is_whole}

-- the value that these bytes are, if they are the UTF-8 of one
unfoldable pub reading : List ℕ → Option Data
reading bytes = if is_utf8 bytes then read bytes else None

-- the number, where it is whole and in range
abbrev pub in_range : ℤ → Option ℤ
in_range n = if is_whole n then Some n else None

-- the whole number that a number is: one with a full stop or an exponent is none, and neither is `-0`
abbrev pub whole_number_of : Num → Option ℤ
whole_number_of n = option_and_then in_range (as_i64 n)

abbrev mutual
  -- each number in the value is whole
  pub all_whole : Data → Bool
  all_whole null = true
  all_whole (boolean truth) = true
  all_whole (number n) = is_some (whole_number_of n)
  all_whole (string bytes) = true
  all_whole (array items) = all_whole_items items
  all_whole (object members) = all_whole_members members

  -- each number in the items of a list is whole
  pub all_whole_items : Items → Bool
  all_whole_items no_items = true
  all_whole_items (item value items) = all_whole value && all_whole_items items

  -- each number in the members of an object is whole
  pub all_whole_members : Members → Bool
  all_whole_members no_members = true
  all_whole_members (member key value members) = all_whole value && all_whole_members members

abbrev mutual
  -- the value that was read, where each number in it is whole
  pub json_of : Data → Json
  json_of null = Null
  json_of (boolean truth) = Truth truth
  json_of (number n) = Whole (unwrap_or (whole_number_of n) (pos 0))
  json_of (string bytes) = Text bytes
  json_of (array items) = ListOf record { items = items_of items }
  json_of (object members) = Object record { pairs = pairs_of members }

  -- the items of a list that was read, where each number in them is whole
  pub items_of : Items → List Json
  items_of no_items = []
  items_of (item value items) = json_of value ∷ items_of items

  -- the members of an object that was read, where each number in them is whole
  pub pairs_of : Members → List (List ℕ × Json)
  pairs_of no_members = []
  pairs_of (member key value members) = (key, json_of value) ∷ pairs_of members

-- what was read, or that a number in it isn't whole
abbrev pub whole_or : {A : Type 0} → Bool → A → Result A JsonError
whole_or is_all_whole value = if is_all_whole then Ok value else Err NotWhole

-- the value that was read, or that a number in it isn't whole
unfoldable pub whole_json : Data → Result Json JsonError
whole_json value = whole_or (all_whole value) (json_of value)

-- the items of a list behind those that were read, or that a number in them isn't whole; for private clauses
unfoldable pub whole_items : List Json → Items → Result (List Json) JsonError
whole_items done items = whole_or (all_whole_items items) (done ++ items_of items)

-- the members of an object behind those that were read, or that a number in them isn't whole; for private clauses
unfoldable pub whole_pairs : List (List ℕ × Json) → Members → Result (List (List ℕ × Json)) JsonError
whole_pairs done members = whole_or (all_whole_members members) (done ++ pairs_of members)

-- the value, or that it is nested deeper than `deepest`
unfoldable pub json_within : ℕ → Data → Result Json JsonError
json_within deepest value = if nat_le (depth value) deepest then whole_json value else Err BadJson

-- what bytes are read as, where a value may be nested `deepest` deep
unfoldable pub read_json : List ℕ → ℕ → Result Json JsonError
read_json bytes deepest = option_map_or (json_within deepest) (reading bytes) (Err BadJson)
