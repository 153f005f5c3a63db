-- What a value is read as, level by level.
use Rattle.std.proofs.Common.{◌≡◌, ℕ, ℤ, Bool, List, rules}
use Rattle.serde_json.specs.Data.{null, boolean, number, string, array, object}
use Rattle.serde_json.specs.Find.{of_integer}
use Rattle.mx_json.specs.declared.value.Json.{Null, Truth, Whole, Text, List as ListOf, Object, the_lemmas}
use Rattle.mx_json.specs.declared.value.JsonList.{JsonList}
use Rattle.mx_json.specs.declared.value.JsonObject.{JsonObject}
use Rattle.mx_json.specs.Tokens.{data_of, items_data, pairs_data}

pub data_of-Null : data_of Null ≡ null
data_of-Null = search (rules, the_lemmas)

pub data_of-Truth : (truth : Bool) → data_of (Truth truth) ≡ boolean truth
data_of-Truth truth = search (rules, the_lemmas)

pub data_of-Whole : (n : ℤ) → data_of (Whole n) ≡ number (of_integer n)
data_of-Whole n = search (rules, the_lemmas)

pub data_of-Text : (text : List ℕ) → data_of (Text text) ≡ string text
data_of-Text text = search (rules, the_lemmas)

pub data_of-List : (list : JsonList) → data_of (ListOf list) ≡ array (items_data list.items)
data_of-List list = search (rules, the_lemmas)

pub data_of-Object : (whole : JsonObject) → data_of (Object whole) ≡ object (pairs_data whole.pairs)
data_of-Object whole = search (rules, the_lemmas)
