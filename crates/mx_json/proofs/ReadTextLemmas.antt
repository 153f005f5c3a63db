-- The texts of a value that was read are UTF-8, since they are texts of the program.
use Rattle.std.proofs.Common.{◌≡◌, true, List, [], ◌∷◌, map, String, Global, string_bytes, sym, subst, ◌∙◌, rules}
use Rattle.std.proofs.lemmas.Bool.{and_from}
use Rattle.std.proofs.lemmas.Str.{IsUtf8-string_bytes, is_utf8-from_IsUtf8}
use Rattle.std.specs.List.{list_all}
use Rattle.std.specs.Prelude.{⊤, ◌&&◌}
use Rattle.std.specs.Str.{is_utf8}
use Rattle.serde_json.specs.Data.{Data, null, boolean, number, string, array, object, Items, no_items, item, Members}
use Rattle.serde_json.specs.Data.{no_members, member}
use Rattle.serde_json.specs.View.{items_of as items_from, members_of, view, view_step}
use Rattle.serde_json.specs.declared.value.Value.{Value}
use Rattle.serde_json.specs.declared.value.Value.TheOpen.{Value-F}
use Rattle.serde_json.specs.declared.value.Value.TheViews.{roll-Value}
use Rattle.serde_json.specs.declared.value.Value.TheFolds.{fold-roll-Value, ind-Value, map-Value}
use Rattle.mx_json.specs.declared.value.Json.{the_lemmas}
use Rattle.mx_json.specs.Reading.{json_of, items_of, pairs_of}
use Rattle.mx_json.specs.Utf8.{has_utf8}
use Rattle.mx_json.proofs.JsonLemmas.{with_value, has_utf8-Text, has_utf8-List, has_utf8-Object}

-- ---- data whose texts are UTF-8

abbrev mutual
  HasTexts : Data → Type 0
  HasTexts null = ⊤
  HasTexts (boolean truth) = ⊤
  HasTexts (number n) = ⊤
  HasTexts (string text) = is_utf8 text ≡ true
  HasTexts (array items) = ItemsHaveTexts items
  HasTexts (object members) = MembersHaveTexts members

  ItemsHaveTexts : Items → Type 0
  ItemsHaveTexts no_items = ⊤
  ItemsHaveTexts (item d items) = HasTexts d × ItemsHaveTexts items

  MembersHaveTexts : Members → Type 0
  MembersHaveTexts no_members = ⊤
  MembersHaveTexts (member key d members) = (is_utf8 key ≡ true) × HasTexts d × MembersHaveTexts members

mutual
  has_utf8-json_of : (d : Data) → HasTexts d → has_utf8 (json_of d) ≡ true
  has_utf8-json_of null h = search (rules, the_lemmas)
  has_utf8-json_of (boolean truth) h = search (rules, the_lemmas)
  has_utf8-json_of (number n) h = search (rules, the_lemmas)
  has_utf8-json_of (string text) h = has_utf8-Text text ∙ h
  has_utf8-json_of (array items) h = has_utf8-List _ ∙ items_utf8 items h
  has_utf8-json_of (object members) h = has_utf8-Object _ ∙ members_utf8 members h

  items_utf8 : (items : Items) → ItemsHaveTexts items → list_all (λ b. b) (map has_utf8 (items_of items)) ≡ true
  items_utf8 no_items h = search rules
  items_utf8 (item d items) h = and_from _ _ (has_utf8-json_of d h.0) (items_utf8 items h.1)

  members_utf8 : (members : Members) → MembersHaveTexts members
      → list_all (λ pair. is_utf8 pair.0 && pair.1) (map (with_value has_utf8) (pairs_of members)) ≡ true
  members_utf8 no_members h = search rules
  members_utf8 (member key d members) h =
      and_from _ _ (and_from _ _ h.0 (has_utf8-json_of d h.1)) (members_utf8 members h.2)

-- ---- the data of a value of the program

abbrev Shown : Type 0
Shown = (v : Value) × HasTexts (view v)

text_utf8 : (text : String Global) → is_utf8 (string_bytes text) ≡ true
text_utf8 text = is_utf8-from_IsUtf8 (string_bytes text) (IsUtf8-string_bytes text)

items_shown : (items : List Shown) → ItemsHaveTexts (items_from (map view (map (λ e. e.0) items)))
items_shown [] = tt
items_shown (e ∷ items) = (e.1, items_shown items)

entries_shown : (entries : List (String Global × Shown)) → MembersHaveTexts (members_of
    (map (λ (m : String Global × Value). (m.0, view m.1)) (map (λ (e : String Global × Shown). (e.0, e.1.0)) entries)))
entries_shown [] = tt
entries_shown (e ∷ entries) = (text_utf8 e.0, e.1.1, entries_shown entries)

layer_shown : (y : Value-F Shown)
    → HasTexts (view_step (map-Value Value Data view (map-Value Shown Value (λ e. e.0) y)))
layer_shown Value-F.Null = tt
layer_shown (Value-F.Bool truth) = tt
layer_shown (Value-F.Number n) = tt
layer_shown (Value-F.String text) = text_utf8 text
layer_shown (Value-F.Array items) = items_shown items.items
layer_shown (Value-F.Object members) = entries_shown members.entries

shown : (y : Value-F Shown) → HasTexts (view (roll-Value (map-Value Shown Value (λ e. e.0) y)))
shown y = subst HasTexts (sym (fold-roll-Value Data view_step (map-Value Shown Value (λ e. e.0) y))) (layer_shown y)

pub has_utf8-read : (v : Value) → has_utf8 (json_of (view v)) ≡ true
has_utf8-read v = has_utf8-json_of (view v)
    (ind-Value (λ u. HasTexts (view u)) (λ x y is. subst (λ z. HasTexts (view (roll-Value z))) is (shown y)) v)
