-- Induction over a value: what a value has where each of its members has it, every value has.
use Rattle.std.proofs.Common.{ℕ, ℤ, Bool, List, [], ◌∷◌, map, sym, subst}
use Rattle.mx_json.specs.declared.value.Json.{Json, Null, Truth, Whole, Text, List as ListOf, Object, roll-Json}
use Rattle.mx_json.specs.declared.value.Json.TheOpen.{Json-F}
use Rattle.mx_json.specs.declared.value.Json.TheFolds.{ind-Json, map-Json}
use Rattle.mx_json.specs.declared.value.Json.TheVariants.{rolls-Null, rolls-Truth, rolls-Whole, rolls-Text, rolls-List}
use Rattle.mx_json.specs.declared.value.Json.TheVariants.{rolls-Object}
use Rattle.mx_json.specs.declared.value.JsonList.{JsonList}
use Rattle.mx_json.specs.declared.value.JsonObject.{JsonObject}

-- P holds of each value
abbrev pub Each : (Json → Type 0) → List Json → Type 0
Each P [] = Unit {0}
Each P (item ∷ items) = P item × Each P items

-- P holds of the value of each pair
abbrev pub EachValue : (Json → Type 0) → List (List ℕ × Json) → Type 0
EachValue P [] = Unit {0}
EachValue P (pair ∷ pairs) = P pair.1 × EachValue P pairs

-- how P is shown of a value, by what it is, from P of its members
pub record Steps (P : Json → Type 0) : Type 0 where
  pub null : P Null
  pub truth : (truth : Bool) → P (Truth truth)
  pub whole : (number : ℤ) → P (Whole number)
  pub text : (text : List ℕ) → P (Text text)
  pub list : (list : JsonList) → Each P list.items → P (ListOf list)
  pub object : (object : JsonObject) → EachValue P object.pairs → P (Object object)

module _ (P : Json → Type 0) where
  abbrev InList : JsonList → Type 0
  InList list = Each P list.items

  abbrev InObject : JsonObject → Type 0
  InObject object = EachValue P object.pairs

  abbrev Shown : Type 0
  Shown = Json-F ((json : Json) × P json) ((list : JsonList) × InList list) ((object : JsonObject) × InObject object)

  each_item : (items : List ((json : Json) × P json)) → Each P (map (λ e. e.0) items)
  each_item [] = tt
  each_item (e ∷ items) = (e.1, each_item items)

  each_pair : (pairs : List (List ℕ × ((json : Json) × P json))) → EachValue P (map (λ e. (e.0, e.1.0)) pairs)
  each_pair [] = tt
  each_pair (e ∷ pairs) = (e.1.1, each_pair pairs)

  shown : Steps P → (y : Shown) → P (roll-Json (map-Json _ _ _ _ _ _ (λ e. e.0) (λ e. e.0) (λ e. e.0) y))
  shown steps Json-F.Null = subst P (sym rolls-Null) steps.null
  shown steps (Json-F.Truth truth) = subst P (sym (rolls-Truth truth)) (steps.truth truth)
  shown steps (Json-F.Whole number) = subst P (sym (rolls-Whole number)) (steps.whole number)
  shown steps (Json-F.Text text) = subst P (sym (rolls-Text text)) (steps.text text)
  shown steps (Json-F.List list) = subst P (sym (rolls-List list.0)) (steps.list list.0 list.1)
  shown steps (Json-F.Object object) = subst P (sym (rolls-Object object.0)) (steps.object object.0 object.1)

  pub every : Steps P → (json : Json) → P json
  every steps =
      ind-Json P InList InObject (λ x y is. subst (λ z. P (roll-Json z)) is (shown steps y))
      (λ x y is. subst (λ z. Each P z.items) is (each_item y.items))
      (λ x y is. subst (λ z. EachValue P z.pairs) is (each_pair y.pairs))
