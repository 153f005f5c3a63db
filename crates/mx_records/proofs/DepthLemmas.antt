-- How deep the object that stands for an input is nested, by what it holds.
use Rattle.std.proofs.Common.{◌≡◌, ℕ, pos, suc, ◌+◌, ◌-◌, ◌<◌, ◌≤◌, max, nat_le, Bool, true, false, ◌&&◌, List, [], ◌∷◌}
use Rattle.std.proofs.Common.{map, codes, drop, Option, Some, None, option_map, refl, ap, sym, subst, ◌∙◌, arith, rules}
use Rattle.std.proofs.lemmas.Bool.Decides.{nat_tests}
use Rattle.std.specs.List.{filter_map}
use Rattle.std.specs.Option.{option_map_or}
use Rattle.mx_json.specs.declared.value.Json.{Json, Null, Truth, Whole, Text, List as ListOf, Object, the_lemmas}
use Rattle.mx_json.specs.declared.value.JsonList.{JsonList}
use Rattle.mx_json.specs.declared.value.JsonObject.{JsonObject}
use Rattle.mx_json.specs.Json.{depth_of, largest}
use Rattle.mx_json.proofs.JsonLemmas.{depth_of-List, depth_of-Object, with_value}
use Rattle.mx_rows.specs.declared.thread_key.ThreadKey.{ThreadKey}
use Rattle.mx_rule.specs.declared.edit.Edit.TheVariants.{Put, Delete, Enable, SetActions}
use Rattle.mx_rule.specs.declared.kind.Kind.{Kind}
use Rattle.mx_records.specs.declared.input.Input.TheVariants.{Event, Edit, Receipt, Pusher}
use Rattle.mx_records.specs.declared.pusher_spec.HttpPusher.{HttpPusher}
use Rattle.mx_records.specs.declared.pusher_spec.PusherSpec.{PusherSpec}
use Rattle.mx_records.specs.Normal.{Field, edit_fields, field_depth, fields_depth, fields_given, given_pairs, kind_text}
use Rattle.mx_records.specs.Normal.{normal_of, object_of, privacy_text, pusher_fields, thread_text}

pub text-flat : (text : List ℕ) → depth_of (Text text) ≡ 0
text-flat text = search (rules, the_lemmas)

pub truth-flat : (truth : Bool) → depth_of (Truth truth) ≡ 0
truth-flat truth = search (rules, the_lemmas)

text_if-flat : (text : Option (List ℕ)) → option_map_or depth_of (option_map Text text) 0 ≡ 0
text_if-flat None = refl
text_if-flat (Some text) = text-flat text

truth_if-flat : (truth : Option Bool) → option_map_or depth_of (option_map Truth truth) 0 ≡ 0
truth_if-flat None = refl
truth_if-flat (Some truth) = truth-flat truth

null-flat : depth_of Null ≡ 0
null-flat = search (rules, the_lemmas)

whole-flat : (seconds : ℕ) → depth_of (Whole (pos seconds)) ≡ 0
whole-flat seconds = search (rules, the_lemmas)

-- ---- objects

max-zero : (n : ℕ) → n ≡ max 0 n
max-zero n = omega arith

given-depth : (fields : List Field)
    → largest (map (λ pair. pair.1) (map (with_value depth_of) (given_pairs fields))) ≡ fields_depth fields
given-depth [] = refl
given-depth ((key, None) ∷ fields) = given-depth fields ∙ max-zero (fields_depth fields)
given-depth ((key, Some value) ∷ fields) = ap (max (depth_of value)) (given-depth fields)

pub object-depth : (fields : List Field) → depth_of (object_of fields) ≡ suc (fields_depth fields)
object-depth fields = depth_of-Object (record { pairs = given_pairs fields }) ∙ ap suc (given-depth fields)

-- ---- the fields of each input

pub event-depth : (event : Json) → fields_depth (fields_given (Event event)) ≡ depth_of event
event-depth event = let word = text-flat (codes "event") in omega arith

pub put-depth : (user : List ℕ) (sort : Kind) (id : List ℕ) (pattern : Option (List ℕ)) (conditions : Option JsonList)
    (actions : JsonList) (before after : Option (List ℕ))
    → fields_depth (edit_fields user (Put sort id pattern conditions actions before after))
    ≡ max (depth_of (ListOf actions)) (option_map_or depth_of (option_map ListOf conditions) 0)
put-depth user sort id pattern conditions actions before after =
    omega (
      arith,
      text_if-flat after,
      text_if-flat before,
      text-flat (codes "rule_put"),
      text-flat (kind_text sort),
      text_if-flat pattern,
      text-flat id,
      text-flat user,
    )

pub delete-depth : (user : List ℕ) (sort : Kind) (id : List ℕ) → fields_depth (edit_fields user (Delete sort id)) ≡ 0
delete-depth user sort id =
    omega (arith, text-flat (codes "rule_delete"), text-flat (kind_text sort), text-flat id, text-flat user)

pub enable-depth : (user : List ℕ) (sort : Kind) (id : List ℕ) (enabled : Bool)
    → fields_depth (edit_fields user (Enable sort id enabled)) ≡ 0
enable-depth user sort id enabled =
    omega (
      arith,
      text-flat (codes "rule_enable"),
      truth-flat enabled,
      text-flat (kind_text sort),
      text-flat id,
      text-flat user,
    )

pub actions-depth : (user : List ℕ) (sort : Kind) (id : List ℕ) (actions : JsonList)
    → fields_depth (edit_fields user (SetActions sort id actions)) ≡ depth_of (ListOf actions)
actions-depth user sort id actions =
    omega (arith, text-flat (codes "rule_actions"), text-flat (kind_text sort), text-flat id, text-flat user)

pub receipt-depth : (user room event : List ℕ) (private : Bool) (thread : Option ThreadKey)
    → fields_depth (fields_given (Receipt user room event private thread)) ≡ 0
receipt-depth user room event private thread =
    omega (
      arith,
      text-flat (codes "receipt"),
      text-flat event,
      text-flat room,
      text_if-flat (option_map thread_text thread),
      text-flat (privacy_text private),
      text-flat user,
    )

pub taken-depth : (spec : PusherSpec) → fields_depth (pusher_fields spec None) ≡ 0
taken-depth spec =
    omega
    (arith, text-flat spec.app_id, text-flat (codes "pusher"), null-flat, text-flat spec.pushkey, text-flat spec.user)

pub posting-depth : (spec : PusherSpec) (http : HttpPusher)
    → fields_depth (pusher_fields spec (Some http)) ≡ depth_of (Object http.details)
posting-depth spec http =
    omega (
      arith,
      text-flat http.app_display_name,
      text-flat spec.app_id,
      truth_if-flat http.append,
      text-flat (codes "pusher"),
      text-flat http.device_display_name,
      text-flat (codes "http"),
      text-flat http.lang,
      text-flat spec.pushkey,
      whole-flat http.ts,
      text-flat spec.user,
    )

-- ---- tests

-- an object is nested at most 100 deep where its fields are nested at most 99 deep
pub within-object : (fields : List Field) (b : Bool) → b ≡ nat_le (fields_depth fields) 99
    → b ≡ nat_le (depth_of (object_of fields)) 100
within-object fields b is = is ∙ shift (fields_depth fields) ∙ ap (λ n. nat_le n 100) (sym (object-depth fields))
  where
    shift : (n : ℕ) → nat_le n 99 ≡ nat_le (suc n) 100
    shift n = grind (arith, nat_tests)

pub within-two : (a b : ℕ) (one two : Bool) → one ≡ nat_le a 99 → two ≡ nat_le b 99 → (one && two) ≡ nat_le (max a b) 99
within-two a b one two first second = (λ i. first i && second i) ∙ both a b
  where
    both : (a b : ℕ) → (nat_le a 99 && nat_le b 99) ≡ nat_le (max a b) 99
    both a b = grind (arith, nat_tests)

pub posting-within : (spec : PusherSpec) (http : HttpPusher) (b : Bool) → spec.http ≡ Some http
    → b ≡ nat_le (depth_of (Object http.details)) 99 → b ≡ nat_le (depth_of (normal_of (Pusher spec))) 100
posting-within spec http b has is =
    subst (λ o. b ≡ nat_le (depth_of (object_of (pusher_fields spec o))) 100) (sym has)
    (within-object (pusher_fields spec (Some http)) b (is ∙ ap (λ n. nat_le n 99) (sym (posting-depth spec http))))

pub taken-within : (spec : PusherSpec) → spec.http ≡ None → true ≡ nat_le (depth_of (normal_of (Pusher spec))) 100
taken-within spec has =
    subst (λ o. true ≡ nat_le (depth_of (object_of (pusher_fields spec o))) 100) (sym has)
    (within-object (pusher_fields spec None) true (sym (ap (λ n. nat_le n 99) (taken-depth spec))))
