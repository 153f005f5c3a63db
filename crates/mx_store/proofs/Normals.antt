-- An input that its object stands for has valid rules.
use Rattle.std.proofs.Common.{◌≡◌, ℕ, Bool, true, List, [], Option, None, Some, codes, refl, ◌∙◌}
use Rattle.std.proofs.lemmas.Bool.{and_from}
use Rattle.std.specs.List.{list_all}
use Rattle.mx_json.specs.declared.value.Json.{Json, List as ListOf}
use Rattle.mx_json.specs.declared.value.JsonList.{JsonList}
use Rattle.mx_json.specs.Json.{is_valid}
use Rattle.mx_json.proofs.JsonLemmas.{is_valid-items, is_valid-member}
use Rattle.mx_rule.specs.declared.edit.Edit.TheVariants.{Put, Delete, Enable, SetActions}
use Rattle.mx_rule.specs.Editing.{given_items}
use Rattle.mx_records.specs.declared.input.Input.{Input}
use Rattle.mx_records.specs.declared.input.Input.TheVariants.{Event, Edit, Receipt, Pusher}
use Rattle.mx_records.specs.Normal.{Field, fields_given, normal_of, object_of, IsNormal}
use Rattle.mx_records.specs.Rules.{is_valid_input}
use Rattle.mx_records.proofs.GivenLemmas.{look, member-given}

-- a list that is given has valid items
valid_list : (key : List ℕ) (fields : List Field) (list : JsonList) → is_valid (object_of fields) ≡ true
    → look key fields ≡ Some (ListOf list) → list_all is_valid list.items ≡ true
valid_list key fields list valid is =
    is_valid-items list (is_valid-member key (object_of fields) (ListOf list) valid (member-given key fields ∙ is))

pub valid_input : (input : Input) → IsNormal input → is_valid_input input ≡ true
valid_input (Event event) normal = refl
valid_input (Edit user (Put kind id pattern None actions before after)) normal =
    valid_list (codes "actions")
    (fields_given (Edit user (Put kind id pattern None actions before after))) actions normal.valid refl
valid_input (Edit user (Put kind id pattern (Some conditions) actions before after)) normal =
    let fields = fields_given (Edit user (Put kind id pattern (Some conditions) actions before after)) in
    and_from _ _ (valid_list (codes "conditions") fields conditions normal.valid refl)
    (valid_list (codes "actions") fields actions normal.valid refl)
valid_input (Edit user (Delete kind id)) normal = refl
valid_input (Edit user (Enable kind id enabled)) normal = refl
valid_input (Edit user (SetActions kind id actions)) normal =
    valid_list (codes "actions") (fields_given (Edit user (SetActions kind id actions))) actions normal.valid refl
valid_input (Receipt user room id private thread) normal = refl
valid_input (Pusher spec) normal = refl
