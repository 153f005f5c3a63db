use Rattle.std.proofs.Common.{◌≡◌, true, ap, subst, ◌∙◌}
use Rattle.std.specs.List.{list_all}
use Rattle.mx_json.specs.Json.{is_valid}
use Rattle.mx_json.specs.declared.value.Json.{Json}
use Rattle.mx_json.specs.declared.value.JsonList.{JsonList}
use Rattle.mx_json.proofs.JsonLemmas.{is_valid-items}
use Rattle.mx_records.proofs.edit_form.list_or_none.Goals as goal

pub returns-in_ok-copied-in-Some-List-clause-valid :
    goal.returns-in_ok-copied-in-Some-List-clause-valid
returns-in_ok-copied-in-Some-List-clause-valid c =
    ap (λ (list : JsonList). list_all is_valid list.items)
    (c.in_ok-copied-in-Some-List.ensures ∙ c.in-Some-List.list-is)
    ∙ is_valid-items c.in-Some-List.list
    (subst (λ (json : Json). is_valid json ≡ true) c.in-Some-List.field-0-is c.in-Some-List.ensures.valid)
