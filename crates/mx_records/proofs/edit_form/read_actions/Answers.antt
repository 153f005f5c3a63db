use Rattle.std.proofs.Common.{ap, ◌∙◌}
use Rattle.std.specs.List.{list_all}
use Rattle.mx_json.specs.Json.{is_valid}
use Rattle.mx_json.specs.declared.value.JsonList.{JsonList}
use Rattle.mx_json.proofs.JsonLemmas.{is_valid-items}
use Rattle.mx_records.proofs.edit_form.read_actions.Goals as goal

pub returns-clause-valid : goal.returns-clause-valid
returns-clause-valid c =
    ap (λ (list : JsonList). list_all is_valid list.items) c.in_ok-copied.ensures
    ∙ is_valid-items c.in-Some.actions.now c.in-Some.ensures.valid
