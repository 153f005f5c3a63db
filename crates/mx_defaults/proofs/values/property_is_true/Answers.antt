use Rattle.std.proofs.Common.{◌∙◌, true, [], ◌∷◌, ◌++◌, ap, codes}
use Rattle.mx_json.specs.declared.value.Json.{Truth, Object}
use Rattle.mx_defaults.proofs.values.property_is_true.Goals as goal

pub returns : goal.returns
returns c =
    let pairs = c.in_ok-with.ensures
    ∙ ap (λ pairs. pairs ++ (codes "value", Truth true) ∷ []) c.in_ok-object.ensures in
    λ j. Object record { pairs = pairs j }
