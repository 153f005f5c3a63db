-- The member at a place: ours.
use Rattle.std.specs.Prelude.{ℕ, Option, option_and_then}
use Rattle.mx_json.specs.declared.value.Json.{Json}
use Rattle.mx_json.specs.Json.{member_at}

-- the member at a place that may be none; for private clauses
abbrev pub member_placed : Option ℕ → Json → Option Json
member_placed place json = option_and_then (λ at. member_at at json) place
