use Rattle.std.proofs.Common.{◌≡◌, true, drop}
use Rattle.mx_json.specs.Json.{is_valid}
use Rattle.mx_json.specs.Path.{look}
use Rattle.mx_json.proofs.value.Json.look.Given as goal

abbrev pub invariant-loop-segment : goal.invariant-loop-segment
invariant-loop-segment l = (is_valid l.here ≡ true) × (look l.path l.self ≡ look (drop l.segment-index l.path) l.here)
