use Rattle.std.proofs.Common.{◌≡◌, drop, take}
use Rattle.std.specs.List.{list_all}
use Rattle.mx_cond.specs.Condition.{is_condition}
use Rattle.mx_edit.proofs.criterion.read_each.Given as goal

abbrev pub invariant-loop-json : goal.invariant-loop-json
invariant-loop-json l = record {
  read : l.conditions ≡ take l.json-index l.given;
  so_far : list_all is_condition l.given ≡ list_all is_condition (drop l.json-index l.given);
}
