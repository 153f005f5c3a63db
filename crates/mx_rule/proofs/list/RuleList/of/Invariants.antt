use Rattle.std.proofs.Common.{◌≡◌, ◌++◌, map, string_bytes}
use Rattle.std.specs.Vec.Iter.{into_iter_items}
use Rattle.indexmap.specs.IndexMap.{keys, values}
use Rattle.mx_rule.specs.Ruleset.{ids_of}
use Rattle.mx_rule.proofs.list.RuleList.of.Given as goal

abbrev pub invariant-loop-rule : goal.invariant-loop-rule
invariant-loop-rule l = record {
  ids : map string_bytes (keys l.by_id) ≡ ids_of (values l.by_id);
  rules : values l.by_id ++ into_iter_items l.rule-iterator ≡ l.fn.rules.items;
}
