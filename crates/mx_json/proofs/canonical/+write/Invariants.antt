use Rattle.std.proofs.Common.{◌≡◌, ◌++◌, drop}
use Rattle.mx_json.specs.Tokens.{items_left, pairs_left}
use Rattle.mx_json.proofs.canonical.+write.Given as goal

abbrev pub invariant-write_list-loop-item : goal.invariant-write_list-loop-item
invariant-write_list-loop-item l = record {
  before : l.writer.before ≡ l.initial.writer.before;
  tokens : l.writer.tokens ++ items_left (drop l.item-index l.item-items)
      ≡ l.initial.writer.tokens ++ items_left l.item-items;
}

abbrev pub invariant-write_object-loop-key : goal.invariant-write_object-loop-key
invariant-write_object-loop-key l = record {
  before : l.writer.before ≡ l.initial.writer.before;
  tokens : l.writer.tokens ++ pairs_left (drop l.key-index l.key-items)
      ≡ l.initial.writer.tokens ++ pairs_left l.key-items;
}
