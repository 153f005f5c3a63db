use Rattle.std.proofs.Common.{◌≡◌, take}
use Rattle.mx_json.proofs.value.+copied.Given as goal

abbrev pub invariant-JsonList::copied-loop-item : goal.invariant-JsonList::copied-loop-item
invariant-JsonList::copied-loop-item l = l.items ≡ take l.item-index l.item-items

abbrev pub invariant-JsonObject::copied-loop-key : goal.invariant-JsonObject::copied-loop-key
invariant-JsonObject::copied-loop-key l = l.pairs ≡ take l.key-index l.key-items
