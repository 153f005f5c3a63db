use Rattle.std.proofs.Common.{◌≡◌, [], length}
use Rattle.std.specs.Vec.Iter.{into_iter_items, into_iter_len}
use Rattle.serde_json.specs.View.{items_view, members_view}
use Rattle.mx_json.specs.Reading.{whole_items, whole_pairs}
use Rattle.mx_json.proofs.whole.+whole.Given as goal

abbrev pub invariant-whole_items-loop-item : goal.invariant-whole_items-loop-item
invariant-whole_items-loop-item l =
    (into_iter_len l.item-iterator ≡ length (into_iter_items l.item-iterator))
    × (whole_items [] (items_view l.fn.items.items) ≡ whole_items l.done (items_view (into_iter_items l.item-iterator)))

abbrev pub invariant-whole_pairs-loop-key : goal.invariant-whole_pairs-loop-key
invariant-whole_pairs-loop-key l =
    whole_pairs [] (members_view l.fn.members.entries) ≡ whole_pairs l.done (members_view l.key-iterator)
