use Rattle.std.proofs.Common.{◌≡◌, suc, nat_le, map, drop}
use Rattle.mx_json.specs.Json.{depth_of, largest}
use Rattle.mx_json.proofs.JsonLemmas.{with_value}
use Rattle.mx_records.proofs.nesting.+within.Given as goal

abbrev pub invariant-list_nests_within-loop-item : goal.invariant-list_nests_within-loop-item
invariant-list_nests_within-loop-item l =
    nat_le (suc (largest (map depth_of l.list.items))) l.deepest
    ≡ nat_le (suc (largest (map depth_of (drop l.item-index l.list.items)))) l.deepest

abbrev pub invariant-object_nests_within-loop-member : goal.invariant-object_nests_within-loop-member
invariant-object_nests_within-loop-member l =
    nat_le (suc (largest (map (λ pair. pair.1) (map (with_value depth_of) l.object.pairs)))) l.deepest
    ≡ nat_le
    (suc (largest (map (λ pair. pair.1) (map (with_value depth_of) (drop l.member-index l.object.pairs))))) l.deepest
