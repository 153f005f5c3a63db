use Rattle.std.proofs.Common.{refl}
use Rattle.mx_json.specs.declared.value.Json.{Object}
use Rattle.mx_json.specs.Json.{IsMemberAt}
use Rattle.mx_json.proofs.JsonLemmas.{is_valid-member_in}
use Rattle.mx_json.proofs.LookLemmas.{are_rising-valid, member_in_place}
use Rattle.mx_json.proofs.value.JsonObject.get.Goals as goal

pub place_of-requires : goal.place_of-requires
place_of-requires c =
    rw c.as_slice-pairs.ensures (are_rising-valid (Object c.args.self.now) c.args.self.now c.requires refl)

pub returns-clause-valid : goal.returns-clause-valid
returns-clause-valid c =
    let found : IsMemberAt c.args.key.now c.args.self.now.pairs c.in_ok-at.at =
    rw c.as_slice-pairs.ensures at c.in_ok-at.ensures in
    let here = rw c.as_slice-pairs.ensures at c.index-pairs-at.is in
    rw (← c.index-pairs-at.is)
    (is_valid-member_in _ c.args.self.now _ c.requires
    (member_in_place c.args.key.now _ _ c.index-pairs-at.result found here))
