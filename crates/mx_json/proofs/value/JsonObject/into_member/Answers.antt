use Rattle.std.proofs.Common.{◌≡◌, Some, refl, rules}
use Rattle.mx_json.specs.declared.value.Json.{Object}
use Rattle.mx_json.specs.Json.{member_in}
use Rattle.mx_json.proofs.JsonLemmas.{is_valid-member_in}
use Rattle.mx_json.proofs.LookLemmas.{are_rising-valid}
use Rattle.mx_json.proofs.value.JsonObject.into_member.Goals as goal

pub place_of-requires : goal.place_of-requires
place_of-requires c = rw c.as_slice.ensures (are_rising-valid (Object c.args.self) c.args.self c.requires refl)

pub returns-clause-valid : goal.returns-clause-valid
returns-clause-valid c =
    let is : member_in c.args.key.now c.args.self.pairs ≡ Some c.remove-value.result.1 = search rules in
    is_valid-member_in _ c.args.self _ c.requires is
