use Rattle.std.proofs.Common.{is_some, sym, ap, ◌∙◌}
use Rattle.mx_json.specs.Json.{member}
use Rattle.mx_json.proofs.LookLemmas.{are_rising-valid, is_some-place, member-Object}
use Rattle.mx_json.proofs.value.Json.place_of.Goals as goal

pub place_of-requires : goal.place_of-requires
place_of-requires c =
    rw c.as_slice.ensures (are_rising-valid c.args.self.now c.in-Object.object c.requires c.in-Object.is)

pub returns-in-Object-clause-exactly : goal.returns-in-Object-clause-exactly
returns-in-Object-clause-exactly c =
    let object = c.in-Object.object in
    let found = rw c.as_slice.ensures at c.place_of.ensures in
    is_some-place c.args.key.now object.pairs c.place_of.result found
    ∙ ap is_some (sym (ap (member c.args.key.now) c.in-Object.is ∙ member-Object c.args.key.now object))
