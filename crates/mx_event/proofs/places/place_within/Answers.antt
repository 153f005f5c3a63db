use Rattle.std.proofs.Common.{sym, ◌∙◌}
use Rattle.mx_json.proofs.JsonLemmas.{is_valid-member}
use Rattle.mx_event.proofs.places.place_within.Goals as goal

pub place_in-requires : goal.place_in-requires
place_in-requires c =
    let found = sym (c.in_ok-member_placed.ensures ∙ c.requires.outer) in
    is_valid-member c.args.outer.now c.args.json.now c.in_ok-member_placed.field-0.now c.requires.valid found
