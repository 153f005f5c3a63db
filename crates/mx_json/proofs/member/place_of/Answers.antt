use Rattle.std.proofs.Common.{◌≡◌, [], rules}
use Rattle.std.proofs.lemmas.Fn.{always_returns_same}
use Rattle.mx_json.specs.declared.value.Json.{Null}
use Rattle.mx_json.proofs.RisingLemmas.{order_to, place_from_search}
use Rattle.mx_json.proofs.member.place_of.Goals as goal

pub returns : goal.returns
returns c =
    let key = c.args.key.now in
    let found = c.binary_search_by.ensures.position (order_to key)
    (always_returns_same _ (λ a r. r ≡ order_to key a.0.now) _ (λ a r f' k. search rules)) in
    rw c.ok.ensures.value (place_from_search key c.args.pairs.now (
      [],
      Null,
    ) c.binary_search_by.result c.requires c.binary_search_by.ensures.bound found)
