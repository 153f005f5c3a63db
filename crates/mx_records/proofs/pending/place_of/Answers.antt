use Rattle.std.proofs.Common.{◌≡◌, [], false, None, rules}
use Rattle.std.proofs.lemmas.Fn.{always_returns_same}
use Rattle.mx_records.proofs.PendingLemmas.{order_to, place_from_search}
use Rattle.mx_records.proofs.pending.place_of.Goals as goal

pub returns : goal.returns
returns c =
    let user = c.args.user.now in
    let found = c.binary_search_by.ensures.position (order_to user)
    (always_returns_same _ (λ a r. r ≡ order_to user a.0.now) _ (λ a r f' k. search rules)) in
    place_from_search user c.args.users.now ([], record { highlight = false; sound = None }) c.binary_search_by.result
    c.requires c.binary_search_by.ensures.bound found
