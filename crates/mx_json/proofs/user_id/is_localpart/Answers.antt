use Rattle.std.proofs.Common.{◌≡◌, true, length, nat_lt, arith, rules, tests, sym}
use Rattle.std.proofs.lemmas.Bool.{lt-ltb, eqb-false}
use Rattle.std.proofs.lemmas.Iterator.Search.{all_from_yields_List}
use Rattle.std.proofs.lemmas.Iterator.Adapters.{YieldsList-from_bytes}
use Rattle.std.specs.List.{list_all}
use Rattle.mx_json.specs.Ids.{is_localpart_byte}
use Rattle.mx_json.proofs.user_id.is_localpart.Goals as goal

pub returns-then-not-is_empty : goal.returns-then-not-is_empty
returns-then-not-is_empty c =
    let bytes = c.args.part.now in
    let each : c.all.result ≡ list_all is_localpart_byte bytes = all_from_yields_List is_localpart_byte _ _ c.all.result
    c.all.ensures.ran (YieldsList-from_bytes bytes cc) (λ x b q k. search (rules, tests)) in
    let some : nat_lt 0 (length bytes) ≡ true =
    lt-ltb 0 (length bytes) (omega (arith, eqb-false (length bytes) 0 (sym c.if-not-is_empty.ensures))) in
    rw (some, each)
