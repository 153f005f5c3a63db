use Rattle.std.proofs.Common.{◌∙◌, ◌++◌, ℕ, List, true, codes, ap}
use Rattle.std.specs.List.{list_all}
use Rattle.mx_json.specs.declared.value.Json.{Json}
use Rattle.mx_json.specs.Json.{is_valid}
use Rattle.mx_json.proofs.JsonLemmas.{is_valid-values}
use Rattle.mx_post.specs.Pieces.{sent_text}
use Rattle.mx_post.proofs.PieceLemmas.{details-written}
use Rattle.mx_post.proofs.details.write_details.Goals as goal

pub write_sent-requires : goal.write_sent-requires
write_sent-requires c =
    ap (λ (pairs : List (List ℕ × Json)). list_all (λ pair. is_valid pair.1) pairs) c.as_slice.ensures
    ∙ is_valid-values c.args.details.now c.requires

pub returns : goal.returns
returns c =
    let a = c.in_ok-push.ensures.items in
    let b = c.in_ok-write_sent.ensures ∙ (λ j. a j ++ sent_text true (c.as_slice.ensures j)) in
    c.in_ok-push-2.ensures.items ∙ ap (λ text. text ++ codes "}") b
    ∙ details-written c.args.out.now.items c.args.details.now
