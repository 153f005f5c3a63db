use Rattle.std.proofs.Common.{◌++◌, rules, ap, ◌∙◌}
use Rattle.std.proofs.lemmas.Result.{on_ok_weaker}
use Rattle.std.proofs.lemmas.Iterator.{YieldsList-from_map}
use Rattle.std.proofs.lemmas.Iterator.Adapters.{YieldsList-from_bytes, items_from_extend}
use Rattle.std.specs.Char.{to_ascii_lowercase}
use Rattle.mx_json.proofs.FoldedLemmas.{folded-ascii}
use Rattle.mx_json.proofs.folded.push_lowered.Goals as goal

pub returns : goal.returns
returns c =
    let text = c.args.text.now in
    let h = items_from_extend c.extend.result c.extend.ensures.ran
    (YieldsList-from_map _ to_ascii_lowercase (YieldsList-from_bytes text cc) c.map.ensures.closure
    (λ x r q k. search rules)) in
    let lowered = ap (λ s. c.args.characters.now.items ++ s) (folded-ascii text c.requires) in
    on_ok_weaker c.extend.result (λ e. e.0 ∙ lowered) h
