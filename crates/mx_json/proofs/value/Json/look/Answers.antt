use Rattle.std.proofs.Common.{◌≡◌, ◌<◌, ◌∙◌, subst, length, get_or, arith}
use Rattle.mx_json.proofs.LookLemmas.{look_step}
use Rattle.mx_json.proofs.value.Json.look.Goals as goal

pub loop-segment-preserved : goal.loop-segment-preserved
loop-segment-preserved c =
    let path = c.args.path.now in
    let key = c.as_str.result.now in
    let here = c.loop-segment.here.now in
    let next = c.in_ok-here.here.now in
    let items : c.as_slice-segment-items.result.now ≡ path = c.as_slice-segment-items.ensures ∙ c.path.view_is in
    let within : c.loop-segment.segment-index < length path =
    subst (λ xs. c.loop-segment.segment-index < length xs) items (omega arith) in
    let is : key ≡ get_or path c.loop-segment.segment-index key = cc in (
      c.in_ok-here.ensures.valid,
      c.loop-segment.invariant.1
          ∙ look_step path c.loop-segment.segment-index key here next within is c.in_ok-here.ensures.found,
    )
