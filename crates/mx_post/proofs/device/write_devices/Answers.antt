use Rattle.std.proofs.Common.{◌∙◌, ◌++◌, codes, ap}
use Rattle.std.specs.Option.{option_copied}
use Rattle.mx_json.specs.Canonical.{canonical}
use Rattle.mx_post.specs.Post.{device_value}
use Rattle.mx_post.proofs.PieceLemmas.{devices-written}
use Rattle.mx_post.proofs.device.write_devices.Goals as goal

pub returns : goal.returns
returns c =
    let tweaks = option_copied c.args.tweaks in
    let a = c.in_ok-extend_from_slice.ensures.items in
    let b =
    c.in_ok-write_device.ensures ∙ (λ j. a j ++ canonical (device_value c.args.spec.now c.args.http.now tweaks)) in
    c.in_ok-push.ensures.items ∙ ap (λ text. text ++ codes "]") b
    ∙ devices-written c.args.out.now.items c.args.spec.now c.args.http.now tweaks
