use Rattle.std.proofs.Common.{◌≡◌, ◌∙◌, ◌++◌, codes, ap, append_assoc}
use Rattle.std.proofs.lemmas.Result.{IfOk-weaker}
use Rattle.std.specs.Option.{option_copied}
use Rattle.mx_json.specs.Canonical.{canonical}
use Rattle.mx_post.specs.Post.{tweaks_value}
use Rattle.mx_post.proofs.PieceLemmas.{tweaks-told}
use Rattle.mx_post.proofs.device.write_tweaks_if_told.Goals as goal

pub returns-in_ok-extend_from_slice-in-Some : goal.returns-in_ok-extend_from_slice-in-Some
returns-in_ok-extend_from_slice-in-Some c =
    let out = c.args.out.now.items in
    let text = canonical (tweaks_value c.in-Some.tweaks.now) in
    IfOk-weaker c.write_tweaks.result
    (λ _. c.write_tweaks.new.out.items ≡ c.extend_from_slice.new.self.items ++ text) _
    (λ _ is.
    is ∙ ap (λ before. before ++ text) c.in_ok-extend_from_slice-in-Some.ensures.items
    ∙ append_assoc out (codes ",\"tweaks\":") text
    ∙ ap (λ after. out ++ after)
    (tweaks-told c.in-Some.tweaks.now (option_copied c.args.tweaks) (ap option_copied c.in-Some.is)))
    c.write_tweaks.ensures
