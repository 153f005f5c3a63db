use Rattle.std.proofs.Common.{◌∙◌, ◌++◌, List, ℕ, Option, codes, ap, sym}
use Rattle.mx_json.specs.Canonical.{canonical}
use Rattle.mx_json.specs.declared.value.Json.{Text}
use Rattle.mx_post.specs.Post.{tweaks_value}
use Rattle.mx_post.proofs.PieceLemmas.{tweaks-with, tweaks-without}
use Rattle.mx_post.proofs.device.write_tweaks.Goals as goal

pub returns-in_ok-push-in-Some : goal.returns-in_ok-push-in-Some
returns-in_ok-push-in-Some c =
    let tweaks = c.args.tweaks.now in
    let out = c.args.out.now.items in
    c.in_ok-push-in-Some.ensures.items
    ∙ ap (λ text. text ++ codes "}")
    (c.in_ok-write_text-in-Some.ensures
    ∙ (λ j. out ++ (c.before_sound.ensures j ++ canonical (Text (c.as_str.ensures j)))))
    ∙ tweaks-with out tweaks.highlight c.in-Some.sound
    ∙ ap (λ (sound : Option (List ℕ)). out
    ++ canonical (tweaks_value record { highlight = tweaks.highlight; sound = sound }))
    (sym c.in-Some.is)

pub returns-in_ok-extend_from_slice-in-None : goal.returns-in_ok-extend_from_slice-in-None
returns-in_ok-extend_from_slice-in-None c =
    let tweaks = c.args.tweaks.now in
    let out = c.args.out.now.items in
    c.in_ok-extend_from_slice-in-None.ensures.items
    ∙ ap (λ text. out ++ text) (c.silent_text.ensures ∙ tweaks-without tweaks.highlight)
    ∙ ap (λ (sound : Option (List ℕ)). out
    ++ canonical (tweaks_value record { highlight = tweaks.highlight; sound = sound }))
    (sym c.in-None.is)
