use Rattle.std.proofs.Common.{◌∙◌, ◌++◌, pos, codes, ap, option_map}
use Rattle.std.specs.Option.{option_copied}
use Rattle.mx_json.specs.Canonical.{canonical}
use Rattle.mx_json.specs.declared.value.Json.{Text, Whole}
use Rattle.mx_post.specs.Pieces.{given_text}
use Rattle.mx_post.specs.Post.{details_sent, tweaks_value}
use Rattle.mx_post.proofs.PieceLemmas.{device-written}
use Rattle.mx_post.proofs.device.write_device.Goals as goal

pub returns : goal.returns
returns c =
    let out = c.args.out.now.items in
    let http = c.args.http.now in
    let tweaks = option_copied c.args.tweaks in
    let a =
    c.in_ok-write_text.ensures ∙ (λ j. out ++ (codes "{\"app_id\":" ++ canonical (Text (c.as_str.ensures j)))) in
    let b = c.in_ok-extend_from_slice.ensures.items ∙ (λ j. a j ++ codes ",\"data\":") in
    let d = c.in_ok-write_details.ensures ∙ (λ j. b j ++ canonical (details_sent http.details)) in
    let e =
    c.in_ok-write_text-2.ensures ∙ (λ j. d j ++ (codes ",\"pushkey\":" ++ canonical (Text (c.as_str-2.ensures j)))) in
    let f =
    c.in_ok-write_number.ensures ∙ (λ j. e j ++ (codes ",\"pushkey_ts\":" ++ canonical (Whole (pos http.ts)))) in
    let g =
    c.in_ok-write_tweaks_if_told.ensures ∙ (λ j. f j ++ given_text (codes "tweaks") (option_map tweaks_value tweaks)) in
    c.in_ok-push.ensures.items ∙ ap (λ text. text ++ codes "}") g
    ∙ device-written out c.args.spec.now http tweaks
