use Rattle.std.proofs.Common.{◌∙◌, ◌++◌, Some, codes, ap, option_map}
use Rattle.mx_json.specs.Canonical.{canonical}
use Rattle.mx_json.specs.declared.value.Json.{Text}
use Rattle.mx_event.specs.Event.{content_of, kind_of}
use Rattle.mx_post.specs.Pieces.{given_text}
use Rattle.mx_post.specs.Post.{counts_value, devices_value, target_told}
use Rattle.mx_post.proofs.PieceLemmas.{event-written, origin_text}
use Rattle.mx_post.proofs.notification.write_event.Goals as goal

pub returns : goal.returns
returns c =
    let out = c.args.out.now.items in
    let spec = c.args.spec.now in
    let http = c.args.http.now in
    let tweaks = c.args.tweaks.now in
    let event = c.event-event.ensures in
    let content = c.content.ensures.content ∙ ap content_of event in
    let kind = c.kind.ensures ∙ ap kind_of event in
    let a = c.in_ok-write_value.ensures ∙ (λ j. out ++ (codes "{\"content\":" ++ canonical (content j))) in
    let b =
    c.in_ok-write_counts.ensures ∙ (λ j. a j ++ (codes ",\"counts\":" ++ canonical (counts_value c.args.unread))) in
    let d = c.in_ok-write_devices.ensures
    ∙ (λ j. b j ++ (codes ",\"devices\":" ++ canonical (devices_value spec http (Some tweaks)))) in
    let e = c.in_ok-write_origin.ensures ∙ (λ j. d j ++ origin_text (event j) (c.prio_of.ensures j)) in
    let f = c.in_ok-write_name.ensures
    ∙ (λ j. e j ++ given_text (codes "sender_display_name") (option_map Text (c.sender_display_name.ensures j))) in
    let g = c.in_ok-write_text.ensures ∙ (λ j. f j ++ (codes ",\"type\":" ++ canonical (Text (kind j)))) in
    let h = c.in_ok-write_target.ensures
    ∙ (λ j. g j ++ given_text (codes "user_is_target") (target_told spec.user (event j))) in
    c.in_ok-push.ensures.items ∙ ap (λ text. text ++ codes "}") h
    ∙ event-written out spec http c.args.pending.now tweaks c.args.unread
