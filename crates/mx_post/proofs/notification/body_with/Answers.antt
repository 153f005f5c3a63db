use Rattle.std.proofs.Common.{◌∙◌, ◌++◌, codes, ap}
use Rattle.mx_json.specs.Canonical.{canonical}
use Rattle.mx_post.specs.Post.{notification_value}
use Rattle.mx_post.proofs.PieceLemmas.{body-written}
use Rattle.mx_post.proofs.notification.body_with.Goals as goal

pub returns : goal.returns
returns c =
    let spec = c.args.spec.now in
    let http = c.args.http.now in
    let pending = c.args.pending.now in
    let tweaks = c.args.tweaks.now in
    let a = c.in_ok-extend_from_slice.ensures.items ∙ (λ j. c.new-body.ensures.items j ++ codes "{\"notification\":") in
    let b = c.in_ok-write_notification.ensures
    ∙ (λ j. a j ++ canonical (notification_value spec http pending tweaks c.args.unread)) in
    c.in_ok-push.ensures.items ∙ ap (λ text. text ++ codes "}") b
    ∙ body-written spec http pending tweaks c.args.unread
