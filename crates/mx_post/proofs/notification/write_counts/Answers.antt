use Rattle.std.proofs.Common.{◌∙◌, ◌++◌, pos, codes, ap}
use Rattle.mx_json.specs.Canonical.{canonical}
use Rattle.mx_json.specs.declared.value.Json.{Whole}
use Rattle.mx_post.proofs.PieceLemmas.{counts-written}
use Rattle.mx_post.proofs.notification.write_counts.Goals as goal

pub returns : goal.returns
returns c =
    c.in_ok-push.ensures.items
    ∙ ap (λ text. text ++ codes "}")
    (c.in_ok-write_number.ensures
    ∙ ap (λ text. text ++ (codes "{\"unread\":" ++ canonical (Whole (pos c.args.unread))))
    c.in_ok-extend_from_slice.ensures.items)
    ∙ counts-written c.args.out.now.items c.args.before.now c.args.unread
