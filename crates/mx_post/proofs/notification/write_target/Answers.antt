use Rattle.std.proofs.Common.{◌≡◌, ◌∙◌, ◌++◌, List, ℕ, codes, ap, rules}
use Rattle.std.proofs.lemmas.Result.{IfOk-weaker}
use Rattle.std.specs.Str.{bytes_eq}
use Rattle.mx_json.specs.Canonical.{canonical}
use Rattle.mx_json.specs.declared.value.Json.{Truth}
use Rattle.mx_post.proofs.PieceLemmas.{target-written}
use Rattle.mx_post.proofs.notification.write_target.Goals as goal

pub returns-in-Some : goal.returns-in-Some
returns-in-Some c =
    let user = c.args.user.now in
    let told : List ℕ × List ℕ = (c.in-Some.member.now, c.in-Some.field-0-1.now) in
    let same : c.eq.result ≡ bytes_eq told.0 user = search rules in
    IfOk-weaker c.write_truth.result
    (λ _. c.write_truth.new.out.items
    ≡ c.args.out.now.items ++ (codes ",\"user_is_target\":" ++ canonical (Truth c.eq.result))) _
    (λ _ is. is ∙ ap (λ text. c.args.out.now.items ++ text)
    (target-written user c.args.event.now told c.eq.result c.in-Some.ensures same))
    c.write_truth.ensures
