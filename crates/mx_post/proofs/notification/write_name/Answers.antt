use Rattle.std.proofs.Common.{◌≡◌, ◌∙◌, ◌++◌, codes, ap}
use Rattle.std.proofs.lemmas.Result.{IfOk-weaker}
use Rattle.std.specs.Option.{option_copied}
use Rattle.mx_json.specs.Canonical.{canonical}
use Rattle.mx_json.specs.declared.value.Json.{Text}
use Rattle.mx_post.proofs.PieceLemmas.{name-told}
use Rattle.mx_post.proofs.notification.write_name.Goals as goal

pub returns-in-Some : goal.returns-in-Some
returns-in-Some c =
    let out = c.args.out.now.items in
    IfOk-weaker c.write_text.result
    (λ _. c.write_text.new.out.items
    ≡ out ++ (codes ",\"sender_display_name\":" ++ canonical (Text c.in-Some.name.now))) _
    (λ _ is. is ∙ ap (λ after. out ++ after)
    (name-told c.in-Some.name.now (option_copied c.args.name) (ap option_copied c.in-Some.is)))
    c.write_text.ensures
