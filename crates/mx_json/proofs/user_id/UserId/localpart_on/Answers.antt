use Rattle.std.proofs.Common.{◌≡◌, true, false, sym, ◌∙◌}
use Rattle.mx_json.proofs.IdLemmas.{localpart_of-remote, localpart_of-local, localpart_of-other}
use Rattle.mx_json.specs.Ids.{is_localpart, local_user}
use Rattle.mx_json.proofs.user_id.UserId.localpart_on.Goals as goal

pub returns-in_err-part : goal.returns-in_err-part
returns-in_err-part c =
    rw c.from_residual.ensures (sym (localpart_of-remote c.args.server.now c.args.self.now
    (λ part is. c.in_err-part.ensures part (c.as_str.ensures.value ∙ (c.self.view_is ∙ is)))))

pub returns-then-is_localpart : goal.returns-then-is_localpart
returns-then-is_localpart c =
    let part = c.in_ok-part.part.now in
    let is : c.args.self.now ≡ local_user c.args.server.now part =
    sym c.self.view_is ∙ (sym c.as_str.ensures.value ∙ c.in_ok-part.ensures) in
    let holds : is_localpart part ≡ true = cc in
    sym (localpart_of-local c.args.server.now c.args.self.now part is holds)

pub returns-else-is_localpart : goal.returns-else-is_localpart
returns-else-is_localpart c =
    let part = c.in_ok-part.part.now in
    let is : c.args.self.now ≡ local_user c.args.server.now part =
    sym c.self.view_is ∙ (sym c.as_str.ensures.value ∙ c.in_ok-part.ensures) in
    let fails : is_localpart part ≡ false = cc in
    sym (localpart_of-other c.args.server.now c.args.self.now part is fails)
