use Rattle.std.proofs.Common.{◌≡◌, ◌∙◌, false, true, sym, ap}
use Rattle.mx_json.specs.Ids.{is_local}
use Rattle.mx_records.specs.declared.refusal.Refusal.TheVariants.{NotLocal}
use Rattle.mx_lines.specs.declared.command.Denial.TheVariants.{Input}
use Rattle.push_server.proofs.AdmissionLemmas.{admission_by-local, admission_by-remote, answered_as, answered_denied}
use Rattle.push_server.proofs.AdmissionLemmas.{answered_question}
use Rattle.push_server.proofs.answer.reply_about.Goals as goal

pub returns-then-not-is_local : goal.returns-then-not-is_local
returns-then-not-is_local c h is =
    let server = c.args.engine.now.server in
    let remote : is_local server c.args.user.now ≡ false =
    sym (c.if-not-is_local.ensures ∙ ap (λ name. is_local name c.args.user.now) c.server-server.ensures) in
    answered_as _ server h _ _ _ _ _ (admission_by-remote server h c.args.command.now c.args.user.now c.requires remote)
    (answered_denied _ server h (Input NotLocal) _ _ _ is c.denied_into.ensures.text)

pub returns : goal.returns
returns c h is =
    let server = c.args.engine.now.server in
    let local : is_local server c.args.user.now ≡ true =
    sym (c.if-not-is_local.ensures ∙ ap (λ name. is_local name c.args.user.now) c.server-server.ensures) in
    answered_as _ server h _ _ _ _ _ (admission_by-local server h c.args.command.now c.args.user.now c.requires local)
    (answered_question _ server h c.args.command.now c.args.user.now _ _ _ c.requires is
    (c.reply_into.ensures.text h is.is))
