use Rattle.std.proofs.Common.{[], ◌∷◌, ◌++◌, sym, ap, ◌∙◌, arith}
use Rattle.mx_records.specs.Judging.{notice_in}
use Rattle.mx_records.specs.Rules.{rules_among}
use Rattle.mx_engine.specs.Noticing.{said_of}
use Rattle.mx_engine.proofs.NoticingLemmas.{said-more}
use Rattle.mx_engine.proofs.judging.notified_among.Goals as goal

pub loop-user-preserved : goal.loop-user-preserved
loop-user-preserved c =
    let rules = rules_among c.args.rules.now.server c.args.rules.now.edited in
    let said = notice_in c.args.rules.now.server rules c.args.view.now c.args.event.now in
    c.in_ok-note.ensures
    ∙ ap (λ before. before ++ said_of said (c.user-item.result ∷ [])) c.loop-user.invariant
    ∙ said-more said c.args.members.now c.loop-user.user-index c.user-item.result (omega arith) (sym c.user-item.is)
