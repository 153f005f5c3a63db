use Rattle.std.proofs.Common.{Ok, sym, subst}
use Rattle.mx_lines.specs.declared.command.Denial.TheVariants.{Line}
use Rattle.mx_records.specs.History.{History}
use Rattle.push_server.specs.Crash.{MovesTo}
use Rattle.push_server.proofs.AdmissionLemmas.{admission_of-read, after-read, answered_as, answered_denied}
use Rattle.push_server.proofs.CrashLemmas.{MovesTo-same}
use Rattle.push_server.proofs.answer.answer_line.Goals as goal

pub returns-in-Ok-clause-answered : goal.returns-in-Ok-clause-answered
returns-in-Ok-clause-answered g c h is =
    let server = c.args.store.now.server in
    answered_as _ server h _ _ _ _ _
    (admission_of-read server h c.args.line.now _ c.requires.short c.in-Ok.ensures.command)
    (c.follow.ensures.answered h is)

pub returns-in-Ok-clause-moves : goal.returns-in-Ok-clause-moves
returns-in-Ok-clause-moves g c h keeps =
    let disk = g.D.Disk in
    let server = c.args.store.now.server in
    subst
    (λ (next : History). MovesTo c.follow.result disk.seen disk.may_leave disk.moment disk.left_since c.args.store.now
    c.follow.new.store h next)
    (sym (after-read server h c.args.line.now _ c.requires.short c.in-Ok.ensures.command))
    (c.follow.ensures.moves h keeps)

pub returns-in_ok-denied_into-in-Err-Refused-clause-answered :
    goal.returns-in_ok-denied_into-in-Err-Refused-clause-answered
returns-in_ok-denied_into-in-Err-Refused-clause-answered g c h is =
    let server = c.args.store.now.server in
    let command = rw c.in-Err-Refused.field-0-is at c.in-Err-Refused.ensures.command in
    answered_as {T = Unit {0}} {E = Unit {0}} (Ok tt) server h _ _ _ _ _
    (admission_of-read server h c.args.line.now _ c.requires.short command)
    (answered_denied {T = Unit {0}} {E = Unit {0}} (Ok tt) server h (Line c.in-Err-Refused.refusal) _ _ _ is
    (rw c.in-Err-Refused.refusal-is at c.in_ok-denied_into-in-Err-Refused.ensures.text))

pub returns-in_ok-denied_into-in-Err-Refused-clause-moves : goal.returns-in_ok-denied_into-in-Err-Refused-clause-moves
returns-in_ok-denied_into-in-Err-Refused-clause-moves g c h keeps =
    let disk = g.D.Disk in
    let server = c.args.store.now.server in
    let command = rw c.in-Err-Refused.field-0-is at c.in-Err-Refused.ensures.command in
    MovesTo-same _ disk.seen disk.may_leave disk.moment disk.left_since g.met.D.Disk.only_now c.args.store.now h _
    (after-read server h c.args.line.now _ c.requires.short command) keeps
