use Rattle.std.proofs.Common.{◌∙◌, sym, subst}
use Rattle.mx_rule.specs.Judged.{IsVerdict}
use Rattle.mx_rule.specs.Ruleset.{flat}
use Rattle.mx_rule.proofs.JudgedLemmas.{judged-none, judged-some}
use Rattle.mx_cond.specs.Facts.{EventFacts}
use Rattle.mx_room.specs.Facts.{facts_of}
use Rattle.mx_room.specs.Members.{membership_at}
use Rattle.mx_judge.proofs.judging.judge.Goals as goal

pub returns-then-not-is_judged-clause-exact : goal.returns-then-not-is_judged-clause-exact
returns-then-not-is_judged-clause-exact c =
    let membership = membership_at c.args.view.now c.args.owner.now in
    let facts = facts_of c.args.event.now c.args.owner.now c.args.view.now in
    judged-none c.args.server.now c.args.owner.now membership c.args.rules.now facts
    (sym c.is_judged.ensures ∙ c.if-not-is_judged.true)

pub returns-clause-exact : goal.returns-clause-exact
returns-clause-exact c =
    let membership = membership_at c.args.view.now c.args.owner.now in
    let facts = facts_of c.args.event.now c.args.owner.now c.args.view.now in
    let verdict = c.in_ok-verdict.verdict in
    let IsSaid : EventFacts → Type 0 = λ told. IsVerdict told (flat c.args.rules.now) verdict in
    judged-some c.args.server.now c.args.owner.now membership c.args.rules.now facts verdict
    (sym c.is_judged.ensures ∙ c.if-not-is_judged.false)
    (subst IsSaid c.facts_of-facts.ensures c.in_ok-verdict.ensures)
