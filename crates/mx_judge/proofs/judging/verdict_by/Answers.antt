use Rattle.std.proofs.Common.{◌≡◌, subst, sym}
use Rattle.std.proofs.lemmas.Result.{IfOk-weaker}
use Rattle.mx_cond.specs.Facts.{told_by}
use Rattle.mx_rule.specs.Actions.{no_notification, verdict_of}
use Rattle.mx_rule.specs.Judged.{IsVerdict}
use Rattle.mx_rule.specs.Ruleset.{flat, IsFirstMatch}
use Rattle.mx_judge.proofs.VerdictLemmas.{IsVerdict-found, IsVerdict-none, found-there, in_place-flat}
use Rattle.mx_judge.proofs.judging.verdict_by.Goals as goal

pub returns-in_default : goal.returns-in_default
returns-in_default c =
    let facts = told_by c.args.facts.now in
    let rules = flat c.args.rules.now in
    let none = subst (IsFirstMatch facts rules) c.in_default.is c.in_ok-place.ensures in
    IfOk-weaker c.by.result (λ verdict. verdict ≡ no_notification) (IsVerdict facts rules)
    (λ verdict is. subst (IsVerdict facts rules) (sym is) (IsVerdict-none facts rules none))
    c.by.ensures

pub unreachable-requires : goal.unreachable-requires
unreachable-requires c =
    let facts = told_by c.args.facts.now in
    let rules = flat c.args.rules.now in
    let found = subst (IsFirstMatch facts rules) c.in-Some.is c.in_ok-place.ensures in
    found-there facts c.args.rules.now c.in-Some.place rules (in_place-flat c.args.rules.now) c.in-None.ensures found

pub returns : goal.returns
returns c =
    let facts = told_by c.args.facts.now in
    let rules = flat c.args.rules.now in
    let rule = c.in-Some-rule_at.rule.now in
    let found = subst (IsFirstMatch facts rules) c.in-Some.is c.in_ok-place.ensures in
    let decides =
    IsVerdict-found facts c.args.rules.now c.in-Some.place rule rules (in_place-flat c.args.rules.now)
    c.in-Some-rule_at.ensures found in
    IfOk-weaker c.verdict.result (λ verdict. verdict ≡ verdict_of rule.actions) (IsVerdict facts rules)
    (λ verdict is. subst (IsVerdict facts rules) (sym is) decides)
    c.verdict.ensures
