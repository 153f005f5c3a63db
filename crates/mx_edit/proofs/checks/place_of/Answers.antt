use Rattle.std.proofs.Common.{◌≡◌, ◌∙◌, true, false, is_some, refl, ap, sym}
use Rattle.mx_rule.specs.Editing.{has_id, has_rule}
use Rattle.mx_rule.specs.Ruleset.{rules_of_kind}
use Rattle.mx_rule.proofs.ChangeLemmas.{is_some-position}
use Rattle.mx_edit.proofs.checks.place_of.Goals as goal

pub returns-in-Some : goal.returns-in-Some
returns-in-Some c =
    let id = c.args.id.now in
    let list = rules_of_kind c.args.kind c.args.rules.now in
    let at = sym c.in-Some.ensures.place in
    let there : has_rule id list ≡ true = is_some-position (has_id id) list ∙ ap is_some at in
    (rw there refl, at, c.in-Some.ensures.ordered)

pub returns-in-None : goal.returns-in-None
returns-in-None c =
    let id = c.args.id.now in
    let list = rules_of_kind c.args.kind c.args.rules.now in
    let at = sym c.in-None.ensures.place in
    let there : has_rule id list ≡ false = is_some-position (has_id id) list ∙ ap is_some at in
    rw there refl
