use Rattle.std.proofs.Common.{◌≡◌, true, is_some, IsSome, refl, subst, sym, ap, ◌∙◌}
use Rattle.std.specs.FinMap.{insert}
use Rattle.std.specs.FinSet as set
use Rattle.std.specs.Map.{lookup}
use Rattle.std.specs.Str.{bytes_eq}
use Rattle.std.specs.String.{string_bytes}
use Rattle.std.proofs.lemmas.Bool.{false≢true}
use Rattle.mx_edit.specs.Planning.{is_made_for, planned}
use Rattle.mx_rule.specs.Ruleset.{PushRuleset}
use Rattle.mx_records.specs.Rules.{rules_among}
use Rattle.mx_engine.specs.KeptRules.{RulesView, edited_in}
use Rattle.mx_engine.proofs.RulesLemmas.{contains-users_in, edited-edited, rules_among-found}
use Rattle.mx_engine.proofs.rules.UserRules.apply.Goals as goal

pub apply-requires : goal.apply-requires
apply-requires c =
    ap (λ (rules : PushRuleset). is_made_for rules c.args.plan)
    (sym (rules_among-found (string_bytes c.self.inside.server) c.self.inside.kept.entries c.args.user.now
    c.in-Some.kept.now c.self.invariant (sym c.in-Some.ensures.value))
    ∙ ap (λ (view : RulesView). rules_among view.server view.edited c.args.user.now) c.self.view_is)
    ∙ c.requires.made_for

pub unreachable-requires : goal.unreachable-requires
unreachable-requires c =
    let there : is_some (lookup (bytes_eq c.args.user.now) c.self.inside.kept.entries) ≡ true
    = sym (contains-users_in c.self.inside.kept.entries c.args.user.now)
    ∙ ap (λ (view : RulesView). set.contains view.capacity c.args.user.now) c.self.view_is ∙ c.requires.capacity in
    false≢true (ap is_some c.in-None.ensures.value ∙ there)

pub returns-clause-edited : goal.returns-clause-edited
returns-clause-edited c =
    let server = string_bytes c.self.inside.server in
    let old = c.self.inside.kept.entries in
    let was = c.in-Some.kept.now in
    let now = c.apply.new.self in
    let written = c.get_mut.follows.holds now in
    let user = c.args.user.now in
    edited-edited old (c.get_mut.follows.lender now).entries user now
    (written.3 (subst IsSome c.in-Some.ensures.value refl)).0 server (planned c.args.plan was.rules) c.self.invariant
    written.4 c.apply.ensures.rules c.apply.ensures.edited
    ∙ ap (λ (rules : PushRuleset). insert (edited_in old) user (planned c.args.plan rules))
    (sym (rules_among-found server old user was c.self.invariant (sym c.in-Some.ensures.value)))
    ∙ ap (λ (view : RulesView).
    insert view.edited user (planned c.args.plan (rules_among view.server view.edited user))) c.self.view_is
