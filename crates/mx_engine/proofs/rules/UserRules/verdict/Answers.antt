use Rattle.std.proofs.Common.{◌≡◌, List, ℕ, Bor, Option, Some, None, false, is_some, refl, sym, ap, ◌∙◌}
use Rattle.std.specs.Option.{option_copied}
use Rattle.mx_json.specs.Ids.{localpart_of}
use Rattle.mx_records.specs.Rules.{rules_among}
use Rattle.mx_engine.specs.KeptRules.{RulesView}
use Rattle.mx_engine.proofs.RulesLemmas.{rules_among-made, verdict-by, verdict-remote}
use Rattle.mx_engine.proofs.rules.UserRules.verdict.Goals as goal

none_copied : {A : Type 0} (o : Option (Bor A)) → is_some o ≡ false → is_some (option_copied o) ≡ false
none_copied None is = refl
none_copied (Some x) is = is

pub returns-then-is_none : goal.returns-then-is_none
returns-then-is_none c =
    let view = c.args.self.now in
    let remote : is_some (localpart_of view.server c.args.user.now) ≡ false =
    ap (λ (name : List ℕ). is_some (localpart_of name c.args.user.now))
    (sym (c.as_str-server.ensures.value ∙ ap (λ (view : RulesView). view.server) c.self.view_is))
    ∙ sym (ap is_some c.localpart_on.ensures)
    ∙ none_copied c.localpart_on.result c.if-is_none.ensures in
    verdict-remote view.server (rules_among view.server view.edited) c.args.view.now c.args.event.now c.args.user.now
    remote

pub returns : goal.returns
returns c =
    let view = c.args.self.now in
    let name = c.as_str-server.result.now in
    let named : name ≡ view.server
    = c.as_str-server.ensures.value ∙ ap (λ (view : RulesView). view.server) c.self.view_is in
    verdict-by view.server (rules_among view.server view.edited) c.args.view.now c.args.event.now c.args.user.now name
    c.in_ok-rules.rules c.judge-2.result named
    (rules_among-made view.server view.edited c.args.user.now name c.in_ok-rules.rules c.kept.result named
    c.in_ok-rules.ensures c.in_default.is c.kept.ensures)
    c.judge-2.ensures.exact
