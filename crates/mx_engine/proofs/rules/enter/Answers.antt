use Rattle.std.proofs.Common.{◌≡◌, ℕ, List, false, Some, None, cond, refl, sym, subst, ◌∙◌}
use Rattle.std.specs.Map.{lookup}
use Rattle.std.specs.Str.{bytes_eq}
use Rattle.mx_engine.specs.declared.rules.KeptRules.{KeptRules}
use Rattle.mx_engine.specs.KeptRules.{KeepsRules, RulesByUser}
use Rattle.mx_engine.proofs.RulesLemmas.{contains-users_in, keeps-entered, keeps-same, none_from, user-there}
use Rattle.mx_engine.proofs.rules.enter.Goals as goal

pub returns-then-contains_key-clause-entered : goal.returns-then-contains_key-clause-entered
returns-then-contains_key-clause-entered c =
    contains-users_in c.args.kept.now.entries c.args.user.now ∙ sym c.contains_key.ensures ∙ c.if-contains_key.true

pub returns-in_err-insert-clause-keeps : goal.returns-in_err-insert-clause-keeps
returns-in_err-insert-clause-keeps c = λ are.
    subst (λ (new : RulesByUser). KeepsRules c.args.server.now c.args.kept.now.entries new)
    (sym c.in_err-insert.ensures.err) (keeps-same c.args.server.now c.args.kept.now.entries are)

pub returns-clause-keeps : goal.returns-clause-keeps
returns-clause-keeps c = λ are.
    let old = c.args.kept.now.entries in
    let new = c.insert.new.self.entries in
    let made : KeptRules = record { rules = c.in_ok-rules.rules; edited = false } in
    let absent : lookup (bytes_eq c.args.user.now) old ≡ None
    = none_from _ (sym c.contains_key.ensures ∙ c.if-contains_key.false) in
    let updated = subst
    (λ (key : List ℕ). (q : List ℕ) → lookup (bytes_eq q) new ≡ cond (bytes_eq key q) (Some made)
    (lookup (bytes_eq q) old)) c.in_ok-copied.ensures c.in_ok-insert.ensures.updates.0 in
    keeps-entered old new c.args.user.now made updated c.args.server.now are c.insert.ensures.unique absent
    c.in_ok-rules.ensures refl

pub returns-clause-entered : goal.returns-clause-entered
returns-clause-entered c =
    let old = c.args.kept.now.entries in
    let new = c.insert.new.self.entries in
    let made : KeptRules = record { rules = c.in_ok-rules.rules; edited = false } in
    let updated = subst
    (λ (key : List ℕ). (q : List ℕ) → lookup (bytes_eq q) new ≡ cond (bytes_eq key q) (Some made)
    (lookup (bytes_eq q) old)) c.in_ok-copied.ensures c.in_ok-insert.ensures.updates.0 in
    user-there old new c.args.user.now made updated
