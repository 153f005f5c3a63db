use Rattle.std.proofs.Common.{◌≡◌, ℕ, List, Some, None, cond, sym, subst, ◌∙◌}
use Rattle.std.specs.Map.{lookup}
use Rattle.std.specs.Str.{bytes_eq}
use Rattle.mx_room.proofs.HostedLemmas.{keeps-entered, none_from}
use Rattle.mx_room.proofs.rooms.enter.Goals as goal

pub returns-clause-keeps : goal.returns-clause-keeps
returns-clause-keeps c = λ server are.
    let old = c.args.rooms.now.entries in
    let new = c.insert.new.self.entries in
    let made = c.in_ok-new.field-0 in
    let absent : lookup (bytes_eq c.args.id.now) old ≡ None
    = none_from _ (sym c.contains_key.ensures ∙ c.if-contains_key.false) in
    let updated = subst
    (λ (key : List ℕ). (q : List ℕ) → lookup (bytes_eq q) new ≡ cond (bytes_eq key q) (Some made)
    (lookup (bytes_eq q) old)) c.in_ok-copied.ensures c.in_ok-insert.ensures.updates.0 in
    keeps-entered old new c.args.id.now made updated server are c.insert.ensures.unique absent
    c.in_ok-new.ensures.state c.in_ok-new.ensures.users c.in_ok-new.ensures.known
