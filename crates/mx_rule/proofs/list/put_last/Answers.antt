use Rattle.std.proofs.Common.{◌∙◌, ap, sym, map, string_bytes}
use Rattle.mx_rule.proofs.ListLemmas.{Entry, ids-last, map-map, rules-last}
use Rattle.mx_rule.proofs.list.put_last.Goals as goal

pub returns-in-Ok-clause-ids : goal.returns-in-Ok-clause-ids
returns-in-Ok-clause-ids c =
    let is = c.in_ok-id.ensures.ok ∙ c.id.ensures in
    sym (map-map c.insert.new.self.entries) ∙ ap (map (λ (e : Entry). string_bytes e.0)) c.in-Ok.ensures.entries
    ∙ ids-last c.args.by_id.now.entries c.in_ok-id.id c.args.rule is c.requires

pub returns-in-Ok-clause-rules : goal.returns-in-Ok-clause-rules
returns-in-Ok-clause-rules c =
    let is = c.in_ok-id.ensures.ok ∙ c.id.ensures in
    ap (map (λ (e : Entry). e.1)) c.in-Ok.ensures.entries
    ∙ rules-last c.args.by_id.now.entries c.in_ok-id.id c.args.rule is c.requires
