use Rattle.std.proofs.Common.{◌∙◌, ap, position}
use Rattle.indexmap.specs.IndexMap.{keys, values}
use Rattle.mx_rule.specs.Editing.{has_id}
use Rattle.mx_rule.proofs.ChangeLemmas.{place-by_key}
use Rattle.mx_rule.proofs.list.RuleList.place_of.Goals as goal

pub returns-clause-place : goal.returns-clause-place
returns-clause-place c =
    let kept = c.self.inside.rules in
    c.get_index_of.ensures.index
    ∙ place-by_key c.args.id.now (keys kept) (values kept) c.self.invariant.0
    ∙ ap (position (has_id c.args.id.now)) c.self.view_is
