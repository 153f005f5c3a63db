use Rattle.std.proofs.Common.{sym, ◌∙◌}
use Rattle.mx_event.proofs.EventLemmas.{body_of-look}
use Rattle.mx_cond.proofs.property_path.body_of.Goals as goal

pub returns : goal.returns
returns c = c.body.ensures ∙ sym (body_of-look c.args.event.now)
