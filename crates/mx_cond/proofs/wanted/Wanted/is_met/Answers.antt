use Rattle.mx_cond.proofs.wanted.Wanted.is_met.Goals as goal

pub returns-in-ContainsDisplayName : goal.returns-in-ContainsDisplayName
returns-in-ContainsDisplayName c = rw c.in-ContainsDisplayName.is c.names_owner.ensures
