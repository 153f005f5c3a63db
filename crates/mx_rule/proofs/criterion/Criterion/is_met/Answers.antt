use Rattle.mx_rule.proofs.criterion.Criterion.is_met.Goals as goal

pub returns-in-Conditions : goal.returns-in-Conditions
returns-in-Conditions c = rw (c.in-Conditions.is, ← c.as_slice.ensures) c.all_hold.ensures

pub returns-in-Word : goal.returns-in-Word
returns-in-Word c = rw c.in-Word.is c.is_word_of_body.ensures
