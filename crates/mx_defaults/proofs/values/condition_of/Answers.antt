use Rattle.mx_defaults.proofs.values.condition_of.Goals as goal

pub returns-in-Matches : goal.returns-in-Matches
returns-in-Matches c = rw c.in-Matches.is c.texts.ensures

pub returns-in-MatchesOwner : goal.returns-in-MatchesOwner
returns-in-MatchesOwner c = rw c.in-MatchesOwner.is c.texts-in-MatchesOwner.ensures

pub returns-in-ContainsOwner : goal.returns-in-ContainsOwner
returns-in-ContainsOwner c = rw c.in-ContainsOwner.is c.texts-in-ContainsOwner.ensures

pub returns-in-IsText : goal.returns-in-IsText
returns-in-IsText c = rw c.in-IsText.is c.texts-in-IsText.ensures

pub returns-in-IsTrue : goal.returns-in-IsTrue
returns-in-IsTrue c = rw c.in-IsTrue.is c.property_is_true.ensures

pub returns-in-Members : goal.returns-in-Members
returns-in-Members c = rw c.in-Members.is c.texts-in-Members.ensures

pub returns-in-MayNotifyRoom : goal.returns-in-MayNotifyRoom
returns-in-MayNotifyRoom c = rw c.in-MayNotifyRoom.is c.texts-in-MayNotifyRoom.ensures

pub returns-in-NamesOwner : goal.returns-in-NamesOwner
returns-in-NamesOwner c = rw c.in-NamesOwner.is c.texts-in-NamesOwner.ensures
