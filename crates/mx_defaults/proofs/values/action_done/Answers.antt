use Rattle.mx_defaults.proofs.values.action_done.Goals as goal

pub returns-in-Sound : goal.returns-in-Sound
returns-in-Sound c = rw c.in-Sound.is c.texts.ensures

pub returns-in-Highlight : goal.returns-in-Highlight
returns-in-Highlight c = rw c.in-Highlight.is c.texts-in-Highlight.ensures
