use Rattle.mx_rule.specs.declared.kind.Kind.TheVariants.{Override, Content, Room, Sender, Underride}
use Rattle.mx_rule.proofs.ruleset.Ruleset.list.Goals as goal

pub returns-in-Override-clause-ordered : goal.returns-in-Override-clause-ordered
returns-in-Override-clause-ordered c = rw c.in-Override.is (c.self.invariant Override)

pub returns-in-Content-clause-ordered : goal.returns-in-Content-clause-ordered
returns-in-Content-clause-ordered c = rw c.in-Content.is (c.self.invariant Content)

pub returns-in-Room-clause-ordered : goal.returns-in-Room-clause-ordered
returns-in-Room-clause-ordered c = rw c.in-Room.is (c.self.invariant Room)

pub returns-in-Sender-clause-ordered : goal.returns-in-Sender-clause-ordered
returns-in-Sender-clause-ordered c = rw c.in-Sender.is (c.self.invariant Sender)

pub returns-in-Underride-clause-ordered : goal.returns-in-Underride-clause-ordered
returns-in-Underride-clause-ordered c = rw c.in-Underride.is (c.self.invariant Underride)
