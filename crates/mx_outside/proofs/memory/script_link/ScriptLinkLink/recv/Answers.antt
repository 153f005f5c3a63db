-- The call changes that exchange alone, as its script says.
use Rattle.mx_outside.proofs.Placed.{still_to_come, open_within, acts_at, receives_log}
use Rattle.mx_outside.proofs.memory.script_link.ScriptLinkLink.recv.Goals as goal

pub invariant_of-self : goal.invariant_of-self
invariant_of-self c =
    let inside = c.self.inside in
    let going = rw (← c.self.view_is) at c.requires.open in
    let within = open_within inside.opened inside.places.items c.args.exchange going in (
      c.self.invariant.0,
      still_to_come inside.opened _ inside.places.items c.recv-received.new.self within
          c.self.invariant.1,
    )

pub returns-clause-script : goal.returns-clause-script
returns-clause-script c =
    let inside = c.self.inside in
    let going = rw (← c.self.view_is) at c.requires.open in
    rw (← c.self.view_is) (acts_at inside.opened c.args.exchange inside.places.items c.index_mut.result.now
    c.recv-received.new.self _ _ _ _ _ going c.index_mut.ensures.value c.recv-received.ensures.script)

pub returns-clause-log : goal.returns-clause-log
returns-clause-log c = receives_log _ c.args.exchange _ _ _ c.requires.open (returns-clause-script c)
