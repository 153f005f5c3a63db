-- A byte of a block.
use Rattle.mx_wire.proofs.Steps.{takes_in_block, takes_block}
use Rattle.mx_wire.proofs.reader.Reader.step_block.Goals as goal

pub returns-in-Some-clause-takes : goal.returns-in-Some-clause-takes
returns-in-Some-clause-takes c =
    rw (c.requires.stage, c.push_reserved.ensures.items) (takes_in_block _ _ _ _ _ _ (c.in-Some.ensures))

pub returns-in-None-clause-takes : goal.returns-in-None-clause-takes
returns-in-None-clause-takes c =
    let means = rw c.push_reserved.ensures.items at c.take_block.ensures.takes in
    rw c.requires.stage (takes_block _ _ _ _ _ _ _ _ (c.in-None.ensures) means)
