-- What the block means.
use Rattle.std.proofs.Common.{sym, subst}
use Rattle.mx_wire.specs.Reading.Reading.{Got}
use Rattle.mx_wire.specs.Reply.{Outcome, ReadsFrom}
use Rattle.mx_wire.specs.Reply.ReadsFrom.{no_head, interim, final}
use Rattle.mx_wire.proofs.reader.Reader.take_block.Goals as goal

pub returns-in-Refuse-clause-takes : goal.returns-in-Refuse-clause-takes
returns-in-Refuse-clause-takes c = λ ended u o is.
    let meant = rw c.deref.ensures.value at (c.in-Refuse.ensures) in
    subst (λ (x : Outcome). ReadsFrom ended (Got c.args.self.now.held.items u) x) (sym is) (no_head meant)

pub returns-in-Interim-clause-takes : goal.returns-in-Interim-clause-takes
returns-in-Interim-clause-takes c = λ ended u o resumes.
    let meant = rw c.deref.ensures.value at (c.in-Interim.ensures) in
    let rest = rw c.clear.ensures.items at resumes in
    interim meant rest

pub returns-in-Final-clause-takes : goal.returns-in-Final-clause-takes
returns-in-Final-clause-takes c = λ ended u o resumes.
    let meant = rw c.deref.ensures.value at (c.in-Final.ensures) in
    let rest = rw c.clear.ensures.items at resumes in
    final meant (c.body_stage-self.ensures c.in-Final.status ended u o rest)
