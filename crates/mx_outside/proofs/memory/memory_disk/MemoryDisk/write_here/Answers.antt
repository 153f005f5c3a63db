-- Within the budget there is memory for the content.
use Rattle.std.proofs.Common.{ap, length}
use Rattle.std.proofs.lemmas.Bool.{false≢true}
use Rattle.mx_outside.specs.MemoryDisk.{Medium}
use Rattle.mx_outside.proofs.Medium.{covered_end}
use Rattle.mx_outside.proofs.memory.memory_disk.MemoryDisk.write_here.Goals as goal

pub returns-in_err-reserve-clause-within : goal.returns-in_err-reserve-clause-within
returns-in_err-reserve-clause-within c = λ covers.
    let inside = c.self.inside in
    absurd (false≢true (c.in_err-reserve.ensures.within
    (covered_end inside.first.items inside.image inside.log c.args.self.now c.args.at (length c.args.piece.now)
    (rw (← c.self.view_is) c.self.invariant) (ap (λ (disk : Medium). disk.first) c.self.view_is)
    (ap (λ (disk : Medium). disk.changes) c.self.view_is) c.requires.place covers)))
