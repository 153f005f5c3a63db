use Rattle.mx_blocks.specs.Entries.{rows_left_to_cut}
use Rattle.mx_blocks.proofs.CutLemmas.{CutsOn}
use Rattle.mx_blocks.proofs.cutting.cut_every.Given as goal

abbrev pub invariant-loop-index : goal.invariant-loop-index
invariant-loop-index l = CutsOn l.position l.initial.threads.entries l.threads.entries l.dropped
    l.initial.opened l.opened

abbrev pub decreases-loop-index : goal.decreases-loop-index
decreases-loop-index l = rows_left_to_cut l.position l.threads.entries
