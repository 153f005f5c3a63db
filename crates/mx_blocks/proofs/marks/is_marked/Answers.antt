use Rattle.std.proofs.Common.{nat_eq, get_or, ◌/◌, ◌%◌, ap}
use Rattle.std.proofs.lemmas.Nat.Bits.{shr_and_one}
use Rattle.mx_blocks.specs.Block.{mark_at}
use Rattle.mx_blocks.proofs.marks.is_marked.Goals as goal

pub returns : goal.returns
unfolding mark_at
returns c = ap (λ bit. nat_eq bit 1) (shr_and_one (get_or c.args.marks.now (c.args.row / 8) 0) (c.args.row % 8))
