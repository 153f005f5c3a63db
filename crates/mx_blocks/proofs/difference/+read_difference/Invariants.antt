use Rattle.std.proofs.Common.{◌-◌, length}
use Rattle.mx_blocks.proofs.difference.+read_difference.Given as goal

abbrev pub decreases-read_difference : goal.decreases-read_difference
decreases-read_difference l = length l.bytes.now - l.at
