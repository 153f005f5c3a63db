use Rattle.std.proofs.lemmas.Nat.{le_bytes_4}
use Rattle.mx_journal.specs.Image.{number_bytes}
use Rattle.mx_journal.proofs.read.number_of.Goals as goal

pub returns : goal.returns
unfolding number_bytes
returns c = le_bytes_4 c.args.bytes.now _ c.requires (λ i. (c.type_inv.bytes i).fits) c.from_le_bytes.ensures
