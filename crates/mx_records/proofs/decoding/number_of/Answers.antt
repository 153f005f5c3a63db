use Rattle.std.proofs.lemmas.Nat.{le_bytes_8}
use Rattle.mx_records.proofs.decoding.number_of.Goals as goal

pub returns : goal.returns
returns c = le_bytes_8 c.args.bytes.now _ c.requires (λ i. (c.type_inv.bytes i).fits) c.from_le_bytes.ensures
