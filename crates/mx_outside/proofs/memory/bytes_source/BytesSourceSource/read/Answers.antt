-- The piece that was copied is the next of what is left.
use Rattle.std.proofs.Common.{◌≡◌, ◌+◌, ◌-◌, ◌≤◌, length, drop, ap, sym, ◌∙◌, arith, length-drop}
use Rattle.mx_outside.specs.BytesSource.{Pieces}
use Rattle.mx_outside.proofs.Pieces.{next_piece}
use Rattle.mx_outside.proofs.memory.bytes_source.BytesSourceSource.read.Goals as goal

pub returns-clause-next : goal.returns-clause-next
returns-clause-next c =
    let bytes = c.self.inside.bytes.items in
    let given = c.self.inside.given in
    let count = c.min-count.result in
    let left : drop given bytes ≡ c.args.self.now.left = ap (λ (pieces : Pieces). pieces.left) c.self.view_is in
    let fits : count ≤ length (drop given bytes) = simp length-drop (omega arith) in
    sym left ∙ next_piece bytes c.copy_from_slice.new.self _ given count (given + count - given) (omega arith) (cc) fits
